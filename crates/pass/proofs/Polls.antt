-- The theorems of Totals at one value each: hypotheses and conclusions, computed on records of 32 bytes. A wrong poller, a sum that a reset begins anew and a
-- premise that allows too much are refused here first. Assumes nothing.
--   pieces         == ten records in three pieces, the last of them empty: frames of AUI and of TP0; a runt, a collision, a reset and a frame of AUI; nothing
--   frames_polled, octets_polled, collisions_polled, total_polled == four counters: their readings, the sum of the differences, and the credits
--   round_of_octets, round_of_frames == octets that are too many though their frames are few, and one frame too many: the premise does not allow them
--   few_polled     == the premise holds of AUI's octets, the first frame of which wraps them
--   halves         == 2^31 frames, twice: the readings, and a sum that 32 bits do not hold
--   polls          == three polls of AUI's Readable Frames through the registers, with a frame between the bytes and a reset between the polls
--   numbers_polled == what they read, the sum, and the credits
--   reads_polled, few_spanned == they read it, and the premise holds between their first bytes
use Prim.Native.Nat.{ℕ, ◌+◌, ◌%◌, ◌^◌, ◌<◌}
use mathlib.Core.Path.{◌≡◌, refl, ap, ap₂, ◌∙◌}
use mathlib.Core.List.{List, [], ◌∷◌}
use native.Mathlib.Omega.{arith}
use lib.Dec.{lit<, lit≤}
use lib.ListN.{take, drop}
use Rattle.ports.specs.Sets.{aui}
use Rattle.record.specs.Records.{d_read_record, reset_record}
use Rattle.attributes.specs.Octets.{total_after, total_of}
use Rattle.himib.specs.Runs.{Point, all_at, happening, accepted, history_of, run_of, if_burst, counter_at}
use Rattle.himib.proofs.Runs.{all_given}
use Rattle.pass.specs.Judged.{history, run}
use Rattle.pass.specs.Pass.{bytes_read, undisturbed, credit, collision_credit, octet_credit, sum_of}
use Rattle.pass.specs.Examples.{up}
use Rattle.pass.specs.Totals.{Counter, attribute, collisions, octets, credit_to, summed, readings_at, joined, Few}
use Rattle.pass.specs.Totals.{Poll, read_at, AllRead, numbers_read, spans, again, frame}
use Rattle.pass.proofs.Computing.{step_computes, aui_frame, selecting}
use Rattle.pass.proofs.Instances.{last, brink, mixed}
use Rattle.pass.proofs.Credited.{Fit, fit_run, fit_start}
use Rattle.pass.proofs.Counters.{counted_from, credits_on}
use Rattle.pass.proofs.Frames.{Fresh, fresh_start, frames_from, frames_still}

-- THREE POLLS

abbrev pieces : List (List (List ℕ))
pieces = take 6 mixed ∷ drop 6 mixed ∷ [] ∷ []

-- the readings; their sum, and the credits
abbrev polled : Counter → List (List ℕ)
polled c =
    let readings : List ℕ = readings_at c brink pieces in
    readings ∷ (summed readings ∷ sum_of (credit_to c) (history brink (joined pieces)) ∷ []) ∷ []

frames_polled : polled (attribute aui 0) ≡ (last ∷ 0 ∷ 1 ∷ 1 ∷ []) ∷ (2 ∷ 2 ∷ []) ∷ []
unfolding step_computes happening run_of history_of readings_at total_of total_after credit sum_of if_burst
frames_polled = refl

-- the first frame takes the octets over the wrap
octets_polled : polled (attribute aui 1) ≡ (last ∷ 63 ∷ 127 ∷ 127 ∷ []) ∷ (128 ∷ 128 ∷ []) ∷ []
unfolding step_computes happening run_of history_of readings_at total_of total_after credit sum_of if_burst
octets_polled = refl

collisions_polled : polled collisions ≡ (last ∷ last ∷ 0 ∷ 0 ∷ []) ∷ (1 ∷ 1 ∷ []) ∷ []
unfolding step_computes happening run_of history_of readings_at total_of total_after collision_credit sum_of if_burst
collisions_polled = refl

total_polled : polled octets ≡ (last ∷ 1581 ∷ 1645 ∷ 1645 ∷ []) ∷ (1646 ∷ 1646 ∷ []) ∷ []
unfolding step_computes happening run_of history_of readings_at total_of total_after octet_credit sum_of if_burst
total_polled = refl

-- THE PREMISE DOES NOT HOLD

up_fresh : Fresh up
up_fresh = fresh_start (all_at 0)

round_of_octets : Few (attribute aui 1) up (again (2 ^ 26) frame ∷ []) → ⊥
unfolding Few
round_of_octets few = omega (arith, (frames_from up up_fresh (2 ^ 26)).1, few.0)

round_of_frames : Few (attribute aui 0) up (again (2 ^ 32) frame ∷ []) → ⊥
unfolding Few
round_of_frames few = omega (arith, (frames_from up up_fresh (2 ^ 32)).0, few.0)

-- THE PREMISE HOLDS

few_polled : Few (attribute aui 1) brink pieces
unfolding step_computes happening run_of history_of credit sum_of if_burst Few
few_polled = (lit< tt, (lit< tt, (lit< tt, tt)))

-- TWO TIMES 2^31 FRAMES

abbrev half : List (List ℕ)
half = again (2 ^ 31) frame

abbrev halves : List (List (List ℕ))
halves = half ∷ half ∷ []

sum_of_halves : summed (0 ∷ 2147483648 ∷ 0 ∷ []) ≡ 4294967296
unfolding total_of total_after
sum_of_halves = refl

up_fit : Fit up
up_fit = fit_start (all_at 0) (all_given 0 (lit< tt))

-- from a point where nothing has been counted or 2^31 frames have been
module _ (p : Point) (fit : Fit p) (u : Fresh p) where
  half_more : counter_at aui 0 (run p half) ≡ (counter_at aui 0 p + 2147483648) % 2 ^ 32
  half_more =
      (counted_from p fit half).each_counter aui 0 (lit< tt) (lit< tt)
      ∙ ap (λ (n : ℕ). (counter_at aui 0 p + n) % 2 ^ 32) (frames_from p u (2 ^ 31)).0

none_yet : counter_at aui 0 up ≡ 0
unfolding step_computes
none_yet = refl

first_half : counter_at aui 0 (run up half) ≡ 2147483648
first_half = half_more up up_fit up_fresh ∙ ap (λ (n : ℕ). (n + 2147483648) % 2 ^ 32) none_yet

second_half : counter_at aui 0 (run (run up half) half) ≡ 0
second_half =
    half_more (run up half) (fit_run up half up_fit) (frames_still up up_fresh (2 ^ 31))
    ∙ ap (λ (n : ℕ). (n + 2147483648) % 2 ^ 32) first_half

halves_read : readings_at (attribute aui 0) up halves ≡ 0 ∷ 2147483648 ∷ 0 ∷ []
unfolding readings_at
halves_read = rw (none_yet, first_half, second_half)

halves_few : Few (attribute aui 0) up halves
unfolding Few
halves_few =
    (rw (frames_from up up_fresh (2 ^ 31)).0 (lit< tt), (rw (frames_from (run up half) (frames_still up up_fresh (2 ^ 31)) (2 ^ 31)).0 (lit< tt), tt))

halves_credit : sum_of (credit aui 0) (history up (joined halves)) ≡ 4294967296
unfolding history_of sum_of
halves_credit =
    credits_on (credit aui 0) up half (joined (half ∷ []))
    ∙ ap₂ (λ (m n : ℕ). m + n) (frames_from up up_fresh (2 ^ 31)).0
    (credits_on (credit aui 0) (run up half) half []
    ∙ ap (λ (n : ℕ). n + 0) (frames_from (run up half) (frames_still up up_fresh (2 ^ 31)) (2 ^ 31)).0)

-- THROUGH THE REGISTERS

abbrev three : List (List ℕ)
three = d_read_record ∷ d_read_record ∷ d_read_record ∷ []

abbrev one : Poll
one = record { lead = selecting; first = d_read_record; rest = aui_frame ∷ three }

abbrev others : List Poll
others = record { lead = reset_record ∷ aui_frame ∷ selecting; first = d_read_record; rest = three } ∷ record { lead = []; first = d_read_record; rest = three } ∷ []

abbrev numbers : List ℕ
numbers = numbers_read brink (one ∷ others)

numbers_polled : numbers ∷ (summed numbers ∷ sum_of (credit aui 0) (history (read_at brink one) (joined (spans one others))) ∷ []) ∷ []
    ≡ (last ∷ 1 ∷ 1 ∷ []) ∷ (2 ∷ 2 ∷ []) ∷ []
unfolding step_computes happening run_of history_of accepted bytes_read numbers_read spans total_of total_after credit sum_of if_burst
numbers_polled = refl

reads_polled : AllRead (attribute aui 0) brink (one ∷ others)
unfolding step_computes happening run_of history_of accepted bytes_read undisturbed AllRead
reads_polled = (
  record { page = refl; register = refl; sequence = record { begins = refl; first = refl; quiet = refl; enough = lit≤ tt } },
  (
    record { page = refl; register = refl; sequence = record { begins = refl; first = refl; quiet = refl; enough = lit≤ tt } },
    (record { page = refl; register = refl; sequence = record { begins = refl; first = refl; quiet = refl; enough = lit≤ tt } }, tt),
  ),
)

few_spanned : Few (attribute aui 0) (read_at brink one) (spans one others)
unfolding step_computes happening run_of history_of accepted credit sum_of if_burst spans Few
few_spanned = (lit< tt, (lit< tt, tt))
