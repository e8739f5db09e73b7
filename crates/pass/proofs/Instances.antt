-- The theorems of Counters, Readings, Addresses and HostPast at one value each: hypotheses and conclusions, computed on records of 32 bytes. Assumes nothing.
--   brink                 == power-up with every counter and both totals one below the wrap, and every address 0
--   mixed                 == ten records: link pulses, frames, a runt, a collision, a reset
--   brink_given           == such counters can be given
--   aui_counted, tp0_counted, totals_counted == where the counters stand after them, and what the past credits them with
--   read_at_lem, totals_at, bound_at == two readings with the wrap between them
--   five_bytes, six_bytes_lem, then_a_frame == an address written, and replaced by a frame
--   selected_at, brink_six, row_at, broken_at == P and R, and the bytes of D writes in a row
use Prim.Native.Nat.{ℕ, ◌*◌, ◌%◌, ◌^◌, ◌≤◌, ◌<◌}
use mathlib.Core.Path.{◌≡◌, refl, sym, ap, subst}
use mathlib.Core.Bool.{Bool, true, false}
use mathlib.Core.List.{List, [], ◌∷◌, ◌++◌, map}
use lib.Dec.{lit<, lit≤}
use Rattle.std.specs.Prelude.{Ok}
use lib.ListN.{length, get_or, take, drop, replicate}
use Rattle.ports.specs.Sets.{aui}
use Rattle.attributes.specs.Octets.{difference_of, check_of}
use Rattle.attributes.specs.Sums.{sum_over}
use Rattle.attributes.proofs.NineLaws.{address_alike}
use Rattle.himib.specs.Runs.{Point, Happening, happening, start, Given, accepted, if_burst, history_of, run_of, all_at}
use Rattle.himib.specs.Runs.{counter_at, transmit_collisions, total_octets, address_at}
use Rattle.pass.specs.Judged.{happens, history, run}
use Rattle.pass.specs.Pass.{credit, collision_credit, octet_credit, sum_of, written_byte, completes, address_given, last_given}
use Rattle.pass.specs.HostPast.{page_by, register_by, row_after, in_a_row}
use Rattle.record.specs.Records.{burst_record, pulse_record, c_write_record, d_write_record, d_read_record, reset_record}
use Rattle.himib.proofs.Runs.{all_given, found, found_after, found_once, found_after_once}
use Rattle.pass.proofs.Computing.{step_computes}

-- THE COUNTERS

abbrev pub last : ℕ
last = 4294967295

abbrev pub brink : Point
brink = start (all_at last)

brink_given : Given (all_at last)
brink_given = all_given last (lit< tt)

abbrev sender : List ℕ
sender = 2 ∷ 0 ∷ 0 ∷ 7 ∷ 8 ∷ 9 ∷ []

-- four link pulses at TP0; a frame of 64 octets at AUI, one of 1,518 and a runt of 63 at TP0; a late collision of the two; a reset; the first frame again
abbrev pub mixed : List (List ℕ)
mixed =
    pulse_record 1 ∷ pulse_record 1 ∷ pulse_record 1 ∷ pulse_record 1
    ∷ burst_record 256 0 1000 64 0 0 0 sender
    ∷ burst_record 1 0 13000 1518 0 0 0 sender
    ∷ burst_record 1 0 13000 63 0 0 0 sender
    ∷ burst_record 257 0 600 0 0 513 10 sender
    ∷ reset_record
    ∷ burst_record 256 0 1000 64 0 0 0 sender
    ∷ []

abbrev registers : List ℕ
registers = 0 ∷ 1 ∷ 2 ∷ 3 ∷ 4 ∷ 5 ∷ 6 ∷ 7 ∷ 8 ∷ 9 ∷ 10 ∷ 11 ∷ 12 ∷ []

-- a port's thirteen counters, and the sums of their credits
abbrev counted_of : ℕ → Point → List Happening → List (List ℕ)
counted_of i p hs = map (λ r. counter_at i r p) registers ∷ map (λ r. sum_of (credit i r) hs) registers ∷ []

aui_counted : found happens (counted_of aui) brink mixed
    ≡ (1 ∷ 127 ∷ last ∷ last ∷ last ∷ last ∷ last ∷ 0 ∷ 0 ∷ last ∷ last ∷ last ∷ 0 ∷ [])
    ∷ (2 ∷ 128 ∷ 0 ∷ 0 ∷ 0 ∷ 0 ∷ 0 ∷ 1 ∷ 1 ∷ 0 ∷ 0 ∷ 0 ∷ 1 ∷ [])
    ∷ []
unfolding step_computes happening run_of history_of credit sum_of if_burst
aui_counted = found_once happens (counted_of aui) brink mixed refl

tp0_counted : found happens (counted_of 0) brink mixed
    ≡ (0 ∷ 1517 ∷ last ∷ last ∷ last ∷ last ∷ 0 ∷ 0 ∷ 0 ∷ last ∷ last ∷ last ∷ 0 ∷ [])
    ∷ (1 ∷ 1518 ∷ 0 ∷ 0 ∷ 0 ∷ 0 ∷ 1 ∷ 1 ∷ 1 ∷ 0 ∷ 0 ∷ 0 ∷ 1 ∷ [])
    ∷ []
unfolding step_computes happening run_of history_of credit sum_of if_burst
tp0_counted = found_once happens (counted_of 0) brink mixed refl

-- Transmit Collisions and its credits, Total Octets and its credits
abbrev totals_of : Point → List Happening → List ℕ
totals_of p hs = transmit_collisions p ∷ sum_of collision_credit hs ∷ total_octets p ∷ sum_of octet_credit hs ∷ []

totals_counted : found happens totals_of brink mixed ≡ 0 ∷ 1 ∷ 1645 ∷ 1646 ∷ []
unfolding step_computes happening run_of history_of collision_credit octet_credit sum_of if_burst
totals_counted = found_once happens totals_of brink mixed refl

-- TWO READINGS

-- after the link pulses, and after the six records more
abbrev earlier : Point
earlier = run brink (take 4 mixed)

abbrev rest : List (List ℕ)
rest = drop 4 mixed

-- what a counter differs by, between the points q and p
abbrev moves : ℕ → ℕ → Point → Point → ℕ
moves i r q p = difference_of (counter_at i r p) (counter_at i r q)

-- AUI's Readable Frames and Readable Octets: the readings, the difference, and the credits between them
abbrev readings_of : Point → Point → List Happening → List ℕ
readings_of q p hs =
    counter_at aui 0 q ∷ counter_at aui 0 p ∷ moves aui 0 q p ∷ sum_of (credit aui 0) hs
    ∷ counter_at aui 1 p ∷ moves aui 1 q p ∷ sum_of (credit aui 1) hs
    ∷ []

read_at_lem : found happens (readings_of earlier) earlier rest ≡ last ∷ 1 ∷ 2 ∷ 2 ∷ 127 ∷ 128 ∷ 128 ∷ []
unfolding step_computes happening run_of history_of credit sum_of if_burst
read_at_lem = found_once happens (readings_of earlier) earlier rest refl

-- Transmit Collisions and its credits; Total Octets, TP0's octets, and the nine ports' octets together
abbrev totals_moved : Point → Point → List Happening → List ℕ
totals_moved q p hs =
    difference_of (transmit_collisions p) (transmit_collisions q) ∷ sum_of collision_credit hs
    ∷ difference_of (total_octets p) (total_octets q) ∷ moves 0 1 q p ∷ sum_over 9 (λ i. moves i 1 q p) % 2 ^ 32
    ∷ []

totals_at : found happens (totals_moved earlier) earlier rest ≡ 1 ∷ 1 ∷ 1646 ∷ 1518 ∷ 1646 ∷ []
unfolding step_computes happening run_of history_of collision_credit sum_of if_burst sum_over
totals_at = found_once happens (totals_moved earlier) earlier rest refl

-- frames credited, and what the readings of frames and octets differ by
abbrev Bounded : ℕ → ℕ → ℕ → Type 0
Bounded credited frames octets =
    (credited ≤ 2829359) × (64 * credited ≤ octets) × (octets ≤ 1518 * credited) × (check_of frames octets ≡ Ok true)

bounded : Bounded 2 2 128
unfolding check_of
bounded = (lit≤ tt, lit≤ tt, lit≤ tt, refl)

bound_at : Bounded (sum_of (credit aui 0) (history earlier rest)) (moves aui 0 earlier (run earlier rest)) (moves aui 1 earlier (run earlier rest))
bound_at = subst (λ (l : List ℕ). Bounded (get_or l 3 0) (get_or l 2 0) (get_or l 5 0)) (sym read_at_lem) bounded

-- AN ADDRESS

-- P 31 and R 14 are selected, AUI's address, and five bytes are written; a sixth, and a seventh; a frame of 64 octets comes, and a runt of 63 from elsewhere
abbrev five : List (List ℕ)
five = c_write_record 0x1f ∷ c_write_record 0xee ∷ d_write_record 1 ∷ d_write_record 2 ∷ d_write_record 3 ∷ d_write_record 4 ∷ d_write_record 5 ∷ []

abbrev more : List (List ℕ)
more =
    d_write_record 6
    ∷ d_write_record 7
    ∷ burst_record 256 0 1000 64 0 0 0 sender
    ∷ burst_record 256 0 1000 63 0 0 0 (6 ∷ 5 ∷ 4 ∷ 3 ∷ 2 ∷ 1 ∷ [])
    ∷ []

abbrev six_bytes : List ℕ
six_bytes = 1 ∷ 2 ∷ 3 ∷ 4 ∷ 5 ∷ 6 ∷ []

-- where the address stands, and what the past says
abbrev address_of : Point → List Happening → List (List ℕ)
address_of p hs = address_at aui p ∷ last_given aui (address_at aui brink) hs ∷ []

five_bytes : found happens address_of brink five ≡ replicate 6 0 ∷ replicate 6 0 ∷ []
unfolding step_computes happening run_of history_of accepted credit if_burst written_byte address_given last_given
five_bytes = found_once happens address_of brink five refl

six_bytes_lem : found happens address_of brink (five ++ take 2 more) ≡ six_bytes ∷ six_bytes ∷ []
unfolding step_computes happening run_of history_of accepted credit if_burst written_byte address_given last_given
six_bytes_lem = found_once happens address_of brink (five ++ take 2 more) refl

-- the frame, and the runt after it
abbrev bursts : List (List (List ℕ))
bursts = take 1 (drop 2 more) ∷ drop 2 more ∷ []

then_a_frame : found_after happens address_of brink (five ++ take 2 more) bursts ≡ (sender ∷ sender ∷ []) ∷ (sender ∷ sender ∷ []) ∷ []
unfolding step_computes happening run_of history_of accepted credit if_burst written_byte address_given last_given
then_a_frame = found_after_once happens address_of brink (five ++ take 2 more) bursts refl

-- THE HOST'S RECORD

abbrev deselected : List (List ℕ)
deselected = c_write_record 0x1f ∷ c_write_record 0xee ∷ reset_record ∷ c_write_record 0xe3 ∷ []

-- P and R, in the record and by the past
abbrev chosen_of : Point → List Happening → List ℕ
chosen_of p hs = p.host.page ∷ p.host.register ∷ page_by 0 hs ∷ register_by 0 hs ∷ []

abbrev none_or_all : List (List (List ℕ))
none_or_all = [] ∷ drop 2 deselected ∷ []

-- after the first two of them, and after all
selected_at : found_after happens chosen_of brink (take 2 deselected) none_or_all ≡ (31 ∷ 14 ∷ 31 ∷ 14 ∷ []) ∷ (0 ∷ 3 ∷ 0 ∷ 3 ∷ []) ∷ []
unfolding step_computes happening run_of history_of written_byte page_by register_by
selected_at = found_after_once happens chosen_of brink (take 2 deselected) none_or_all refl

brink_six : (i : ℕ) → i < 9 → length (address_at i brink) ≡ 6
brink_six i l = ap length (address_alike _ i l)

-- one record more: whether it completes AUI's address, and the bytes in a row with it
abbrev met_by : List ℕ → Point → List Happening → Bool × List ℕ
met_by r p hs = let h : Happening = happens p r in (completes aui h, row_after (in_a_row [] hs) h)

-- the sixth byte, which the copy in the record ends with, and the seventh
row_at : (found happens (met_by (d_write_record 6)) brink five ≡ (true, six_bytes))
    × ((happens (run brink five) (d_write_record 6)).after.host.bytes ≡ six_bytes)
    × (found happens (met_by (d_write_record 7)) brink (five ++ take 1 more) ≡ (false, six_bytes ++ (7 ∷ [])))
unfolding step_computes happening run_of history_of accepted written_byte in_a_row
row_at = (
  found_once happens (met_by (d_write_record 6)) brink five refl,
  refl {a = six_bytes},
  found_once happens (met_by (d_write_record 7)) brink (five ++ take 1 more) refl,
)

-- a D read after the fifth byte, and then the sixth
broken_at : found happens (met_by (d_write_record 6)) brink (five ++ (d_read_record ∷ [])) ≡ (false, 6 ∷ [])
unfolding step_computes happening run_of history_of accepted written_byte in_a_row
broken_at = found_once happens (met_by (d_write_record 6)) brink (five ++ (d_read_record ∷ [])) refl
