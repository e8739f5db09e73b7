-- Demand 3 for the change bits: after any list of records from power-up a change bit is one exactly if its event came after the last accepted read of its
-- register or reset. Assumes nothing.
--   set_read_set, each_register == both sides computed on lists of records
--   events_at         == the bits that `events_of` sets are those of the event, register by register
--   step_bit          == one record clears a bit, or leaves it and adds its event
--   bits_after        == the same along a list of records, from any bits at all
--   change_bits_by_past == demand 3
use Rattle.std.specs.Prelude.{Option}
use Prim.Native.Nat.{ℕ, zero, suc, ◌+◌, ◌*◌, ◌/◌, ◌%◌, ◌<◌}
use mathlib.Core.Path.{◌≡◌, refl, sym, ap, ◌∙◌}
use mathlib.Core.Bool.{Bool, true, false, cond, not, ◌&&◌, ◌||◌, and-true, and-false, or-false}
use mathlib.Core.List.{List, [], ◌∷◌, ◌++◌}
use native.Mathlib.Omega.{arith}
use borrow.Author.Tests.{eq-eqb, ne_eqb}
use lib.Dec.{eqb, eqb-suc-suc, lit<}
use lib.ListN.{length, get_or, set, replicate, length-set, get_or-replicate}
use lib.Bits.{bit_or, bit_xor, differ, xor_step}
use Rattle.ports.specs.Sets.{aui, has}
use Rattle.ports.proofs.Sets.{has_none, has_or, has_mod, has_power}
use Rattle.ports.proofs.Each.{each_length, each_at}
use Rattle.record.specs.declared.Access.{Access}
use Rattle.record.specs.declared.Access.TheVariants.{WriteC, WriteD, ReadC, ReadD}
use Rattle.record.specs.declared.Asked.{Asked}
use Rattle.record.specs.declared.Asked.TheVariants as ask
use Rattle.record.specs.declared.Burst.{Burst}
use Rattle.record.specs.Refusals.{record_of}
use Rattle.record.specs.Accepted.{kind_number}
use Rattle.record.specs.Records.{no_address, burst_record, pulse_record, c_write_record, d_read_record, reset_record}
use Rattle.burst.specs.Marks.{marks_of}
use Rattle.repeater.specs.declared.Repeater.{Repeater}
use Rattle.repeater.specs.declared.Bursted.{Bursted}
use Rattle.repeater.specs.Repeater.{quieted, set_to, got_of, followed, burst_of, partitioned_of, linked_of}
use Rattle.host.specs.declared.Host.{Host}
use Rattle.answer.specs.declared.Answer.{Answer}
use Rattle.answer.specs.Answer.{outputs_of}
use Rattle.attributes.specs.declared.Nine.{Nine}
use Rattle.attributes.specs.declared.Due.{Due}
use Rattle.attributes.specs.Nine.{address_changes, counter_of, Proper}
use Rattle.attributes.specs.Credits.{due_of, credited_all}
use Rattle.attributes.proofs.NineLaws.{change_seen}
use Rattle.changes.specs.Changes.{bit7, events_of, noted}
use Rattle.chip.specs.declared.Core.{Core}
use Rattle.chip.specs.declared.Chip.{Chip}
use Rattle.chip.specs.Chip.{moved, with_changes}
use Rattle.access.specs.declared.Acted.{Acted}
use Rattle.access.specs.Access.{c_read_of, obeyed, selected_by, served}
use Rattle.himib.specs.declared.Stepped.{Stepped}
use Rattle.himib.specs.Bursts.{activity_of, met_by, burst_core, noted_on, burst_on}
use Rattle.himib.specs.Step.{addressed_at, taken, step_of}
use Rattle.himib.specs.Runs.{Point, Happening, happening, start, Given, accepted, if_burst, history_of, run_of, all_at}
use Rattle.himib.proofs.StepLaws.{burst_consistent, counter_addressed}
use Rattle.himib.proofs.Runs.{all_given, found, found_after, found_once, found_after_once}
use Rattle.pass.specs.Judged.{happens, history, run}
use Rattle.pass.specs.Pass.{change_bit, differs, changes, is_change, clears, none_of, came_after, ChangeBitsByPast}
use Rattle.pass.specs.Examples.{up}
use Rattle.pass.proofs.Computing.{step_computes}
use Rattle.record.proofs.KindLaws.{quiet_is_no}
use Rattle.pass.proofs.Accesses.{after_write, after_read}
use Rattle.pass.proofs.Credited.{Fit, fit_after, fit_start}

-- AT ONE VALUE

given_up : Given (all_at 0)
given_up = all_given 0 (lit< tt)

-- bit j of register R, and whether its event came after the last clearing record
abbrev told : ℕ → ℕ → Point → List Happening → List Bool
told r j p hs = change_bit r j p ∷ came_after (changes r j) (clears r) hs ∷ []

abbrev yes : List Bool
yes = true ∷ true ∷ []

abbrev no : List Bool
no = false ∷ false ∷ []

-- AUI is partitioned by a long collision, and connected again
abbrev cut : List (List ℕ)
cut = burst_record 0b100000000 0b00100 2000 0 0 100 1025 no_address ∷ []

abbrev joined : List (List ℕ)
joined = burst_record 0b100000000 0 513 0 0 0 0 no_address ∷ []

-- register R of P 1 is selected and read; P 1 has no R 5, so that this read is turned away
abbrev look : ℕ → List (List ℕ)
look r = c_write_record 1 ∷ c_write_record (224 + r) ∷ d_read_record ∷ []

-- TP0 and TP1 are partitioned so
abbrev split : List (List ℕ)
split = replicate 4 (pulse_record 0b11) ++ (burst_record 0b11 0 2000 0 0 100 1025 no_address ∷ [])

-- TP0, whose link has come up, sends a frame from the address a, with loopback missing and SQE Test seen
abbrev frame : ℕ → List (List ℕ)
frame a = replicate 4 (pulse_record 0b1) ++ (burst_record 0b1 0b11000 1000 64 0 0 0 (a ∷ replicate 5 0) ∷ [])

-- AUI sends one
abbrev greeting : List (List ℕ)
greeting = burst_record 0b100000000 0 1000 64 0 0 0 (1 ∷ replicate 5 0) ∷ []

-- after that collision: nothing, a read, a read and the other change, reads of other registers, and a reset
abbrev endings : List (List (List ℕ))
endings = [] ∷ look 1 ∷ (look 1 ++ joined) ∷ look 0 ∷ look 5 ∷ (reset_record ∷ []) ∷ []

set_read_set : found_after happens (told 1 7) up cut endings ≡ yes ∷ no ∷ yes ∷ yes ∷ yes ∷ no ∷ []
unfolding step_computes run_of history_of happening accepted if_burst changes none_of came_after
set_read_set = found_after_once happens (told 1 7) up cut endings refl

-- TP0's and TP1's link, loopback, SQE Test and TP0's address
abbrev five : Point → List Happening → List (List Bool)
five p hs = told 2 0 p hs ∷ told 2 1 p hs ∷ told 3 7 p hs ∷ told 4 7 p hs ∷ told 6 0 p hs ∷ []

-- the address is read, and TP0 sends from it again
abbrev again : List (List (List ℕ))
again = [] ∷ (look 6 ++ frame 1) ∷ []

each_register : (found happens (told 0 0) up (split ++ look 5) ≡ yes)
    × (found happens (told 1 7) up cut ≡ yes)
    × (found_after happens five up (frame 1) again ≡ (yes ∷ no ∷ yes ∷ yes ∷ yes ∷ []) ∷ (yes ∷ no ∷ yes ∷ yes ∷ no ∷ []) ∷ [])
    × (found happens (told 6 0) up (frame 0) ≡ no)
    × (found happens (told 7 7) up greeting ≡ yes)
unfolding step_computes run_of history_of happening accepted if_burst changes none_of came_after
each_register = (
  found_once happens (told 0 0) up (split ++ look 5) refl,
  found_once happens (told 1 7) up cut refl,
  found_after_once happens five up (frame 1) again refl,
  found_once happens (told 6 0) up (frame 0) refl,
  found_once happens (told 7 7) up greeting refl,
)

-- SETS THAT DIFFER

differ_low : (a b : ℕ) → a < 2 → b < 2 → differ a b < 2
differ_low zero b p q = q
differ_low (suc zero) zero p q = omega arith
differ_low (suc zero) (suc zero) p q = omega arith
differ_low (suc zero) (suc (suc b)) p q = absurd (omega arith)
differ_low (suc (suc a)) b p q = absurd (omega arith)

differ_digit : (a b : ℕ) → a < 2 → b < 2 → eqb (differ a b) 1 ≡ differs (eqb a 1) (eqb b 1)
differ_digit zero zero p q = refl
differ_digit zero (suc zero) p q = refl
differ_digit zero (suc (suc b)) p q = absurd (omega arith)
differ_digit (suc zero) zero p q = refl
differ_digit (suc zero) (suc zero) p q = refl
differ_digit (suc zero) (suc (suc b)) p q = absurd (omega arith)
differ_digit (suc (suc a)) b p q = absurd (omega arith)

last : (x d : ℕ) → d < 2 → (x * 2 + d) % 2 ≡ d
last x d h = omega arith

rest : (x d : ℕ) → d < 2 → (x * 2 + d) / 2 ≡ x
rest x d h = omega arith

pub has_xor : (a b i : ℕ) → has (bit_xor a b) i ≡ differs (has a i) (has b i)
unfolding has
has_xor a b zero =
    let x = bit_xor (a / 2) (b / 2) in
    let d = differ_low (a % 2) (b % 2) (omega arith) (omega arith) in
    rw (xor_step a b, last x (differ (a % 2) (b % 2)) d) (differ_digit (a % 2) (b % 2) (omega arith) (omega arith))
has_xor a b (suc i) =
    let x = bit_xor (a / 2) (b / 2) in
    let d = differ_low (a % 2) (b % 2) (omega arith) (omega arith) in
    ap (λ (n : ℕ). has n i) (ap (λ (n : ℕ). n / 2) (xor_step a b) ∙ rest x (differ (a % 2) (b % 2)) d) ∙ has_xor (a / 2) (b / 2) i

-- THE BITS OF ONE RECORD'S EVENTS

-- bit j of register R, of the ports whose partition changed, those whose link did, a loopback error, an SQE Test, and the ports whose address changed
unfoldable pub event_bit : ℕ → ℕ → (ℕ → Bool) → (ℕ → Bool) → Bool → Bool → (ℕ → Bool) → Bool
event_bit r j part link loopback sqe address =
    cond (eqb r 0) (part j)
    (cond (eqb r 1) (eqb j 7 && part aui)
    (cond (eqb r 2) (link j)
    (cond (eqb r 3) (eqb j 7 && loopback)
    (cond (eqb r 4) (eqb j 7 && sqe)
    (cond (eqb r 6) (address j)
    (cond (eqb r 7) (eqb j 7 && address aui)
    false))))))

pub bit7_at : (b : Bool) (j : ℕ) → has (bit7 b) j ≡ (eqb j 7 && b)
bit7_at true j = has_power 7 j ∙ sym (and-true (eqb j 7))
bit7_at false j = has_none j ∙ sym (and-false (eqb j 7))

events_at : (part link : ℕ) (loopback sqe : Bool) (address r j : ℕ) → r < 8 → j < 8
    → has (get_or (events_of part link loopback sqe address) r 0) j ≡ event_bit r j (has part) (has link) loopback sqe (has address)
unfolding events_of event_bit
events_at part link loopback sqe address zero j h l = has_mod 8 part j l
events_at part link loopback sqe address (suc zero) j h l = bit7_at (has part aui) j
events_at part link loopback sqe address (suc (suc zero)) j h l = has_mod 8 link j l
events_at part link loopback sqe address (suc (suc (suc zero))) j h l = bit7_at loopback j
events_at part link loopback sqe address (suc (suc (suc (suc zero)))) j h l = bit7_at sqe j
events_at part link loopback sqe address (suc (suc (suc (suc (suc zero))))) j h l = has_none j
events_at part link loopback sqe address (suc (suc (suc (suc (suc (suc zero)))))) j h l = has_mod 8 address j l
events_at part link loopback sqe address (suc (suc (suc (suc (suc (suc (suc zero))))))) j h l = bit7_at (has address aui) j
events_at part link loopback sqe address (suc (suc (suc (suc (suc (suc (suc (suc r)))))))) j h l = absurd (omega arith)

-- two functions that are the same for the nine ports
abbrev pub Same : (ℕ → Bool) → (ℕ → Bool) → Type 0
Same f g = (i : ℕ) → i < 9 → f i ≡ g i

pub same_bit : (r j : ℕ) (p p' k k' a a' : ℕ → Bool) (l s : Bool) → j < 8 → Same p p' → Same k k' → Same a a' → event_bit r j p k l s a ≡ event_bit r j p' k' l s a'
unfolding event_bit
same_bit r j p p' k k' a a' l s h u v w =
    rw (u j (omega arith), u aui (omega arith), v j (omega arith), w j (omega arith), w aui (omega arith))

abbrev pub nobody : ℕ → Bool
nobody i = false

-- nothing happened
no_choice : (b : Bool) → cond b false false ≡ false
no_choice true = refl
no_choice false = refl

pub no_bit : (r j : ℕ) → event_bit r j nobody nobody false false nobody ≡ false
unfolding event_bit
no_bit r j = simp (and-false, no_choice)

-- a register that a read clears, and any other
zeroed : (cs : List ℕ) (k r : ℕ) → get_or (set cs k 0) r 0 ≡ cond (eqb k r) 0 (get_or cs r 0)
zeroed [] k r = go (eqb k r)
  where
    go : (b : Bool) → ◌≡◌ {A = ℕ} 0 (cond b 0 0)
    go true = refl
    go false = refl
zeroed (x ∷ cs) zero zero = refl
zeroed (x ∷ cs) zero (suc r) = rw (ne_eqb 0 (suc r) (λ e. omega arith))
zeroed (x ∷ cs) (suc k) zero = rw (ne_eqb (suc k) 0 (λ e. omega arith))
zeroed (x ∷ cs) (suc k) (suc r) = rw (eqb-suc-suc k r) (zeroed cs k r)

-- bit j of register R of the core
abbrev pub bit_of : ℕ → ℕ → Core → Bool
bit_of r j c = has (get_or c.changes r 0) j

noted_at : (es cs : List ℕ) (r j : ℕ) → r < length cs → has (get_or (noted es cs) r 0) j ≡ (has (get_or cs r 0) j || has (get_or es r 0) j)
unfolding noted
noted_at es cs r j h =
    ap (λ (n : ℕ). has n j) (each_at (λ r c. bit_or c (get_or es r 0)) cs r 0 0 h) ∙ has_or (get_or cs r 0) (get_or es r 0) j

-- the ports whose partition, and whose link, is another in x than in y
abbrev pub partition_changes : Repeater → Repeater → ℕ
partition_changes x y = bit_xor (partitioned_of x) (partitioned_of y)

abbrev pub link_changes : Repeater → Repeater → ℕ
link_changes x y = bit_xor (linked_of x) (linked_of y)

-- what moves the repeater adds its events to the bits
pub moved_bit : (c : Core) (q : Repeater) (loopback sqe : Bool) (address r j : ℕ) → length c.changes ≡ 8 → r < 8 → j < 8
    → bit_of r j (moved c q loopback sqe address)
    ≡ (bit_of r j c || event_bit r j (has (partition_changes c.repeater q)) (has (link_changes c.repeater q)) loopback sqe (has address))
unfolding moved
moved_bit c q loopback sqe address r j n h l =
    let part = partition_changes c.repeater q in
    let link = link_changes c.repeater q in
    noted_at (events_of part link loopback sqe address) c.changes r j (omega arith)
    ∙ ap (λ (b : Bool). bit_of r j c || b) (events_at part link loopback sqe address r j h l)

-- SOURCE ADDRESS CHANGES

-- the counter of port i moved
abbrev counted_in : Nine → Nine → ℕ → Bool
counted_in nine next i = not (eqb (counter_of nine i address_changes) (counter_of next i address_changes))

uncounted : (nine : Nine) (i : ℕ) → counted_in nine nine i ≡ false
uncounted nine i = rw (eq-eqb (counter_of nine i address_changes) (counter_of nine i address_changes) refl)

-- a completed address write moves none
written_uncounted : (port : Option ℕ) (source : List ℕ) (nine : Nine) (i : ℕ) → counted_in nine (addressed_at port source nine) i ≡ false
written_uncounted port source nine i = rw (counter_addressed port source nine i address_changes) (uncounted nine i)

-- WHAT STANDS AT EVERY POINT OF A RUN

record Firm (p : Point) : Type 0 where
  pub eight : length p.chip.core.changes ≡ 8
  pub fit : Fit p

-- as many change registers as before
pub moved_length : (c : Core) (q : Repeater) (loopback sqe : Bool) (address : ℕ) → length (moved c q loopback sqe address).changes ≡ length c.changes
unfolding moved noted
moved_length c q loopback sqe address =
    let events = events_of (partition_changes c.repeater q) (link_changes c.repeater q) loopback sqe address in
    each_length (λ r m. bit_or m (get_or events r 0)) c.changes

module _ (source : List ℕ) (s : Chip) (host : Host) where
  eight_served : (a : Access) → length s.core.changes ≡ 8 → length (served a s.core s.attributes host).core.changes ≡ 8
  unfolding served c_read_of obeyed
  eight_served (WriteC b) n = n
  eight_served (WriteD b) n =
      after_write (λ d. length d.changes ≡ 8) s.core b n (λ g k. moved_length s.core _ _ _ _ ∙ n)
      (λ g q. moved_length s.core _ _ _ _ ∙ n)
      (λ k. n)
      host
  eight_served ReadC n = n
  eight_served ReadD n = after_read 0 (λ d b. length d.changes ≡ 8) s.core n (λ k. length-set s.core.changes k 0 ∙ n) s.attributes host

  eight_after : (a : Asked) → length s.core.changes ≡ 8 → length (taken a source s host).chip.core.changes ≡ 8
  unfolding taken noted_on burst_on burst_core
  eight_after (ask.Burst b) n = moved_length s.core _ _ _ _ ∙ n
  eight_after (ask.Quiet q) n = moved_length s.core _ _ _ _ ∙ n
  eight_after (ask.Access a) n = eight_served a n
  eight_after ask.Reset n = refl
  eight_after (ask.Refused k) n = n

firm_after : (p : Point) (bs : List ℕ) → Firm p → Firm (happens p bs).after
unfolding happening step_of
firm_after p bs f = record {
  eight = eight_after (record_of bs).source p.chip p.host (record_of bs).asked f.eight;
  fit = fit_after p bs f.fit;
}

-- ONE RECORD

-- the event of bit j of register R between two states, of the repeater x and y and of the attributes
abbrev between : ℕ → ℕ → Bool → Bool → Repeater → Repeater → Nine → Nine → Bool
between r j loopback sqe x y nine next =
    event_bit r j (λ i. differs (has (partitioned_of x) i) (has (partitioned_of y) i)) (λ i. differs (has (linked_of x) i) (has (linked_of y) i))
    loopback sqe (counted_in nine next)

pub differs_self : (b : Bool) → differs b b ≡ false
differs_self true = refl
differs_self false = refl

module _ (r j : ℕ) (h : r < 8) (l : j < 8) where
  moved_step : (c : Core) → length c.changes ≡ 8 → (nine next : Nine) (q : Repeater) (loopback sqe : Bool) (address : ℕ)
      → Same (has address) (counted_in nine next)
      → bit_of r j (moved c q loopback sqe address) ≡ (bit_of r j c || between r j loopback sqe c.repeater q nine next)
  moved_step c n nine next q loopback sqe address a =
      moved_bit c q loopback sqe address r j n h l
      ∙ ap (λ (b : Bool). bit_of r j c || b)
      (same_bit r j _ _ _ _ _ _ loopback sqe l (λ i k. has_xor (partitioned_of c.repeater) (partitioned_of q) i)
      (λ i k. has_xor (linked_of c.repeater) (linked_of q) i)
      a)

  module _ (source : List ℕ) (s : Chip) (host : Host) (n : length s.core.changes ≡ 8) (f : Proper s.attributes) where
    -- what clears the bit, and the events of a burst, by what is asked
    abbrev clears_for : Asked → Answer → Bool
    clears_for a v = eqb (kind_number a) 8 || (eqb (kind_number a) 7 && accepted v && is_change r (selected_by host).role)

    abbrev loopback_for : Asked → Answer → Bool
    loopback_for a v = if_burst false (λ b. b.loopback_missing && has (outputs_of v) aui) a

    abbrev sqe_for : Asked → Bool
    sqe_for a = if_burst false (λ b. b.sqe_test) a

    abbrev Steps : Asked → Stepped → Type 0
    Steps a t =
        bit_of r j t.chip.core
        ≡ cond (clears_for a t.answer) false
        (bit_of r j s.core
        || between r j (loopback_for a t.answer) (sqe_for a) s.core.repeater t.chip.core.repeater s.attributes t.chip.attributes)

    burst_step : (b : Burst) → Steps (ask.Burst b) (taken (ask.Burst b) source s host)
    unfolding taken noted_on burst_on burst_core burst_of followed marks_of activity_of moved if_burst
    burst_step b =
        let t : Bursted = burst_of s.core.repeater (activity_of b) in
        let due : Due = due_of s.attributes (met_by s.core t) b source in
        moved_step s.core n s.attributes (credited_all due b source s.attributes) t.repeater t.marks.loopback t.marks.sqe due.changed
        (change_seen due b source s.attributes f (burst_consistent s.core b s.attributes source))

    -- any other record leaves no counter moved; d is the core after it, and b whether it clears
    module _ (next : Nine) (none : (i : ℕ) → counted_in s.attributes next i ≡ false) where
      abbrev Follows : Core → Bool → Type 0
      Follows d b = bit_of r j d ≡ cond b false (bit_of r j s.core || between r j false false s.core.repeater d.repeater s.attributes next)

      moves : (q : Repeater) → Follows (moved s.core q false false 0) false
      unfolding moved
      moves q = moved_step s.core n s.attributes next q false false 0 (λ i k. has_none i ∙ sym (none i))

      no_event : between r j false false s.core.repeater s.core.repeater s.attributes next ≡ false
      no_event =
          same_bit r j _ nobody _ nobody _ nobody false false l (λ i k. differs_self (has (partitioned_of s.core.repeater) i))
          (λ i k. differs_self (has (linked_of s.core.repeater) i))
          (λ i k. none i)
          ∙ no_bit r j

      stays : Follows s.core false
      stays = sym (ap (λ (b : Bool). bit_of r j s.core || b) no_event ∙ or-false (bit_of r j s.core))

      clearing : (k : ℕ) → Follows (with_changes s.core (set s.core.changes k 0)) (eqb k r)
      clearing k = go (eqb k r) refl
        where
          go : (b : Bool) → eqb k r ≡ b → Follows (with_changes s.core (set s.core.changes k 0)) (eqb k r)
          go true e = rw (zeroed s.core.changes k r, e) (has_none j)
          go false e = rw (zeroed s.core.changes k r, e) stays

      accessed : (a : Access) → let t : Acted = served a s.core s.attributes host in Follows t.core (clears_for (ask.Access a) t.answer)
      unfolding served c_read_of obeyed moved
      accessed (WriteC b) = stays
      accessed (WriteD b) =
          after_write (λ d. Follows d false) s.core b stays (λ g k. moves (set_to k s.core.repeater))
          (λ g q. moves (got_of q s.core.repeater).repeater)
          (λ k. stays)
          host
      accessed ReadC = stays
      accessed ReadD = after_read r Follows s.core stays clearing s.attributes host

    step : (a : Asked) → Steps a (taken a source s host)
    unfolding taken moved if_burst
    step (ask.Burst b) = burst_step b
    step (ask.Quiet q) =
        rw (quiet_is_no 8 refl q, quiet_is_no 7 refl q) (moves s.attributes (uncounted s.attributes) (quieted q s.core.repeater))
    step (ask.Access a) = accessed _ (written_uncounted _ _ s.attributes) a
    step ask.Reset = rw (get_or-replicate {A = ℕ} 8 r 0 0 h) (has_none j)
    step (ask.Refused k) = stays s.attributes (uncounted s.attributes)

  step_bit : (p : Point) (bs : List ℕ) → Firm p
      → change_bit r j (happens p bs).after ≡ cond (clears r (happens p bs)) false (change_bit r j p || changes r j (happens p bs))
  unfolding happening step_of changes event_bit
  step_bit p bs f = step (record_of bs).source p.chip p.host f.eight f.fit.attributes (record_of bs).asked

-- ALL RECORDS

-- the bits after one record more: whether it clears, the bit before it, its event, whether a later record clears, and whether the event came after all
-- clearing ones
shuffled : (c x e n m : Bool) → (cond c false (x || e) && n || m) ≡ (x && (not c && n) || (m || e && not c && n))
shuffled true true true n m = sym (or-false m)
shuffled true true false n m = sym (or-false m)
shuffled true false true n m = sym (or-false m)
shuffled true false false n m = sym (or-false m)
shuffled false true true true true = refl
shuffled false true true true false = refl
shuffled false true true false m = sym (or-false m)
shuffled false true false n m = rw (or-false m)
shuffled false false true true true = refl
shuffled false false true true false = refl
shuffled false false true false m = sym (or-false m)
shuffled false false false n m = sym (or-false m)

module _ (r j : ℕ) (h : r < 8) (l : j < 8) where
  bits_after : (p : Point) (rs : List (List ℕ)) → Firm p
      → change_bit r j (run p rs) ≡ (change_bit r j p && none_of (clears r) (history p rs) || came_after (changes r j) (clears r) (history p rs))
  unfolding run_of history_of none_of came_after
  bits_after p [] f = sym (or-false (change_bit r j p && true) ∙ and-true (change_bit r j p))
  bits_after p (bs ∷ rs) f =
      let t : Happening = happens p bs in
      let later : List Happening = history t.after rs in
      bits_after t.after rs (firm_after p bs f)
      ∙ rw (step_bit r j h l p bs f)
      (shuffled (clears r t) (change_bit r j p) (changes r j t) (none_of (clears r) later) (came_after (changes r j) (clears r) later))

pub change_bits_by_past : ChangeBitsByPast
change_bits_by_past given g rs r j h l =
    let p : Point = start given in
    let z : change_bit r j p ≡ false = rw (get_or-replicate {A = ℕ} 8 r 0 0 h) (has_none j) in
    bits_after r j h l p rs (record { eight = refl; fit = fit_start given g }) ∙ rw z
