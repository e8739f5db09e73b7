-- The past alone: every statement of specs/Alone.antt holds. Assumes nothing.
--   shown == all that a run from power-up shows
--   settings_by_past, links_by_past, partition_by_records == the ports
--   counters_by_records, status_by_past == counters and addresses; status bits, change bits, enables, interface error, G
--   places_by_past == where a byte sequence stands
--   answers_by_past, all_answers_by_past == every answer
--   whatever_is_given == ports, bursts' answers and change bits of R 0 to 4 do not depend on what power-up is given
use Prim.Native.Nat.{ℕ, zero, suc, ◌<◌}
use mathlib.Core.Path.{◌≡◌, refl, sym, ap₂, ◌∙◌}
use mathlib.Core.Bool.{Bool, ◌&&◌, ◌||◌, not}
use mathlib.Core.List.{List, [], ◌∷◌}
use native.Mathlib.Omega.{arith}
use borrow.Author.Tests.{lt-ltb}
use lib.ListN.{get_or}
use Rattle.ports.specs.Sets.{aui}
use Rattle.history.specs.History.{since}
use Rattle.history.proofs.Past.{struck_exactly}
use Rattle.record.specs.declared.Burst.{Burst}
use Rattle.record.specs.declared.Asked.TheVariants as ask
use Rattle.record.specs.Refusals.{record_of}
use Rattle.repeater.specs.Those.{Linked, Enabled}
use Rattle.repeater.specs.Repeater.{among}
use Rattle.repeater.proofs.DoorLaws.{those_has}
use Rattle.chip.specs.declared.Supply.{Supply}
use Rattle.himib.specs.Runs.{Point, start, repeater_at, partitioned_at, linked_at, enabled_at}
use Rattle.past.specs.Deeds.{Deed, bursts, deed_of, deed_after}
use Rattle.past.specs.Since.{came_since}
use Rattle.past.specs.Settings.{enabled_by}
use Rattle.past.specs.Link.{passes_by}
use Rattle.past.specs.Partition.{struck_in, all_events, partitioned_by}
use Rattle.past.specs.Changes.{changes, clears, change_by}
use Rattle.past.specs.Reads.{Start, remainder, place_by}
use Rattle.past.specs.Answers.{answer_by, answer_to}
use Rattle.alone.specs.Seen.{start_of}
use Rattle.alone.specs.Alone.{past_of, after, Supplied, SettingsByPast, LinksByPast, PartitionByRecords, CountersByRecords, StatusByPast, PlacesByPast}
use Rattle.alone.specs.Alone.{AnswersByPast, AllAnswersByPast, WhateverIsGiven}
use Rattle.alone.proofs.Link.{linked}
use Rattle.alone.proofs.Partition.{partitioned_mask}
use Rattle.alone.proofs.Whole.{Whole, whole_up, whole_run, answer_after, answers_run}

-- all that a run from power-up shows
pub shown : (given : Supply) → Supplied given → (rs : List (List ℕ)) → Whole (start_of given) (past_of rs) (after given rs)
shown given s rs = whole_run (start_of given) [] (start given) rs (whole_up given s)

-- THE PORTS

module _ (first : Start) (past : List Deed) (p : Point) (w : Whole first past p) where
  enabled_shown : (i : ℕ) → i < 9 → enabled_at p i ≡ enabled_by i past
  unfolding among
  enabled_shown i l = those_has Enabled (repeater_at p) i (omega arith) ∙ w.settled.enabled i l

  linked_shown : (i : ℕ) → i < 8 → linked_at p i ≡ passes_by i past
  unfolding among
  linked_shown i l =
      those_has Linked (repeater_at p) i (omega arith)
      ∙ rw (lt-ltb i aui l) (linked past (repeater_at p) w.settled w.link i (omega arith))

  partitioned_shown : (i : ℕ) → i < 9 → partitioned_at p i ≡ partitioned_by past i
  partitioned_shown i l = partitioned_mask past (repeater_at p) w.stood w.settled i (omega arith) ∙ rw (lt-ltb i 9 l)

pub settings_by_past : SettingsByPast
settings_by_past given s rs i l =
    let w = shown given s rs in
    record {
      enabled = enabled_shown (start_of given) (past_of rs) (after given rs) w i l;
      tested = w.settled.tested i l;
      alternate = w.settled.algorithm i l;
    }

pub links_by_past : LinksByPast
links_by_past given s rs = linked_shown (start_of given) (past_of rs) (after given rs) (shown given s rs)

pub partition_by_records : PartitionByRecords
unfolding partitioned_by struck_in
partition_by_records given s rs i l =
    let e = partitioned_shown (start_of given) (past_of rs) (after given rs) (shown given s rs) i l in
    let t = struck_exactly (since (get_or (all_events (past_of rs)) i [])) in
    record { forth = λ h. t.forth (sym e ∙ h); back = λ k. e ∙ t.back k }

-- COUNTERS, STATUS, ANSWERS

pub counters_by_records : CountersByRecords
counters_by_records given s rs =
    let c = (shown given s rs).counted in
    record { counters = c.counters; addresses = c.addresses; collisions = c.collisions; octets = c.octets }

pub status_by_past : StatusByPast
status_by_past given s rs =
    let w = shown given s rs in
    let n = w.noticed in
    record { status = w.reported; changes = n.changes; enables = n.enables; error = n.error; g = n.g }

pub places_by_past : PlacesByPast
unfolding place_by remainder
places_by_past given s rs n e = (shown given s rs).sequence.place n e

pub answers_by_past : AnswersByPast
unfolding answer_to
answers_by_past given s rs r = answer_after (start_of given) (past_of rs) (after given rs) (shown given s rs) r

pub all_answers_by_past : AllAnswersByPast
all_answers_by_past given s rs = answers_run (start_of given) [] (start given) rs (whole_up given s)

-- WHATEVER IS GIVEN

came_same : (e f c : List Deed → Deed → Bool) → ((past : List Deed) (d : Deed) → e past d ≡ f past d) → (past : List Deed)
    → came_since e c past ≡ came_since f c past
unfolding came_since
came_same e f c k [] = refl
came_same e f c k (d ∷ past) = ap₂ (λ (t u : Bool). not (c past d) && (t || u)) (k past d) (came_same e f c k past)

-- the change bits of R 0 to 4 have nothing to do with addresses
changes_same : (first other : ℕ → List ℕ) (r j : ℕ) → r < 5 → (past : List Deed) (d : Deed) → changes first r j past d ≡ changes other r j past d
unfolding changes
changes_same first other zero j l past d = refl
changes_same first other (suc zero) j l past d = refl
changes_same first other (suc (suc zero)) j l past d = refl
changes_same first other (suc (suc (suc zero))) j l past d = refl
changes_same first other (suc (suc (suc (suc zero)))) j l past d = refl
changes_same first other (suc (suc (suc (suc (suc r))))) j l past d = absurd (omega arith)

change_same : (first other : ℕ → List ℕ) (past : List Deed) (r j : ℕ) → r < 5 → change_by first past r j ≡ change_by other past r j
unfolding change_by
change_same first other past r j l = came_same (changes first r j) (changes other r j) (clears r) (changes_same first other r j l) past

-- a burst's answer has nothing to do with what power-up was given
burst_same : (first other : Start) (past : List Deed) (r : List ℕ) (b : Burst) → (record_of r).asked ≡ ask.Burst b
    → answer_by first past (deed_after past r) ≡ answer_by other past (deed_after past r)
unfolding deed_after deed_of answer_by
burst_same first other past r b e = rw e

pub whatever_is_given : WhateverIsGiven
whatever_is_given one other s t rs =
    let v = shown one s rs in
    let w = shown other t rs in
    let past = past_of rs in
    record {
      enabled = λ i l. enabled_shown (start_of one) past (after one rs) v i l ∙ sym (enabled_shown (start_of other) past (after other rs) w i l);
      linked = λ i l. linked_shown (start_of one) past (after one rs) v i l ∙ sym (linked_shown (start_of other) past (after other rs) w i l);
      partitioned = λ i l.
          partitioned_shown (start_of one) past (after one rs) v i l ∙ sym (partitioned_shown (start_of other) past (after other rs) w i l);
      bursts = λ r b e.
          answer_after (start_of one) past (after one rs) v r
          ∙ burst_same (start_of one) (start_of other) past r b e
          ∙ sym (answer_after (start_of other) past (after other rs) w r);
      changes = λ r j l m.
          v.noticed.changes r j (omega arith) m
          ∙ change_same (start_of one).addresses (start_of other).addresses past r j l
          ∙ sym (w.noticed.changes r j (omega arith) m);
    }
