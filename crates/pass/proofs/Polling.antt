-- Polling is harmless. The part of the chip that a pass is about (repeater, attributes and the two totals) is left alone by C writes, C reads, D reads and
-- what is turned away; every other record that is no D write acts on that part alone, and answers a burst from it alone. Assumes nothing.
use Prim.Native.Nat.{ℕ}
use mathlib.Core.Path.{◌≡◌, refl, sym, ap, ap₂, ◌∙◌}
use mathlib.Core.Bool.{Bool, true, false, cond, not, ◌||◌, true≢false}
use mathlib.Core.List.{List, [], ◌∷◌, ◌++◌}
use borrow.Author.Tests.{not-true}
use lib.Dec.{eqb}
use lib.ListN.{get_or, replicate}
use Rattle.ports.specs.declared.Quiet.{Quiet}
use Rattle.ports.specs.Sets.{port_count}
use Rattle.ports.specs.Each.{each}
use Rattle.ports.proofs.Sets.{and_first, and_second}
use Rattle.record.specs.declared.Access.TheVariants.{WriteC, WriteD, ReadC, ReadD}
use Rattle.record.specs.declared.Asked.{Asked}
use Rattle.record.specs.declared.Asked.TheVariants as ask
use Rattle.record.specs.Refusals.{record_of}
use Rattle.record.specs.Accepted.{kind_number}
use Rattle.record.specs.Records.{burst_record, no_address, pulse_record, tick_record, c_write_record, c_read_record, d_read_record, reset_record}
use Rattle.burst.specs.declared.Word.TheVariants.{Rep, Jam}
use Rattle.repeater.specs.declared.Repeater.{Repeater}
use Rattle.repeater.specs.Door.{port_at}
use Rattle.host.specs.declared.Host.{Host}
use Rattle.host.specs.Sequence.{power_up}
use Rattle.answer.specs.declared.Answer.{Answer}
use Rattle.answer.specs.declared.Answer.TheVariants.{Sent}
use Rattle.attributes.specs.declared.Nine.{Nine}
use Rattle.attributes.specs.Nine.{counter_count}
use Rattle.chip.specs.declared.Kept.{Kept}
use Rattle.chip.specs.declared.Chip.{Chip}
use Rattle.chip.specs.Chip.{core_up, with_core, with_repeater, moved}
use Rattle.access.specs.Access.{c_read_of, d_read_of, served}
use Rattle.access.proofs.Cases.{read_nobody}
use Rattle.himib.specs.Bursts.{burst_core, noted_on, burst_on}
use Rattle.himib.specs.Step.{addressed_at, after_access, taken, step_of}
use Rattle.himib.specs.Runs.{Point, Happening, happening, repeater_at, linked_at, counter_at, address_at, transmit_collisions, total_octets, history_of, run_of}
use Rattle.himib.proofs.Runs.{found, once, found_once}
use Rattle.pass.specs.Judged.{happens, history, run}
use Rattle.pass.specs.Pass.{Alike, PollingIsHarmless, kind_in, polls, without_polls, no_d_write, burst_answers}
use Rattle.pass.specs.Examples.{up}
use Rattle.pass.proofs.Computing.{step_computes, somebody}
use Rattle.record.proofs.KindLaws.{quiet_is_no, access_is_no}
use Rattle.pass.proofs.Accesses.{after_read}

-- THE PART

-- that part of a chip
record Part : Type 0 where
  repeater : Repeater
  attributes : Nine
  kept : Kept

abbrev part : Chip → Part
part s = record { repeater = s.core.repeater; attributes = s.attributes; kept = s.core.kept }

-- at a point of a run
abbrev part_at : Point → Part
part_at p = part p.chip

alike : (p q : Point) → part_at p ≡ part_at q → Alike p q
alike p q e =
    record {
      ports = ap (λ (k : Part). k.repeater) e;
      attributes = ap (λ (k : Part). k.attributes) e;
      collisions = ap (λ (k : Part). k.kept.transmit_collisions) e;
      octets = ap (λ (k : Part). k.kept.total_octets) e;
    }

-- INSTANCE

-- the same pulses, bursts, tick and reset, alone and polled: one of TP0's counters and the source address changes are read, and a piece of five bytes is
-- turned away
abbrev linked : List (List ℕ)
linked = replicate 4 (pulse_record 3)

abbrev frame_of : List ℕ → List ℕ
frame_of source = burst_record 1 0 1000 64 0 0 0 source

abbrev frame : List ℕ
frame = frame_of somebody

abbrev collision : List ℕ
collision = burst_record 3 0 600 0 0 100 300 no_address

abbrev alone : List (List ℕ)
alone = linked ++ (frame ∷ reset_record ∷ linked) ++ (frame_of no_address ∷ collision ∷ tick_record ∷ frame ∷ [])

abbrev polled : List (List ℕ)
polled =
    (c_write_record 0x10 ∷ linked)
    ++ (frame ∷ c_write_record 0xe0 ∷ d_read_record ∷ reset_record ∷ c_read_record ∷ linked)
    ++ (frame_of no_address ∷ replicate 5 0 ∷ collision ∷ d_read_record ∷ tick_record ∷ frame ∷ [])
    ++ (c_write_record 0x01 ∷ c_write_record 0xe6 ∷ d_read_record ∷ [])

differ_in_polls : (no_d_write polled ≡ true) × (no_d_write alone ≡ true) × (without_polls polled ≡ without_polls alone)
unfolding step_computes no_d_write without_polls
differ_in_polls = (refl, refl, refl)

-- what is seen after either: TP0 sent three frames, each from another address than the one before, and collided with TP1 once; the tick shows at each link
-- that was not used after it
abbrev four_answers : List Answer
four_answers = Sent Rep 0x102 ∷ Sent Rep 0x102 ∷ Sent Jam 0x103 ∷ Sent Rep 0x102 ∷ []

-- for each port, what f reads of it
abbrev of_each : {A : Type 0} → (ℕ → A) → List A
of_each f = each {A = ℕ} (λ i none. f i) (replicate port_count 0)

-- the answers of the bursts; of each port, whether its link passes, how long it has been idle, its counters and its address; the two totals; TP0's bit of
-- P 1 R 6
record Seen : Type 0 where
  said : List Answer
  linked : List Bool
  idle : List ℕ
  counters : List (List ℕ)
  addresses : List (List ℕ)
  totals : List ℕ
  bit : ℕ

abbrev seen_of : Point → List Happening → Seen
seen_of p hs = record {
  said = burst_answers hs;
  linked = of_each (linked_at p);
  idle = of_each (λ i. (port_at (repeater_at p) i).idle);
  counters = of_each (λ i. each {A = ℕ} (λ r none. counter_at i r p) (replicate counter_count 0));
  addresses = of_each (λ i. address_at i p);
  totals = transmit_collisions p ∷ total_octets p ∷ [];
  bit = get_or p.chip.core.changes 6 0;
}

abbrev seen_with : ℕ → Seen
seen_with bit = record {
  said = four_answers;
  linked = true ∷ true ∷ replicate 7 false;
  idle = 0 ∷ replicate 7 1 ++ (0 ∷ []);
  counters = (3 ∷ 192 ∷ 0 ∷ 0 ∷ 0 ∷ 0 ∷ 0 ∷ 1 ∷ 0 ∷ 0 ∷ 0 ∷ 0 ∷ 3 ∷ []) ∷ (replicate 7 0 ++ (1 ∷ replicate 5 0)) ∷ replicate 7 (replicate 13 0);
  addresses = somebody ∷ replicate 8 no_address;
  totals = 1 ∷ 192 ∷ [];
  bit = bit;
}

polled_seen : found happens seen_of up polled ≡ seen_with 0
unfolding step_computes happening history_of run_of burst_answers
polled_seen = found_once happens seen_of up polled refl

alone_seen : found happens seen_of up alone ≡ seen_with 1
unfolding step_computes happening history_of run_of burst_answers
alone_seen = found_once happens seen_of up alone refl

same_answers : (burst_answers (history up polled) ≡ four_answers) × (burst_answers (history up alone) ≡ four_answers)
same_answers = (ap (λ (s : Seen). s.said) polled_seen, ap (λ (s : Seen). s.said) alone_seen)

-- that part is left the same, whatever is seen of it
abbrev left_at : Point → List Happening → Part
left_at p hs = part_at p

left_same : once happens left_at up alone ≡ once happens left_at up polled
unfolding step_computes happening history_of
left_same = refl

same_part : Alike (run up polled) (run up alone)
same_part = alike (run up polled) (run up alone) (found_once happens left_at up polled left_same ∙ sym (found_once happens left_at up alone refl))

-- other things on the chip are not the same: the read cleared the change bit
other_bits : (get_or (run up polled).chip.core.changes 6 0 ≡ 0) × (get_or (run up alone).chip.core.changes 6 0 ≡ 1)
other_bits = (ap (λ (s : Seen). s.bit) polled_seen, ap (λ (s : Seen). s.bit) alone_seen)

-- WHAT A RECORD DOES TO IT

-- a chip with that part
abbrev chip_with : Part → Chip
chip_with k = record { core = with_repeater (core_up k.kept) k.repeater []; attributes = k.attributes }

abbrev is_poll : ℕ → Bool
is_poll k = eqb k 0 || eqb k 4 || eqb k 6 || eqb k 7

no_poll : (q : Quiet) → is_poll (kind_number (ask.Quiet q)) ≡ false
no_poll q = rw (quiet_is_no 0 refl q, quiet_is_no 4 refl q, quiet_is_no 6 refl q, quiet_is_no 7 refl q)

module _ (source : List ℕ) (s : Chip) (h : Host) where
  -- a read leaves it alone
  kept_read : part (after_access s.attributes (d_read_of s.core s.attributes h)).chip ≡ part s
  unfolding addressed_at
  kept_read =
      rw (read_nobody s.core s.attributes h) (after_read 0 (λ d b. part (with_core s d) ≡ part s) s.core refl (λ k. refl) s.attributes h)

  kept_by_poll : (a : Asked) → is_poll (kind_number a) ≡ true → part (taken a source s h).chip ≡ part s
  unfolding taken served c_read_of addressed_at
  kept_by_poll (ask.Burst b) e = absurd (true≢false (sym e))
  kept_by_poll (ask.Quiet q) e = absurd (true≢false (sym e ∙ no_poll q))
  kept_by_poll (ask.Access (WriteC b)) e = refl
  kept_by_poll (ask.Access (WriteD b)) e = absurd (true≢false (sym e))
  kept_by_poll (ask.Access ReadC) e = refl
  kept_by_poll (ask.Access ReadD) e = kept_read
  kept_by_poll ask.Reset e = absurd (true≢false (sym e))
  kept_by_poll (ask.Refused k) e = refl

  -- any other acts on it alone, whatever else there is on the chip and in the host's record
  moved_by_lem : (g : Host) (a : Asked) → is_poll (kind_number a) ≡ false → eqb (kind_number a) 5 ≡ false
      → part (taken a source s h).chip ≡ part (taken a source (chip_with (part s)) g).chip
  unfolding taken noted_on burst_on burst_core moved
  moved_by_lem g (ask.Burst b) e d = refl
  moved_by_lem g (ask.Quiet q) e d = refl
  moved_by_lem g (ask.Access (WriteC b)) e d = absurd (true≢false e)
  moved_by_lem g (ask.Access (WriteD b)) e d = absurd (true≢false d)
  moved_by_lem g (ask.Access ReadC) e d = absurd (true≢false e)
  moved_by_lem g (ask.Access ReadD) e d = absurd (true≢false e)
  moved_by_lem g ask.Reset e d = refl
  moved_by_lem g (ask.Refused k) e d = absurd (true≢false e)

  -- and a burst is answered from it alone
  answered_by : (g : Host) (a : Asked) → eqb (kind_number a) 1 ≡ true → (taken a source s h).answer ≡ (taken a source (chip_with (part s)) g).answer
  unfolding taken noted_on burst_on
  answered_by g (ask.Burst b) e = refl
  answered_by g (ask.Quiet q) e = refl
  answered_by g (ask.Access a) e = absurd (true≢false (sym e ∙ access_is_no 1 refl refl refl refl a))
  answered_by g ask.Reset e = refl
  answered_by g (ask.Refused k) e = refl

no_burst : (a : Asked) → is_poll (kind_number a) ≡ true → eqb (kind_number a) 1 ≡ false
no_burst (ask.Burst b) e = absurd (true≢false (sym e))
no_burst (ask.Quiet q) e = quiet_is_no 1 refl q
no_burst (ask.Access a) e = access_is_no 1 refl refl refl refl a
no_burst ask.Reset e = refl
no_burst (ask.Refused k) e = refl

-- the same at a point of a run
module _ (p : Point) (r : List ℕ) where
  quiet : polls r ≡ true → part_at (happens p r).after ≡ part_at p
  unfolding happening step_of
  quiet e = kept_by_poll (record_of r).source p.chip p.host (record_of r).asked e

  module _ (q : Point) (e : part_at p ≡ part_at q) where
    moves : polls r ≡ false → eqb (kind_in r) 5 ≡ false → part_at (happens p r).after ≡ part_at (happens q r).after
    unfolding happening step_of
    moves t d =
        moved_by_lem (record_of r).source p.chip p.host power_up (record_of r).asked t d
        ∙ ap (λ (k : Part). part (taken (record_of r).asked (record_of r).source (chip_with k) power_up).chip) e
        ∙ sym (moved_by_lem (record_of r).source q.chip q.host power_up (record_of r).asked t d)

    says : eqb (kind_in r) 1 ≡ true → (happens p r).answer ≡ (happens q r).answer
    unfolding happening step_of
    says t =
        answered_by (record_of r).source p.chip p.host power_up (record_of r).asked t
        ∙ ap (λ (k : Part). (taken (record_of r).asked (record_of r).source (chip_with k) power_up).answer) e
        ∙ sym (answered_by (record_of r).source q.chip q.host power_up (record_of r).asked t)

-- a list of records, and the same without its polls, from two points with the same part
abbrev Harmless : List (List ℕ) → Type 0
Harmless rs =
    (p q : Point) → part_at p ≡ part_at q → no_d_write rs ≡ true
    → (burst_answers (history p rs) ≡ burst_answers (history q (without_polls rs))) × (part_at (run p rs) ≡ part_at (run q (without_polls rs)))

harmless : (rs : List (List ℕ)) → Harmless rs
unfolding history_of run_of without_polls no_d_write burst_answers happening
harmless [] p q e n = (refl, e)
harmless (r ∷ rs) p q e n = go (polls r) refl (harmless rs)
  where
    d : eqb (kind_in r) 5 ≡ false
    d = not-true (eqb (kind_in r) 5) (and_first (not (eqb (kind_in r) 5)) (no_d_write rs) n)

    m : no_d_write rs ≡ true
    m = and_second (not (eqb (kind_in r) 5)) (no_d_write rs) n

    answers : (b : Bool) → eqb (kind_in r) 1 ≡ b → (xs ys : List Answer) → xs ≡ ys
        → cond b ((happens p r).answer ∷ xs) xs ≡ cond b ((happens q r).answer ∷ ys) ys
    answers true t xs ys k = ap₂ (λ (x : Answer) (l : List Answer). x ∷ l) (says p r q e t) k
    answers false t xs ys k = k

    go : (b : Bool) → polls r ≡ b → Harmless rs
        → (burst_answers (history p (r ∷ rs)) ≡ burst_answers (history q (cond b (without_polls rs) (r ∷ without_polls rs))))
        × (part_at (run p (r ∷ rs)) ≡ part_at (run q (cond b (without_polls rs) (r ∷ without_polls rs))))
    go true t more = rw (no_burst (record_of r).asked t) (more (happens p r).after q (quiet p r t ∙ e) m)
    go false t more =
        let k = more (happens p r).after (happens q r).after (moves p r q e t d) m in
        (answers (eqb (kind_in r) 1) refl _ _ k.0, k.1)

pub polling_is_harmless : PollingIsHarmless
polling_is_harmless p rs qs n m e =
    let a = harmless rs p p refl n in
    let b = harmless qs p p refl m in (
      a.0 ∙ ap (λ (l : List (List ℕ)). burst_answers (history p l)) e ∙ sym b.0,
      alike (run p rs) (run p qs) (a.1 ∙ ap (λ (l : List (List ℕ)). part_at (run p l)) e ∙ sym b.1),
    )
