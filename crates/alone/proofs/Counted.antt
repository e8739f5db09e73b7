-- The counters, the two totals and the last source addresses are what the past says, from deed to deed. Assumes nothing.
--   Foreseen past p d == what is asked of a burst: the repeater meets it as the past does, and the past tells the ports that it partitions
--   still_credit      == what is no burst is credited with nothing; no port is partitioned by it
--   counted_up, counted_next == at power-up, and after a deed
use Prim.Native.Nat.{ℕ, ◌+◌, ◌*◌, ◌%◌, ◌^◌, ◌≤◌, ◌<◌}
use mathlib.Core.Path.{◌≡◌, refl, sym, ap, subst, ◌∙◌}
use mathlib.Core.Bool.{Bool, true, false, cond, not, ◌&&◌, ◌||◌, and-true, and-false}
use mathlib.Core.List.{List, [], ◌∷◌, ◌++◌}
use native.Mathlib.Omega.{arith}
use borrow.Author.Tests.{ne_eqb}
use lib.Dec.{eqb}
use lib.ListN.{length, get_or}
use Rattle.std.specs.Prelude.{Option, Some, None}
use Rattle.ports.specs.Sets.{is_at}
use Rattle.history.specs.History.{Event, neither, cleared, Standing, connected, partitioned, after_event, after_events, is_partitioned}
use Rattle.history.proofs.Past.{after_append, partitioned_computed}
use Rattle.management.specs.Commands.{command_of}
use Rattle.record.specs.declared.Burst.{Burst}
use Rattle.host.specs.declared.Register.{Register}
use Rattle.host.specs.declared.Register.TheVariants as reg
use Rattle.host.specs.Sequence.{wrote_byte}
use Rattle.attributes.specs.Credits.{short_to, Consistent}
use Rattle.attributes.proofs.NineLaws.{proper_credited, counter_credited, address_credited}
use Rattle.chip.specs.declared.Kept.{Kept}
use Rattle.chip.specs.declared.Core.{Core}
use Rattle.chip.specs.declared.Supply.{Supply}
use Rattle.chip.specs.Chip.{moved}
use Rattle.chip.proofs.ChipLaws.{settled_in}
use Rattle.access.specs.Access.{selected_by}
use Rattle.access.proofs.Cases.{obeyed_kept}
use Rattle.himib.specs.Bursts.{burst_core, noted_on, burst_on}
use Rattle.himib.specs.Step.{addressed_at}
use Rattle.himib.specs.Runs.{Point, Given, repeater_at, counter_at, address_at, transmit_collisions, total_octets, limit_at}
use Rattle.himib.specs.Runs as Runs
use Rattle.himib.proofs.StepLaws.{burst_consistent, counter_addressed, eqb_turned, address_addressed, proper_addressed}
use Rattle.past.specs.Deeds.{Deed, bursts, pulses, ticks, commands, uses, resets, refused, selects_p, selects_r, allows, addresses, asks, reads}
use Rattle.past.specs.Deeds.{is_reset, if_burst}
use Rattle.past.specs.Settings.{disabling, commanded, enabled_by}
use Rattle.past.specs.Partition.{struck_in, event_by, all_events, partitioned_by}
use Rattle.past.specs.Credits.{if, partition_credit, frames_at, collision_by, octets_by, sum_by}
use Rattle.past.specs.Addresses.{in_a_row, completes, last_six, address_by, newcomer, credit_by, counter_by}
use Rattle.past.specs.Reads.{Start}
use Rattle.alone.specs.Doing.{read_from, used_at, doing, next, Proper}
use Rattle.alone.specs.Seen.{BurstSeen, start_of, Counted, due_seen}
use Rattle.alone.specs.Selected.{StandsOn}
use Rattle.alone.proofs.Credits.{Measured, Cuts, frame_seen, credit_seen, collision_seen, due_seen_lem}
use Rattle.alone.proofs.Partition.{events_more}
use Rattle.alone.proofs.Rows.{Rowed, rowed_next, whole_seen, bytes_seen}

abbrev pub Foreseen : List Deed → Point → Deed → Type 0
Foreseen past p (bursts b source) = BurstSeen past (repeater_at p) b × Cuts past p b source
Foreseen past p (pulses mask) = Unit
Foreseen past p ticks = Unit
Foreseen past p (commands through_g c) = Unit
Foreseen past p (uses u) = Unit
Foreseen past p resets = Unit
Foreseen past p (refused k) = Unit

-- NO BURST, NO CREDIT

-- what is no burst leaves a port's standing alone, or clears it
unmoved_by : (s : Standing) (t : Bool) → (not (is_partitioned s) && is_partitioned (after_event s (cond t cleared neither))) ≡ false
unmoved_by (connected n) true = refl
unmoved_by (connected n) false = refl
unmoved_by partitioned t = refl

module _ (past : List Deed) (d : Deed) (none : (A : Type 0) (a : A) (f : Burst → List ℕ → A) → if_burst a f d ≡ a) where
  abbrev events : ℕ → List Event
  events i = get_or (all_events past) i []

  abbrev clears : ℕ → Bool
  clears i = is_reset d || (commanded (disabling i) d && enabled_by i past)

  events_next : (i : ℕ) → i < 9 → get_or (all_events (d ∷ past)) i [] ≡ events i ++ (cond (clears i) cleared neither ∷ [])
  unfolding event_by
  events_next i l = events_more past d i l ∙ ap (λ (e : Event). events i ++ (cond (clears i) cleared e ∷ [])) (none Event neither _)

  unpartitioned : (i : ℕ) → i < 9 → partition_credit past d i ≡ 0
  unfolding partition_credit partitioned_by struck_in
  unpartitioned i l =
      rw (events_next i l, ← (partitioned_computed (events i)), ← (partitioned_computed (events i ++ (cond (clears i) cleared neither ∷ []))))
      (rw (after_append (connected 0) (events i) (cond (clears i) cleared neither ∷ []))
      (ap if (unmoved_by (after_events (connected 0) (events i)) (clears i))))

  pub still_credit : (limit : ℕ) (first : ℕ → List ℕ) (i r : ℕ) → i < 9 → credit_by limit first i r past d ≡ 0
  unfolding credit_by newcomer frames_at
  still_credit limit first i r l = rw (unpartitioned i l, none Bool false _, none ℕ 0 _) (go (eqb r 11) (eqb r 12))
    where
      go : (t u : Bool) → ◌≡◌ {A = ℕ} (cond t 0 (cond u 0 0)) 0
      go true u = refl
      go false true = refl
      go false false = refl

-- SUMS

none_yet : (n : ℕ) → n < 2 ^ 32 → n ≡ (n + 0) % 2 ^ 32
none_yet n l = omega arith

one_more : (m n k c s : ℕ) → m ≡ (n + c) % 2 ^ 32 → n ≡ (k + s) % 2 ^ 32 → m ≡ (k + (c + s)) % 2 ^ 32
one_more m n k c s e d = omega arith

no_more : (m n k c s : ℕ) → m ≡ n → c ≡ 0 → n ≡ (k + s) % 2 ^ 32 → m ≡ (k + (c + s)) % 2 ^ 32
no_more m n k c s e z d = omega arith

-- POWER-UP

pub counted_up : (given : Supply) → Given given → ((i : ℕ) → i < 9 → length (address_at i (Runs.start given)) ≡ 6)
    → Counted (start_of given) [] (Runs.start given)
unfolding counter_by sum_by address_by
counted_up given fit six = record {
  fit = fit.attributes;
  counters = λ i r l m. none_yet _ (fit.attributes.low i r l m);
  addresses = λ i l. refl;
  six = six;
  collisions = none_yet _ fit.collisions-low;
  octets = none_yet _ fit.octets-low;
  limit = refl;
  limit_low = (settled_in given.kept.choices).1;
}

-- A DEED

module _ (start : Start) (past : List Deed) (p : Point) (counted : Counted start past p) where
  -- a burst
  module _ (b : Burst) (source : List ℕ) (from : length source ≡ 6) (seen : BurstSeen past (repeater_at p) b) (cuts : Cuts past p b source)
      (octets : 8 * b.n + b.k ≤ b.d) where
    abbrev then : Point
    then = next (bursts b source) p

    consistent : Consistent (due_seen p b source)
    unfolding noted_on
    consistent = burst_consistent p.chip.core b p.chip.attributes source

    measured : Measured (limit_at p) b
    measured = record { low = counted.limit_low; octets = octets }

    burst_counter : (i r : ℕ) → i < 9 → r < 13
        → counter_at i r then ≡ counter_by start.limit start.counters start.addresses (bursts b source ∷ past) i r
    unfolding doing burst_on counter_by sum_by
    burst_counter i r l m =
        one_more _ _ _ _ _
        (counter_credited (due_seen p b source) b source p.chip.attributes counted.fit consistent i r l m
        ∙ ap (λ (c : ℕ). (counter_at i r p + c) % 2 ^ 32)
        (credit_seen past p b source seen measured start counted.addresses counted.six from cuts i r l m
        ∙ ap (λ (n : ℕ). credit_by n start.addresses i r past (bursts b source)) counted.limit))
        (counted.counters i r l m)

    burst_address : (i : ℕ) → i < 9 → address_at i then ≡ cond (frames_at past (bursts b source) i) source (address_at i p)
    unfolding doing burst_on
    burst_address i l =
        address_credited (due_seen p b source) b source p.chip.attributes counted.fit consistent i l
        ∙ ap (λ (t : Bool). cond t source (address_at i p)) (frame_seen past p b source seen measured i l)

    burst_six : (t : Bool) (i : ℕ) → i < 9 → length (cond t source (address_at i p)) ≡ 6
    burst_six true i l = from
    burst_six false i l = counted.six i l

    counted_burst : Counted start (bursts b source ∷ past) then
    unfolding doing burst_on noted_on burst_core moved address_by completes sum_by
    counted_burst = record {
      fit = proper_credited (due_seen p b source) b source p.chip.attributes counted.fit;
      counters = burst_counter;
      addresses = λ i l.
          burst_address i l ∙ ap (λ (a : List ℕ). cond (frames_at past (bursts b source) i) source a) (counted.addresses i l);
      six = λ i l. ap length (burst_address i l) ∙ burst_six (frames_at past (bursts b source) i) i l;
      collisions =
          one_more _ _ _ _ _ (ap (λ (c : ℕ). (transmit_collisions p + c) % 2 ^ 32) (collision_seen past p b source seen measured)) counted.collisions;
      octets =
          one_more _ _ _ _ _
          (ap (λ (c : ℕ). (total_octets p + c) % 2 ^ 32) (due_seen_lem past p b source seen measured start counted.addresses counted.six from).octets)
          counted.octets;
      limit = counted.limit;
      limit_low = counted.limit_low;
    }

  -- what is no burst, and writes the address of port q, or of nobody
  module _ (d : Deed) (none : (A : Type 0) (a : A) (f : Burst → List ℕ → A) → if_burst a f d ≡ a) (q : Option ℕ) (bytes : List ℕ) (six : length bytes ≡ 6)
      (attributes : (next d p).chip.attributes ≡ addressed_at q bytes p.chip.attributes) (kept : (next d p).chip.core.kept ≡ p.chip.core.kept) where
    still_address : (i : ℕ) → i < 9 → address_at i (next d p) ≡ cond (is_at q i) bytes (address_at i p)
    still_address i l = rw attributes (address_addressed q bytes p.chip.attributes counted.fit i l)

    still_six : (t : Bool) (i : ℕ) → i < 9 → length (cond t bytes (address_at i p)) ≡ 6
    still_six true i l = six
    still_six false i l = counted.six i l

    counted_still : ((i : ℕ) → i < 9 → address_at i (next d p) ≡ address_by start.addresses (d ∷ past) i) → Counted start (d ∷ past) (next d p)
    unfolding counter_by sum_by collision_by octets_by
    counted_still given = record {
      fit = rw attributes (proper_addressed q bytes p.chip.attributes counted.fit);
      counters = λ i r l m.
          no_more _ _ _ _ _ (rw attributes (counter_addressed q bytes p.chip.attributes i r)) (still_credit past d none start.limit start.addresses i r l)
          (counted.counters i r l m);
      addresses = given;
      six = λ i l. ap length (still_address i l) ∙ still_six (is_at q i) i l;
      collisions = no_more _ _ _ _ _ (ap (λ (k : Kept). k.transmit_collisions) kept) (none ℕ 0 _) counted.collisions;
      octets = no_more _ _ _ _ _ (ap (λ (k : Kept). k.total_octets) kept) (none ℕ 0 _) counted.octets;
      limit = ap (λ (k : Kept). k.choices.short_limit) kept ∙ counted.limit;
      limit_low = subst (λ (k : Kept). k.choices.short_limit ≤ short_to) (sym kept) counted.limit_low;
    }

  -- a byte written to an address
  module _ (k b : ℕ) (row : Rowed past p.host) (size : (selected_by p.host).size ≡ 6) where
    abbrev written : Deed
    written = uses (addresses k b)

    abbrev whole : Bool
    whole = (wrote_byte 6 b p.host).complete

    abbrev held : List ℕ
    held = (wrote_byte 6 b p.host).host.bytes

    written_address : (i : ℕ) → i < 9
        → cond (is_at (cond whole (Some k) None) i) held (address_at i p)
        ≡ cond (completes past written i) (last_six (in_a_row (written ∷ past))) (address_by start.addresses past i)
    written_address i l =
        rw (← (whole_seen past p.host k b row size i), ← (counted.addresses i l)) (go whole refl)
      where
        go : (t : Bool) → whole ≡ t
            → cond (is_at (cond t (Some k) None) i) held (address_at i p) ≡ cond (eqb k i && t) (last_six (in_a_row (written ∷ past))) (address_at i p)
        go true e = rw (eqb_turned i k, and-true (eqb k i), bytes_seen past p.host k b row size e)
        go false e = rw (and-false (eqb k i))

    counted_written : length held ≡ 6 → Counted start (written ∷ past) (next written p)
    unfolding doing used_at address_by frames_at
    counted_written six =
        counted_still written (λ A a f. refl) (cond whole (Some k) None) held six refl refl
        (λ i l. address_addressed (cond whole (Some k) None) held p.chip.attributes counted.fit i l ∙ written_address i l)

  -- any other deed writes no address
  module _ (row : Rowed past p.host) where
    counted_other : (d : Deed) → ((A : Type 0) (a : A) (f : Burst → List ℕ → A) → if_burst a f d ≡ a)
        → (next d p).chip.attributes ≡ p.chip.attributes → (next d p).chip.core.kept ≡ p.chip.core.kept
        → ((i : ℕ) → address_by start.addresses (d ∷ past) i ≡ address_by start.addresses past i) → Counted start (d ∷ past) (next d p)
    unfolding addressed_at
    counted_other d none attributes kept same =
        counted_still d none None p.host.bytes row.six attributes kept (λ i l. rw attributes (counted.addresses i l) ∙ sym (same i))

-- a read clears change bits at most
read_kept : (c : Core) (register : Register) → (read_from register c).kept ≡ c.kept
unfolding read_from
read_kept c reg.Unlisted = refl
read_kept c reg.TransmitCollisions = refl
read_kept c reg.TotalOctets = refl
read_kept c reg.Version = refl
read_kept c reg.SetPort = refl
read_kept c reg.GetPort = refl
read_kept c (reg.Change r) = refl
read_kept c (reg.Enable r) = refl
read_kept c (reg.Counter i r) = refl
read_kept c (reg.Address i) = refl

pub counted_next : (start : Start) (past : List Deed) (d : Deed) (p : Point) → Proper d → Foreseen past p d → StandsOn (selected_by p.host) d → Rowed past p.host
    → Counted start past p → Counted start (d ∷ past) (next d p)
unfolding doing used_at moved address_by frames_at completes
counted_next start past (bursts b source) p proper foreseen sized row counted =
    counted_burst start past p counted b source proper.1 foreseen.0 foreseen.1 proper.0.octets_within
counted_next start past (pulses mask) p proper foreseen sized row counted =
    counted_other start past p counted row (pulses mask) (λ A a f. refl) refl refl (λ i. refl)
counted_next start past ticks p proper foreseen sized row counted =
    counted_other start past p counted row ticks (λ A a f. refl) refl refl (λ i. refl)
counted_next start past (commands through_g c) p proper foreseen sized row counted =
    counted_other start past p counted row (commands through_g c) (λ A a f. refl) refl (obeyed_kept p.chip.core through_g (command_of c)) (λ i. refl)
counted_next start past (uses (selects_p n)) p proper foreseen sized row counted =
    counted_other start past p counted row (uses (selects_p n)) (λ A a f. refl) refl refl (λ i. refl)
counted_next start past (uses (selects_r n)) p proper foreseen sized row counted =
    counted_other start past p counted row (uses (selects_r n)) (λ A a f. refl) refl refl (λ i. refl)
counted_next start past (uses (allows k b)) p proper foreseen sized row counted =
    counted_other start past p counted row (uses (allows k b)) (λ A a f. refl) refl refl (λ i. refl)
counted_next start past (uses (addresses k b)) p proper foreseen sized row counted =
    counted_written start past p counted k b row sized (rowed_next past (uses (addresses k b)) p proper sized counted.six row).six
counted_next start past (uses asks) p proper foreseen sized row counted =
    counted_other start past p counted row (uses asks) (λ A a f. refl) refl refl (λ i. refl)
counted_next start past (uses (reads register size)) p proper foreseen sized row counted =
    counted_other start past p counted row (uses (reads register size)) (λ A a f. refl) refl (read_kept p.chip.core register) (λ i. refl)
counted_next start past resets p proper foreseen sized row counted =
    counted_other start past p counted row resets (λ A a f. refl) refl refl (λ i. refl)
counted_next start past (refused k) p proper foreseen sized row counted =
    counted_other start past p counted row (refused k) (λ A a f. refl) refl refl (λ i. refl)
