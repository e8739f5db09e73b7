-- Demand 3 for a port's partition: after any list of records from power-up a port is partitioned exactly if its past since the last clearing event struck it.
-- The crate history goes from events to standings, the repeater's Events from its inputs to events; here each record is tied to the event that it is to a port.
-- Assumes nothing.
--   at_boundaries     == both sides computed on lists of records; struck_by_32 and struck_by_1025, the two ways of being struck
--   moves             == one record moves a port's standing as its event says
--   partition_by_past == demand 3
use Prim.Native.Nat.{ℕ, ◌<◌}
use mathlib.Core.Path.{◌≡◌, refl, sym, ap, ◌∙◌}
use mathlib.Core.Bool.{Bool, true, false, cond, not, ◌&&◌, ◌||◌, and-not_self, true≢false}
use mathlib.Core.List.{List, [], map}
use native.Mathlib.Omega.{arith}
use lib.Dec.{eqb, lit<, lit≤}
use lib.ListN.{replicate}
use Rattle.ports.specs.Sets.{has}
use Rattle.record.specs.declared.Access.{Access}
use Rattle.record.specs.declared.Access.TheVariants.{WriteC, WriteD, ReadC, ReadD}
use Rattle.record.specs.declared.Asked.{Asked}
use Rattle.record.specs.declared.Asked.TheVariants as ask
use Rattle.record.specs.Refusals.{record_of}
use Rattle.record.specs.Accepted.{kind_number}
use Rattle.history.specs.History.{Event, collided, neither, cleared, Standing, connected, partitioned, after_event}
use Rattle.history.specs.History.{since, Struck, long, many, is_partitioned}
use Rattle.history.proofs.Past.{Keeps, told_exactly}
use Rattle.port.specs.declared.Port.{Port}
use Rattle.port.specs.Standing.{standing_of, event_of}
use Rattle.port.proofs.Standing.{stays}
use Rattle.management.specs.declared.Setting.{Setting}
use Rattle.repeater.specs.declared.Repeater.{Repeater}
use Rattle.repeater.specs.Those.{Partitioned}
use Rattle.repeater.specs.Door.{port_at}
use Rattle.repeater.specs.Repeater.{quieted, set_to, got_of, burst_of, among, enabled_of, partitioned_of}
use Rattle.repeater.specs.Events.{standing_at, followed_event, burst_event, set_event}
use Rattle.repeater.proofs.DoorLaws.{those_has}
use Rattle.repeater.proofs.Events.{burst_moves, quiet_moves, get_moves, set_moves, reset_moves, up_connected}
use Rattle.host.specs.declared.Host.{Host}
use Rattle.attributes.specs.declared.Nine.{Nine}
use Rattle.chip.specs.declared.Core.{Core}
use Rattle.chip.specs.declared.Chip.{Chip}
use Rattle.chip.specs.Chip.{moved}
use Rattle.access.specs.Access.{c_read_of, d_read_of, d_write_of, obeyed, served}
use Rattle.himib.specs.Bursts.{activity_of, burst_core, noted_on, burst_on}
use Rattle.himib.specs.Step.{taken, step_of}
use Rattle.himib.specs.Runs.{Point, happening, start, if_burst, repeater_at, history_of, run_of}
use Rattle.pass.specs.Judged.{happens, history, run}
use Rattle.pass.specs.Pass.{event_at, PartitionByPast}
use Rattle.pass.specs.Examples.{up}
use Rattle.pass.proofs.Computing.{step_computes}
use Rattle.pass.proofs.Boundaries.{crowded, signalled, TpBoundaries, FragmentBoundaries, AuiBoundaries, LongBoundary}
use Rattle.pass.proofs.Boundaries.{tp_boundaries, fragment_boundaries, aui_boundaries, long_boundary}
use Rattle.record.proofs.KindLaws.{quiet_is_no, access_is_no}
use Rattle.pass.proofs.Accesses.{after_write, after_read}
use Rattle.pass.proofs.Enabled.{enabled_in, enabled_at_lem, enabled_bursted, enabled_quieted, enabled_got, enabled_set}

-- AT THE BOUNDARIES

at_boundaries : TpBoundaries × FragmentBoundaries × AuiBoundaries × LongBoundary
at_boundaries = (tp_boundaries, fragment_boundaries, aui_boundaries, long_boundary)

-- the two ways of being struck
struck_by_32 : Struck (since (map (event_at 0) (history up (crowded 32))))
unfolding step_computes history_of happening event_at event_of followed_event burst_event if_burst
struck_by_32 = many (replicate 4 neither) (replicate 32 (collided 300)) [] (lit≤ tt) refl

struck_by_1025 : Struck (since (map (event_at 8) (history up (signalled 1 1025))))
unfolding step_computes history_of happening event_at event_of followed_event burst_event if_burst
struck_by_1025 = long [] [] 1025 (lit< tt)

-- ONE RECORD

-- a record's event to port i, by the repeater before and after it
abbrev event_for : ℕ → Asked → Repeater → Repeater → Event
event_for i a r q =
    cond (eqb (kind_number a) 8 || (has (enabled_of r) i && not (has (enabled_of q) i))) cleared
    (if_burst neither (λ b. burst_event r (activity_of b) i) a)

-- a record that is no reset is the event e to port i, unless it disables the port
abbrev otherwise : ℕ → Event → Repeater → Repeater → Event
otherwise i e r q = cond (has (enabled_of r) i && not (has (enabled_of q) i)) cleared e

abbrev Moves : ℕ → Repeater → Repeater → Event → Type 0
Moves i r q e = standing_at q i ≡ after_event (standing_at r i) e

-- a read leaves the repeater alone
read_same : (c : Core) (nine : Nine) (h : Host) → c.repeater ≡ (d_read_of c nine h).core.repeater
read_same c nine h = after_read 0 (λ d b. c.repeater ≡ d.repeater) c refl (λ k. refl) nine h

module _ (i : ℕ) (l : i < 16) where
  -- nobody is disabled
  stood : (r q : Repeater) (e : Event) → enabled_in q i ≡ enabled_in r i → Moves i r q e → Moves i r q (otherwise i e r q)
  stood r q e k h = rw (enabled_at_lem r i l, enabled_at_lem q i l, k, and-not_self (enabled_in r i)) h

  same : (r : Repeater) → Moves i r r (otherwise i neither r r)
  same r = stood r r neither refl (stays (standing_at r i))

  set_stood : (s : Setting) (r : Repeater) → Moves i r (set_to s r) (otherwise i neither r (set_to s r))
  unfolding set_event
  set_stood s r = rw (enabled_at_lem r i l, enabled_at_lem (set_to s r) i l, enabled_set s r i) (set_moves s r i)

  write_stood : (c : Core) (h : Host) (b : ℕ)
      → Moves i c.repeater (d_write_of c h b).core.repeater (otherwise i neither c.repeater (d_write_of c h b).core.repeater)
  unfolding obeyed moved
  write_stood c h b =
      let r : Repeater = c.repeater in
      after_write (λ d. Moves i r d.repeater (otherwise i neither r d.repeater)) c b (same r) (λ g s. set_stood s r)
      (λ g q. stood r (got_of q r).repeater neither (enabled_got q r i) (get_moves q r i))
      (λ k. same r)
      h

  access_stood : (a : Access) (c : Core) (nine : Nine) (h : Host)
      → Moves i c.repeater (served a c nine h).core.repeater (otherwise i neither c.repeater (served a c nine h).core.repeater)
  unfolding served c_read_of
  access_stood (WriteC b) c nine h = same c.repeater
  access_stood (WriteD b) c nine h = write_stood c h b
  access_stood ReadC c nine h = same c.repeater
  access_stood ReadD c nine h = rw (← read_same c nine h) (same c.repeater)

  taken_moves : (a : Asked) (source : List ℕ) (s : Chip) (h : Host)
      → Moves i s.core.repeater (taken a source s h).chip.core.repeater (event_for i a s.core.repeater (taken a source s h).chip.core.repeater)
  unfolding taken moved noted_on burst_on burst_core if_burst
  taken_moves (ask.Burst b) source s h =
      let r : Repeater = s.core.repeater in
      stood r (burst_of r (activity_of b)).repeater (burst_event r (activity_of b) i) (enabled_bursted r (activity_of b) i) (burst_moves r (activity_of b) i)
  taken_moves (ask.Quiet q) source s h =
      let r : Repeater = s.core.repeater in
      rw (quiet_is_no 8 refl q) (stood r (quieted q r) neither (enabled_quieted q r i) (quiet_moves q r i))
  taken_moves (ask.Access a) source s h = rw (access_is_no 8 refl refl refl refl a) (access_stood a s.core s.attributes h)
  taken_moves ask.Reset source s h = reset_moves s.core.repeater i
  taken_moves (ask.Refused k) source s h = same s.core.repeater

  pub moves : (p : Point) (bs : List ℕ) → Moves i (repeater_at p) (repeater_at (happens p bs).after) (event_at i (happens p bs))
  unfolding happening step_of event_at
  moves p bs = taken_moves (record_of bs).asked (record_of bs).source p.chip p.host

  -- ALL RECORDS

  keeps : Keeps (λ (p : Point). Unit) (λ p. standing_at (repeater_at p) i) (λ p bs. (happens p bs).after) (λ p bs. event_at i (happens p bs)) run
      (λ p rs. map (event_at i) (history p rs))
  unfolding run_of history_of
  keeps = record {
    after_none = λ p. refl;
    after_more = λ p r rs. refl;
    events_none = λ p. refl;
    events_more = λ p r rs. refl;
    sound = λ p r h. tt;
    moves = λ p r h. moves p r;
  }

-- a port's bit in the mask tells its standing
pub standing_test : (p : Port) → is_partitioned (standing_of p) ≡ p.partitioned
standing_test p = go p.partitioned refl
  where
    go : (b : Bool) → p.partitioned ≡ b → is_partitioned (standing_of p) ≡ p.partitioned
    go true h = rw h
    go false h = rw h

is_partitioned_lem : (s : Standing) → is_partitioned s ≡ true → s ≡ partitioned
is_partitioned_lem (connected n) h = absurd (true≢false (sym h))
is_partitioned_lem partitioned h = refl

test_at : (r : Repeater) (i : ℕ) → i < 16 → has (partitioned_of r) i ≡ is_partitioned (standing_at r i)
unfolding among
test_at r i h = those_has Partitioned r i h ∙ sym (standing_test (port_at r i))

pub partition_by_past : PartitionByPast
partition_by_past given rs i l =
    let m : i < 16 = omega arith in
    let p : Point = run (start given) rs in
    let t =
    told_exactly (λ (p : Point). Unit) (λ p. standing_at (repeater_at p) i) (λ p bs. (happens p bs).after) (λ p bs. event_at i (happens p bs)) run
    (λ p rs. map (event_at i) (history p rs)) (keeps i m) (start given) rs tt (up_connected i) in
    record {
      forth = λ h. t.forth (is_partitioned_lem (standing_at (repeater_at p) i) (sym (test_at (repeater_at p) i m) ∙ h));
      back = λ k. test_at (repeater_at p) i m ∙ ap is_partitioned (t.back k);
    }
