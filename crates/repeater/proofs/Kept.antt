-- What leaves what alone, for the layer above: between bursts, and by Gets, nobody is partitioned and nobody connected, a Get fails and raises no link, and
-- nothing changes the number of ports. Assumes nothing.
--   quiet_keeps                          == what looks at no link of a port is the same after link pulses and after a tick
--   port_followed, port_bursted          == what a burst does to one port: its partition step, by what the burst is for it, and then its link
--   burst_keeps                          == what looks at no link of a port and at nothing that a partition step changes is the same after a burst
--   partitioned_quieted, partitioned_got == the partitioned ports are the same after it
--   linked_got                           == so are the TP ports whose link passes
--   partitioned_lt, linked_lt            == how large the two masks can be
--   places_quieted, -followed, -bursted, -set, -got == how many ports there are
use Prim.Native.Nat.{ℕ, ◌≤◌, ◌<◌}
use mathlib.Core.Path.{◌≡◌, refl, ap, ◌∙◌}
use mathlib.Core.Bool.{Bool, true, false, cond}
use native.Mathlib.Omega.{arith}
use borrow.Author.Tests.{le-ltb, leb-true, leb-false}
use lib.Dec.{leb, ltb}
use Rattle.ports.specs.declared.Quiet.{Quiet}
use Rattle.ports.specs.declared.Quiet.TheVariants.{Pulse, Tick}
use Rattle.ports.specs.Sets.{aui, has, set_of}
use Rattle.ports.proofs.Sets.{gather_lt, gather_more}
use Rattle.management.specs.declared.Setting.{Setting}
use Rattle.management.specs.declared.Setting.TheVariants.{AlternateAui, AlternateTp, DisableAui, EnableAui, DisableTp, EnableTp, LinkTestOff, LinkTestOn}
use Rattle.management.specs.declared.Query.{Query}
use Rattle.management.specs.Status.{marked, cleared_by}
use Rattle.port.specs.declared.Port.{Port}
use Rattle.port.specs.declared.Meeting.{Meeting}
use Rattle.port.specs.declared.Change.{Change}
use Rattle.port.specs.declared.Change.TheVariants.{Disabling, EnablingTp, EnablingAui, StoppingTest, StartingTest}
use Rattle.port.specs.Partition.{after_meeting}
use Rattle.port.specs.Link.{revived_at}
use Rattle.port.specs.Settings.{changed}
use Rattle.port.proofs.Kept.{Unlinked, ticked_at_keeps, pulsed_at_keeps, revived_at_keeps}
use Rattle.burst.specs.declared.Activity.{Activity}
use Rattle.burst.specs.declared.Bus.{Bus}
use Rattle.burst.specs.declared.Hearing.{Hearing}
use Rattle.burst.specs.declared.Effect.{Effect}
use Rattle.burst.specs.Burst.{effect_of}
use Rattle.burst.specs.Clean.{lasting_at}
use Rattle.burst.specs.Marks.{marks_of}
use Rattle.repeater.specs.declared.Repeater.{Repeater}
use Rattle.repeater.specs.Those.{Partitioned, Linked}
use Rattle.repeater.specs.Door.{places_of, port_at, each_port}
use Rattle.repeater.specs.Hearing.{hearing_of}
use Rattle.repeater.specs.Repeater.{quiet_at, quieted, partitioned_at, port_after, met_at, followed, burst_of, changed_at, changed_tp, set_to, got_of}
use Rattle.repeater.specs.Repeater.{among, those_of, partitioned_of, linked_of}
use Rattle.repeater.proofs.DoorLaws.{port_past, port_each, each_port_keeps, port_status, places_each, places_put, places_status, places_alternate, those_lt, same_those}

-- WHAT LOOKS AT NO LINK

module _ {B : Type 0} (q : Port → B) (h : Unlinked q) where
  quiet_at_keeps : (quiet : Quiet) (i : ℕ) (p : Port) → q (quiet_at quiet i p) ≡ q p
  quiet_at_keeps (Pulse mask) i p = pulsed_at_keeps q h mask i p
  quiet_at_keeps Tick i p = ticked_at_keeps q h i p

  pub quiet_keeps : (quiet : Quiet) (r : Repeater) (i : ℕ) → q (port_at (quieted quiet r) i) ≡ q (port_at r i)
  unfolding quieted
  quiet_keeps quiet r i = each_port_keeps q r (quiet_at quiet) (quiet_at_keeps quiet) i

-- BURSTS

module _ (r : Repeater) (bus : Bus) (hearing : Hearing) (activity : Activity) where
  abbrev after : ℕ → Port → Port
  after =
      let effect : Effect = effect_of bus hearing activity in
      port_after r.alternate_aui r.alternate_tp hearing effect activity (set_of (lasting_at hearing effect activity))

  pub places_followed : places_of (followed r bus hearing activity).repeater ≡ places_of r
  unfolding followed
  places_followed = places_status (each_port after r) (marked r.status (marks_of (effect_of bus hearing activity) activity)) ∙ places_each r after

  pub port_followed : (i : ℕ) → i < places_of r
      → port_at (followed r bus hearing activity).repeater i
      ≡ revived_at activity.mask i (partitioned_at hearing.t (met_at r bus hearing activity i) i (port_at r i))
  unfolding followed port_after met_at
  port_followed i h =
      port_status (each_port after r) (marked r.status (marks_of (effect_of bus hearing activity) activity)) i ∙ port_each r after i h

module _ (r : Repeater) (activity : Activity) where
  abbrev hearing : Hearing
  hearing = hearing_of r activity

  pub places_bursted : places_of (burst_of r activity).repeater ≡ places_of r
  unfolding burst_of
  places_bursted = places_followed r Bus.Nothing hearing activity

  pub port_bursted : (i : ℕ) → i < places_of r
      → port_at (burst_of r activity).repeater i
      ≡ revived_at activity.mask i (partitioned_at hearing.t (met_at r Bus.Nothing hearing activity i) i (port_at r i))
  unfolding burst_of
  port_bursted i h = port_followed r Bus.Nothing hearing activity i h

module _ {B : Type 0} (q : Port → B) (h : Unlinked q) (k : (m : Meeting) (p : Port) → q (after_meeting m p) ≡ q p) where
  met_keeps : (t : ℕ) (m : Meeting) (i : ℕ) (p : Port) → q (partitioned_at t m i p) ≡ q p
  unfolding partitioned_at
  met_keeps t m i p = go (has t i)
    where
      go : (b : Bool) → q (cond b (after_meeting m p) p) ≡ q p
      go true = k m p
      go false = refl

  pub burst_keeps : (r : Repeater) (activity : Activity) (i : ℕ) → q (port_at (burst_of r activity).repeater i) ≡ q (port_at r i)
  burst_keeps r activity i = go (leb (places_of r) i) refl
    where
      go : (b : Bool) → leb (places_of r) i ≡ b → q (port_at (burst_of r activity).repeater i) ≡ q (port_at r i)
      go true e =
          let l = leb-true (places_of r) i e in
          ap q (port_past (burst_of r activity).repeater i (rw (places_bursted r activity) l)) ∙ rw (port_past r i l)
      go false e =
          let m = met_at r Bus.Nothing (hearing_of r activity) activity i in
          let t = (hearing_of r activity).t in
          ap q (port_bursted r activity i (leb-false (places_of r) i e))
          ∙ revived_at_keeps q h activity.mask i (partitioned_at t m i (port_at r i))
          ∙ met_keeps t m i (port_at r i)

-- WHO IS PARTITIONED

same_partitioned : (r s : Repeater) → ((i : ℕ) → (port_at s i).partitioned ≡ (port_at r i).partitioned) → partitioned_of s ≡ partitioned_of r
unfolding among
same_partitioned r s h = same_those Partitioned r s h

pub partitioned_quieted : (quiet : Quiet) (r : Repeater) → partitioned_of (quieted quiet r) ≡ partitioned_of r
partitioned_quieted quiet r = same_partitioned r (quieted quiet r) (quiet_keeps (λ (p : Port). p.partitioned) (λ p pass idle pulses. refl) quiet r)

module _ (query : Query) (r : Repeater) where
  got_port : (i : ℕ) → port_at (got_of query r).repeater i ≡ port_at r i
  unfolding got_of
  got_port i = port_status r (cleared_by query r.status) i

  pub partitioned_got : partitioned_of (got_of query r).repeater ≡ partitioned_of r
  partitioned_got = same_those Partitioned r (got_of query r).repeater (λ i. rw (got_port i))

  pub linked_got : linked_of (got_of query r).repeater ≡ linked_of r
  linked_got = same_those Linked r (got_of query r).repeater (λ i. rw (got_port i))

-- HOW LARGE THE MASKS ARE

pub partitioned_lt : (r : Repeater) → partitioned_of r < 65536
partitioned_lt r = those_lt Partitioned r

-- AUI has no link
none_past_tp : (i : ℕ) (p : Port) → aui ≤ i → among Linked i p ≡ false
unfolding among
none_past_tp i p h = rw (le-ltb i aui h)

pub linked_lt : (r : Repeater) → linked_of r < 256
unfolding those_of
linked_lt r =
    let f : ℕ → Bool = λ i. among Linked i (port_at r i) in
    rw (← gather_more 8 16 f (omega arith) (λ i h. none_past_tp i (port_at r i) h)) (gather_lt 8 f)

-- HOW MANY PORTS THERE ARE

pub places_quieted : (quiet : Quiet) (r : Repeater) → places_of (quieted quiet r) ≡ places_of r
unfolding quieted
places_quieted quiet r = places_each r (quiet_at quiet)

places_changed : (how : Change) (i : ℕ) (r : Repeater) → places_of (changed_at how i r) ≡ places_of r
unfolding changed_at
places_changed how i r = places_put r i (changed how (port_at r i))

places_changed_tp : (how : Change) (i : ℕ) (r : Repeater) → places_of (changed_tp how i r) ≡ places_of r
unfolding changed_tp
places_changed_tp how i r = go (ltb i aui)
  where
    go : (b : Bool) → places_of (cond b (changed_at how i r) r) ≡ places_of r
    go true = places_changed how i r
    go false = refl

pub places_set : (setting : Setting) (r : Repeater) → places_of (set_to setting r) ≡ places_of r
unfolding set_to
places_set AlternateAui r = places_alternate r true r.alternate_tp
places_set AlternateTp r = places_alternate r r.alternate_aui true
places_set DisableAui r = places_changed Disabling aui r
places_set EnableAui r = places_changed EnablingAui aui r
places_set (DisableTp i) r = places_changed_tp Disabling i r
places_set (EnableTp i) r = places_changed_tp EnablingTp i r
places_set (LinkTestOff i) r = places_changed_tp StoppingTest i r
places_set (LinkTestOn i) r = places_changed_tp StartingTest i r

pub places_got : (query : Query) (r : Repeater) → places_of (got_of query r).repeater ≡ places_of r
unfolding got_of
places_got query r = places_status r (cleared_by query r.status)
