-- Who is enabled: a burst, a tick, link pulses and a Get enable and disable nobody, and a Set disables the port at place i exactly if it is the disabling of
-- that port, which was enabled. So a disabling can be seen in the enabled ports before and after a record. Assumes nothing.
--   enabled_in r i    == the port at place i is enabled
--   enabled_at_lem       == it is in the mask exactly then
--   enabled_bursted, -quieted, -got == it is enabled as before
--   enabled_set      == it was, and after the Set it is not, exactly if the Set disables it
use Prim.Native.Nat.{ℕ, ◌<◌}
use mathlib.Core.Path.{◌≡◌, refl, sym, ap, ◌∙◌}
use mathlib.Core.Bool.{Bool, true, false, cond, not, ◌&&◌, and-true, and-false, and-not_self}
use borrow.Author.Tests.{eqb-true, ltb-false}
use lib.Dec.{eqb, ltb}
use Rattle.ports.specs.declared.Quiet.{Quiet}
use Rattle.ports.specs.Sets.{aui, has}
use Rattle.port.specs.declared.Port.{Port}
use Rattle.port.specs.declared.Meeting.{Meeting}
use Rattle.port.specs.declared.Change.{Change}
use Rattle.port.specs.declared.Change.TheVariants.{Disabling, EnablingTp, EnablingAui, StoppingTest, StartingTest}
use Rattle.port.specs.Partition.{partitioning, after_meeting}
use Rattle.port.specs.Settings.{changed}
use Rattle.burst.specs.declared.Activity.{Activity}
use Rattle.management.specs.declared.Setting.{Setting}
use Rattle.management.specs.declared.Setting.TheVariants.{AlternateAui, AlternateTp, DisableAui, EnableAui, DisableTp, EnableTp, LinkTestOff, LinkTestOn}
use Rattle.management.specs.declared.Query.{Query}
use Rattle.management.specs.Status.{cleared_by}
use Rattle.repeater.specs.declared.Repeater.{Repeater}
use Rattle.repeater.specs.Those.{Enabled}
use Rattle.repeater.specs.Door.{with_alternate, places_of, port_at}
use Rattle.repeater.specs.Repeater.{quieted, burst_of, changed_at, changed_tp, set_to, got_of, among, enabled_of}
use Rattle.repeater.specs.Events.{disables}
use Rattle.repeater.proofs.DoorLaws.{those_has, port_past, port_put, port_status, port_alternate}
use Rattle.repeater.proofs.Kept.{quiet_keeps, burst_keeps}

abbrev pub enabled_in : Repeater → ℕ → Bool
enabled_in r i = (port_at r i).enabled

pub enabled_at_lem : (r : Repeater) (i : ℕ) → i < 16 → has (enabled_of r) i ≡ enabled_in r i
unfolding among
enabled_at_lem r i h = those_has Enabled r i h

-- BURSTS, TICKS, LINK PULSES, GETS

-- whichever way a choice goes
either : (b : Bool) (p x y : Port) → x.enabled ≡ p.enabled → y.enabled ≡ p.enabled → (cond b x y).enabled ≡ p.enabled
either true p x y k l = k
either false p x y k l = l

meeting_keeps : (m : Meeting) (p : Port) → (after_meeting m p).enabled ≡ p.enabled
unfolding after_meeting
meeting_keeps m p =
    either p.partitioned p _ _ (either m.reconnecting p _ p refl refl)
    (either m.collided p _ _ (either (partitioning m p.count) p _ _ refl refl) (either m.clean p _ p refl refl))

pub enabled_bursted : (r : Repeater) (activity : Activity) (i : ℕ) → enabled_in (burst_of r activity).repeater i ≡ enabled_in r i
enabled_bursted r activity i = burst_keeps (λ (p : Port). p.enabled) (λ p pass idle pulses. refl) meeting_keeps r activity i

pub enabled_quieted : (q : Quiet) (r : Repeater) (i : ℕ) → enabled_in (quieted q r) i ≡ enabled_in r i
enabled_quieted q r i = quiet_keeps (λ (p : Port). p.enabled) (λ p pass idle pulses. refl) q r i

pub enabled_got : (q : Query) (r : Repeater) (i : ℕ) → enabled_in (got_of q r).repeater i ≡ enabled_in r i
unfolding got_of
enabled_got q r i = ap (λ (p : Port). p.enabled) (port_status r (cleared_by q r.status) i)

-- SETS

abbrev is_disabling : Change → Bool
is_disabling Disabling = true
is_disabling EnablingTp = false
is_disabling EnablingAui = false
is_disabling StoppingTest = false
is_disabling StartingTest = false

changed_here : (how : Change) (p : Port) (a b : Bool) → p.enabled ≡ a → p.link_test ≡ b
    → (p.enabled && not (changed how p).enabled) ≡ (is_disabling how && p.enabled)
unfolding changed
changed_here Disabling p true b h k = rw h
changed_here Disabling p false b h k = rw h
changed_here EnablingTp p true b h k = rw h
changed_here EnablingTp p false b h k = rw h
changed_here EnablingAui p a b h k = and-false p.enabled
changed_here StoppingTest p a true h k = rw k (and-not_self p.enabled)
changed_here StoppingTest p a false h k = rw k (and-not_self p.enabled)
changed_here StartingTest p a true h k = rw k (and-not_self p.enabled)
changed_here StartingTest p a false h k = rw k (and-not_self p.enabled)

-- a port that a Set does not name is enabled as before
elsewhere : (a b : Bool) → (a && not a) ≡ (b && false && a)
elsewhere a b = rw (and-false b) (and-not_self a)

changed_at_lem : (how : Change) (k : ℕ) (r : Repeater) (i : ℕ)
    → (enabled_in r i && not (enabled_in (changed_at how k r) i)) ≡ (is_disabling how && eqb i k && enabled_in r i)
unfolding changed_at
changed_at_lem how k r i =
    ap (λ (p : Port). enabled_in r i && not p.enabled) (port_put r k (changed how (port_at r k)) i) ∙ go (eqb i k) (ltb k (places_of r)) refl refl
  where
    go : (a b : Bool) → eqb i k ≡ a → ltb k (places_of r) ≡ b
        → (enabled_in r i && not (cond (a && b) (changed how (port_at r k)) (port_at r i)).enabled) ≡ (is_disabling how && a && enabled_in r i)
    go true true e l = rw (eqb-true i k e, and-true (is_disabling how)) (changed_here how (port_at r k) (port_at r k).enabled (port_at r k).link_test refl refl)
    go true false e l =
        let none : enabled_in r i ≡ false = ap (λ (p : Port). p.enabled) (port_past r i (rw (eqb-true i k e) (ltb-false k (places_of r) l))) in
        and-not_self (enabled_in r i) ∙ sym (ap (λ (t : Bool). is_disabling how && true && t) none ∙ and-false (is_disabling how && true))
    go false b e l = elsewhere (enabled_in r i) (is_disabling how)

changed_tp_lem : (how : Change) (k : ℕ) (r : Repeater) (i : ℕ)
    → (enabled_in r i && not (enabled_in (changed_tp how k r) i)) ≡ (is_disabling how && ltb k aui && eqb i k && enabled_in r i)
unfolding changed_tp
changed_tp_lem how k r i = go (ltb k aui)
  where
    go : (a : Bool) → (enabled_in r i && not (enabled_in (cond a (changed_at how k r) r) i)) ≡ (is_disabling how && a && eqb i k && enabled_in r i)
    go true = rw (and-true (is_disabling how)) (changed_at_lem how k r i)
    go false = rw (and-false (is_disabling how)) (and-not_self (enabled_in r i))

-- another algorithm enables and disables nobody
alternate_keeps : (r : Repeater) (for_aui for_tp : Bool) (i : ℕ) → (enabled_in r i && not (enabled_in (with_alternate r for_aui for_tp) i)) ≡ false
alternate_keeps r for_aui for_tp i = ap (λ (p : Port). enabled_in r i && not p.enabled) (port_alternate r for_aui for_tp i) ∙ and-not_self (enabled_in r i)

pub enabled_set : (s : Setting) (r : Repeater) (i : ℕ) → (enabled_in r i && not (enabled_in (set_to s r) i)) ≡ (disables s i && enabled_in r i)
unfolding set_to disables
enabled_set AlternateAui r i = alternate_keeps r true r.alternate_tp i
enabled_set AlternateTp r i = alternate_keeps r r.alternate_aui true i
enabled_set DisableAui r i = changed_at_lem Disabling aui r i
enabled_set EnableAui r i = changed_at_lem EnablingAui aui r i
enabled_set (DisableTp k) r i = changed_tp_lem Disabling k r i
enabled_set (EnableTp k) r i = changed_tp_lem EnablingTp k r i
enabled_set (LinkTestOff k) r i = changed_tp_lem StoppingTest k r i
enabled_set (LinkTestOn k) r i = changed_tp_lem StartingTest k r i
