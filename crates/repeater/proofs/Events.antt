-- The repeater moves each port's standing as the events of its history say: demand 3 for one port, proved in the crate history, holds of the repeater's ports.
-- Every law is for every repeater, and all but followed_moves for every place. Assumes nothing.
--   fair                 == what a burst is to a port is fair: it does not collide where it is clean, and reconnects only where it is clean
--   followed_moves, burst_moves == a burst moves the port at place i as its event there says
--   set_moves            == so does a Set
--   quiet_moves, get_moves == link pulses, ticks and Gets leave the standing alone: to every port they are `neither`
--   up_connected, reset_moves == at power-up, and after a reset, every port is connected with count 0: a reset is `cleared`
--   input_moves          == one law for whatever happens to the repeater
--   partitioned_by_past  == demand 3 for the repeater by itself: after any list of inputs from power-up, at every place
use Prim.Native.Nat.{ℕ, ◌≤◌, ◌<◌}
use mathlib.Core.Path.{◌≡◌, refl, ap, ◌∙◌}
use mathlib.Core.Bool.{Bool, true, false, cond, ◌&&◌}
use mathlib.Core.List.{List}
use borrow.Author.Tests.{eqb-true, ltb-false, leb-true, leb-false}
use lib.Dec.{eqb, ltb, leb}
use Rattle.ports.specs.declared.Quiet.{Quiet}
use Rattle.ports.specs.Sets.{aui, has}
use Rattle.history.specs.Exactly.{Exactly}
use Rattle.history.specs.History.{neither, cleared, connected, partitioned, after_event, since, Struck}
use Rattle.history.proofs.Past.{Keeps, told_exactly}
use Rattle.ports.proofs.Sets.{set_false, and_first}
use Rattle.management.specs.declared.Setting.{Setting}
use Rattle.management.specs.declared.Setting.TheVariants.{AlternateAui, AlternateTp, DisableAui, EnableAui, DisableTp, EnableTp, LinkTestOff, LinkTestOn}
use Rattle.management.specs.declared.Query.{Query}
use Rattle.management.specs.Status.{cleared_by}
use Rattle.port.specs.declared.Port.{Port}
use Rattle.port.specs.declared.Meeting.{Meeting}
use Rattle.port.specs.declared.Change.{Change}
use Rattle.port.specs.declared.Change.TheVariants.{Disabling, EnablingTp, EnablingAui, StoppingTest, StartingTest}
use Rattle.port.specs.Settings.{changed}
use Rattle.port.specs.Standing.{standing_of, event_of}
use Rattle.port.proofs.Kept.{revived_at_keeps}
use Rattle.port.proofs.Standing.{Fair, tied, stays, clears, linkless, disabling_moves, quiet, quiet_keeps}
use Rattle.burst.specs.declared.Activity.{Activity}
use Rattle.burst.specs.declared.Bus.{Bus}
use Rattle.burst.specs.declared.Hearing.{Hearing}
use Rattle.burst.specs.declared.Effect.{Effect}
use Rattle.burst.specs.Burst.{effect_of}
use Rattle.burst.specs.Clean.{lasting_at, reconnecting_at}
use Rattle.burst.proofs.CleanLaws.{collided_lasts_not}
use Rattle.repeater.specs.declared.Repeater.{Repeater}
use Rattle.repeater.specs.Those.{Transmitting}
use Rattle.repeater.specs.Door.{places_of, port_at}
use Rattle.repeater.specs.Reset.{power_up}
use Rattle.repeater.specs.Hearing.{in_t, hearing_of, meeting_of}
use Rattle.repeater.specs.Repeater.{quieted, partitioned_at, met_at, followed, burst_of, changed_at, changed_tp, set_to, got_of, among}
use Rattle.repeater.specs.Events as event
use Rattle.repeater.specs.Events.{standing_at, followed_event, burst_event, disables, set_event, Input, burst, setting, query, reset}
use Rattle.repeater.specs.Events.{after_input, input_event, after_inputs, input_events}
use Rattle.repeater.proofs.DoorLaws.{port_past, port_put, put_keeps, port_status, port_alternate, up_keeps, past_among}
use Rattle.repeater.proofs.Kept as kept
use Rattle.repeater.proofs.Kept.{places_bursted, port_followed}

-- WHAT A BURST IS TO A PORT

module _ (r : Repeater) (bus : Bus) (hearing : Hearing) (activity : Activity) (i : ℕ) where
  abbrev effect : Effect
  effect = effect_of bus hearing activity

  pub fair : Fair (met_at r bus hearing activity i)
  unfolding met_at meeting_of reconnecting_at
  fair = record {
    apart = λ h. set_false (lasting_at hearing effect activity) i (collided_lasts_not hearing effect activity i h);
    long = λ h. and_first _ _ h;
  }

-- BURSTS

stepped : (t : ℕ) (m : Meeting) (i : ℕ) (p : Port) → Fair m → (a : Bool) → has t i ≡ a
    → standing_of (partitioned_at t m i p) ≡ after_event (standing_of p) (cond (has t i) (event_of m) neither)
unfolding partitioned_at
stepped t m i p f true h = rw h (tied m p f)
stepped t m i p f false h = rw h (stays (standing_of p))

module _ (r : Repeater) (bus : Bus) (hearing : Hearing) (activity : Activity) where
  -- a hearing from elsewhere may have places in T that are no ports
  pub followed_moves : (i : ℕ) → i < places_of r
      → standing_at (followed r bus hearing activity).repeater i ≡ after_event (standing_at r i) (followed_event r bus hearing activity i)
  unfolding followed_event
  followed_moves i h =
      let m = met_at r bus hearing activity i in
      let p = port_at r i in
      ap standing_of (port_followed r bus hearing activity i h)
      ∙ revived_at_keeps standing_of linkless activity.mask i (partitioned_at hearing.t m i p)
      ∙ stepped hearing.t m i p (fair r bus hearing activity i) (has hearing.t i) refl

module _ (r : Repeater) (activity : Activity) (i : ℕ) where
  past_event : places_of r ≤ i → burst_event r activity i ≡ neither
  unfolding burst_event followed_event hearing_of among
  past_event h = rw (set_false (in_t r) i (past_among Transmitting r i h))

  past_moves : places_of r ≤ i → standing_at (burst_of r activity).repeater i ≡ after_event (standing_at r i) (burst_event r activity i)
  past_moves h =
      let k : places_of (burst_of r activity).repeater ≤ i = rw (places_bursted r activity) h in
      rw (port_past (burst_of r activity).repeater i k, port_past r i h, past_event h)

  pub burst_moves : standing_at (burst_of r activity).repeater i ≡ after_event (standing_at r i) (burst_event r activity i)
  unfolding burst_of burst_event
  burst_moves = go (leb (places_of r) i) refl
    where
      go : (a : Bool) → leb (places_of r) i ≡ a → standing_at (burst_of r activity).repeater i ≡ after_event (standing_at r i) (burst_event r activity i)
      go true h = past_moves (leb-true (places_of r) i h)
      go false h = followed_moves r Bus.Nothing (hearing_of r activity) activity i (leb-false (places_of r) i h)

-- LINK PULSES, TICKS, GETS, RESETS

pub quiet_moves : (q : Quiet) (r : Repeater) (i : ℕ) → standing_at (quieted q r) i ≡ after_event (standing_at r i) neither
quiet_moves q r i = kept.quiet_keeps standing_of linkless q r i ∙ stays (standing_at r i)

pub get_moves : (q : Query) (r : Repeater) (i : ℕ) → standing_at (got_of q r).repeater i ≡ after_event (standing_at r i) neither
unfolding got_of
get_moves q r i = ap standing_of (port_status r (cleared_by q r.status) i) ∙ stays (standing_at r i)

pub up_connected : (i : ℕ) → standing_at power_up i ≡ connected 0
up_connected i = up_keeps standing_of (connected 0) refl refl refl i

pub reset_moves : (r : Repeater) (i : ℕ) → standing_at power_up i ≡ after_event (standing_at r i) cleared
reset_moves r i = up_connected i ∙ clears (standing_at r i)

-- SETS

disabling_at : (k : ℕ) (r : Repeater) (i : ℕ)
    → standing_at (changed_at Disabling k r) i ≡ after_event (standing_at r i) (cond (eqb i k && (port_at r i).enabled) cleared neither)
unfolding changed_at
disabling_at k r i = ap standing_of (port_put r k (changed Disabling (port_at r k)) i) ∙ go (eqb i k) (ltb k (places_of r)) refl refl
  where
    go : (a b : Bool) → eqb i k ≡ a → ltb k (places_of r) ≡ b
        → standing_of (cond (a && b) (changed Disabling (port_at r k)) (port_at r i))
        ≡ after_event (standing_at r i) (cond (a && (port_at r i).enabled) cleared neither)
    go true true e l = rw (eqb-true i k e) (disabling_moves (port_at r k) (port_at r k).enabled refl)
    go true false e l = rw (port_past r i (rw (eqb-true i k e) (ltb-false k (places_of r) l)))
    go false b e l = stays (standing_at r i)

quiet_at_lem : (how : Change) (k : ℕ) (r : Repeater) (i : ℕ) → quiet how ≡ true → standing_at (changed_at how k r) i ≡ after_event (standing_at r i) neither
unfolding changed_at
quiet_at_lem how k r i h = put_keeps standing_of r k (changed how (port_at r k)) (quiet_keeps how (port_at r k) h) i ∙ stays (standing_at r i)

quiet_tp : (how : Change) (k : ℕ) (r : Repeater) (i : ℕ) → quiet how ≡ true → standing_at (changed_tp how k r) i ≡ after_event (standing_at r i) neither
unfolding changed_tp
quiet_tp how k r i h = go (ltb k aui)
  where
    go : (a : Bool) → standing_at (cond a (changed_at how k r) r) i ≡ after_event (standing_at r i) neither
    go true = quiet_at_lem how k r i h
    go false = stays (standing_at r i)

disabling_tp : (k : ℕ) (r : Repeater) (i : ℕ)
    → standing_at (changed_tp Disabling k r) i ≡ after_event (standing_at r i) (cond (ltb k aui && eqb i k && (port_at r i).enabled) cleared neither)
unfolding changed_tp
disabling_tp k r i = go (ltb k aui)
  where
    go : (a : Bool)
        → standing_at (cond a (changed_at Disabling k r) r) i ≡ after_event (standing_at r i) (cond (a && eqb i k && (port_at r i).enabled) cleared neither)
    go true = disabling_at k r i
    go false = stays (standing_at r i)

pub set_moves : (s : Setting) (r : Repeater) (i : ℕ) → standing_at (set_to s r) i ≡ after_event (standing_at r i) (set_event s r i)
unfolding set_to set_event disables
set_moves AlternateAui r i = ap standing_of (port_alternate r true r.alternate_tp i) ∙ stays (standing_at r i)
set_moves AlternateTp r i = ap standing_of (port_alternate r r.alternate_aui true i) ∙ stays (standing_at r i)
set_moves DisableAui r i = disabling_at aui r i
set_moves EnableAui r i = quiet_at_lem EnablingAui aui r i refl
set_moves (DisableTp k) r i = disabling_tp k r i
set_moves (EnableTp k) r i = quiet_tp EnablingTp k r i refl
set_moves (LinkTestOff k) r i = quiet_tp StoppingTest k r i refl
set_moves (LinkTestOn k) r i = quiet_tp StartingTest k r i refl

-- THE REPEATER BY ITSELF

pub input_moves : (i : ℕ) (r : Repeater) (a : Input) → standing_at (after_input r a) i ≡ after_event (standing_at r i) (input_event i r a)
input_moves i r (burst activity) = burst_moves r activity i
input_moves i r (event.quiet q) = quiet_moves q r i
input_moves i r (setting s) = set_moves s r i
input_moves i r (query q) = get_moves q r i
input_moves i r reset = reset_moves r i

keeps : (i : ℕ) → Keeps (λ (r : Repeater). Unit) (λ r. standing_at r i) after_input (input_event i) after_inputs (input_events i)
keeps i = record {
  after_none = λ r. refl;
  after_more = λ r a inputs. refl;
  events_none = λ r. refl;
  events_more = λ r a inputs. refl;
  sound = λ r a h. tt;
  moves = λ r a h. input_moves i r a;
}

pub partitioned_by_past : (i : ℕ) (inputs : List Input)
    → Exactly (standing_at (after_inputs power_up inputs) i ≡ partitioned) (Struck (since (input_events i power_up inputs)))
partitioned_by_past i inputs =
    told_exactly (λ (r : Repeater). Unit) (λ r. standing_at r i) after_input (input_event i) after_inputs (input_events i) (keeps i)
    power_up inputs tt (up_connected i)
