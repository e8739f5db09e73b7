-- Document 01, 'Partition' and 'Reset and power-up': what a burst or a Set is to one port of the repeater, as an event of its history, and where the
-- port stands. proofs/Events.antt proves that the repeater moves each port as the events say. The layer above turns its records into inputs of the
-- repeater, or into none.
--   standing_at r i     == how the port at place i stands
--   followed_event, burst_event == the event that a burst is to port i, of T or not: for a given hearing, and for the repeater's own
--   disables s i       == the Set s is the disabling of port i
--   set_event s r i     == the event that a Set is to port i
--   Input              == whatever may happen to the repeater by itself
--   after_input, input_event == the repeater after one, and what it is to port i; after_inputs, input_events, for a list
-- Assumes nothing.
use Rattle.std.specs.Prelude.{ℕ, Bool, false, cond, ◌&&◌, List, [], ◌∷◌, eqb, ltb}
use Rattle.ports.specs.declared.Quiet.{Quiet}
use Rattle.ports.specs.Sets.{aui, has}
use Rattle.management.specs.declared.Setting.{Setting}
use Rattle.management.specs.declared.Setting.TheVariants.{AlternateAui, AlternateTp, DisableAui, EnableAui, DisableTp, EnableTp, LinkTestOff, LinkTestOn}
use Rattle.management.specs.declared.Query.{Query}
use Rattle.history.specs.History.{Event, neither, cleared, Standing}
use Rattle.port.specs.Standing.{standing_of, event_of}
use Rattle.burst.specs.declared.Activity.{Activity}
use Rattle.burst.specs.declared.Bus.{Bus}
use Rattle.burst.specs.declared.Hearing.{Hearing}
use Rattle.repeater.specs.declared.Repeater.{Repeater}
use Rattle.repeater.specs.Door.{port_at}
use Rattle.repeater.specs.Reset.{power_up}
use Rattle.repeater.specs.Hearing.{hearing_of}
use Rattle.repeater.specs.Repeater.{quieted, met_at, burst_of, set_to, got_of}

abbrev pub standing_at : Repeater → ℕ → Standing
standing_at r i = standing_of (port_at r i)

unfoldable pub followed_event : Repeater → Bus → Hearing → Activity → ℕ → Event
followed_event r bus hearing activity i = cond (has hearing.t i) (event_of (met_at r bus hearing activity i)) neither

unfoldable pub burst_event : Repeater → Activity → ℕ → Event
burst_event r activity i = followed_event r Bus.Nothing (hearing_of r activity) activity i

unfoldable pub disables : Setting → ℕ → Bool
disables AlternateAui i = false
disables AlternateTp i = false
disables DisableAui i = eqb i aui
disables EnableAui i = false
disables (DisableTp k) i = ltb k aui && eqb i k
disables (EnableTp k) i = false
disables (LinkTestOff k) i = false
disables (LinkTestOn k) i = false

-- what is disabled already is not disabled again
unfoldable pub set_event : Setting → Repeater → ℕ → Event
set_event s r i = cond (disables s i && (port_at r i).enabled) cleared neither

pub data Input : Type 0 where
  burst : Activity → Input
  quiet : Quiet → Input
  setting : Setting → Input
  query : Query → Input
  reset : Input

abbrev pub after_input : Repeater → Input → Repeater
after_input r (burst activity) = (burst_of r activity).repeater
after_input r (quiet q) = quieted q r
after_input r (setting s) = set_to s r
after_input r (query q) = (got_of q r).repeater
after_input r reset = power_up

abbrev pub input_event : ℕ → Repeater → Input → Event
input_event i r (burst activity) = burst_event r activity i
input_event i r (quiet q) = neither
input_event i r (setting s) = set_event s r i
input_event i r (query q) = neither
input_event i r reset = cleared

abbrev pub after_inputs : Repeater → List Input → Repeater
after_inputs r [] = r
after_inputs r (a ∷ inputs) = after_inputs (after_input r a) inputs

abbrev pub input_events : ℕ → Repeater → List Input → List Event
input_events i r [] = []
input_events i r (a ∷ inputs) = input_event i r a ∷ input_events i (after_input r a) inputs
