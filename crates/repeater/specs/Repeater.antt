-- The whole repeater: what each record and command of document 01 does to it. Every public function is stated with a definition of this file or of Reset.
--   quiet_at quiet i p, quieted quiet r == port p at place i, and the repeater, after link pulses or a tick
--   alternate_for               == whether port i goes by the alternate algorithm, of AUI's setting and the TP ports'
--   partitioned_at              == a port after its partition step, if it is in T
--   port_after                  == a port after a burst: its partition step, then its link if the mask has it
--   met_at r bus hearing activity i  == what a burst is for port i, by the algorithm that the port goes by
--   followed r bus hearing activity == what follows from a hearing, wherever it comes from
--   burst_of r activity         == after a burst, with what was heard, what followed and the status bits it set
--   changed_at, changed_tp       == after a change of the port at place i, and of TP port i
--   set_to setting r, got_of query r == after a Set; after a Get, with its answer
--   among those i p            == port p at place i is one of those that a mask is asked of
--   those_of those r            == their mask; partitioned_of, linked_of, enabled_of are the masks that the layer above may ask for
-- Assumes nothing.
use Rattle.std.specs.Prelude.{ℕ, Bool, true, cond, ◌&&◌, eqb, ltb}
use Rattle.ports.specs.declared.Quiet.{Quiet}
use Rattle.ports.specs.declared.Quiet.TheVariants.{Pulse, Tick}
use Rattle.ports.specs.Sets.{aui, has, set_of}
use Rattle.management.specs.declared.Status.{Status}
use Rattle.management.specs.declared.Setting.{Setting}
use Rattle.management.specs.declared.Setting.TheVariants.{AlternateAui, AlternateTp, DisableAui, EnableAui, DisableTp, EnableTp, LinkTestOff, LinkTestOn}
use Rattle.management.specs.declared.Query.{Query}
use Rattle.management.specs.Status.{marked, cleared_by}
use Rattle.port.specs.declared.Port.{Port}
use Rattle.port.specs.declared.Meeting.{Meeting}
use Rattle.port.specs.declared.Change.{Change}
use Rattle.port.specs.declared.Change.TheVariants.{Disabling, EnablingTp, EnablingAui, StoppingTest, StartingTest}
use Rattle.port.specs.Partition.{after_meeting}
use Rattle.port.specs.Link.{ticked_at, pulsed_at, revived_at}
use Rattle.port.specs.Settings.{changed}
use Rattle.burst.specs.declared.Activity.{Activity}
use Rattle.burst.specs.declared.Bus.{Bus}
use Rattle.burst.specs.declared.Hearing.{Hearing}
use Rattle.burst.specs.declared.Effect.{Effect}
use Rattle.burst.specs.Burst.{effect_of}
use Rattle.burst.specs.Clean.{lasting_at}
use Rattle.burst.specs.Marks.{marks_of}
use Rattle.repeater.specs.declared.Repeater.{Repeater}
use Rattle.repeater.specs.declared.Bursted.{Bursted}
use Rattle.repeater.specs.declared.Got.{Got}
use Rattle.repeater.specs.Those.{Those, Transmitting, Listening, Partitioned, Linked, Enabled}
use Rattle.repeater.specs.Door.{with_status, with_alternate, port_at, put_at, each_port}
use Rattle.repeater.specs.Hearing.{transmits, listens, hearing_of, meeting_of}
use Rattle.repeater.specs.Answers.{answer_of}

abbrev pub quiet_at : Quiet → ℕ → Port → Port
quiet_at (Pulse mask) = pulsed_at mask
quiet_at Tick = ticked_at

unfoldable pub quieted : Quiet → Repeater → Repeater
quieted quiet r = each_port (quiet_at quiet) r

unfoldable pub alternate_for : Bool → Bool → ℕ → Bool
alternate_for for_aui for_tp i = cond (eqb i aui) for_aui for_tp

unfoldable pub partitioned_at : ℕ → Meeting → ℕ → Port → Port
partitioned_at t meeting i p = cond (has t i) (after_meeting meeting p) p

unfoldable pub port_after : Bool → Bool → Hearing → Effect → Activity → ℕ → ℕ → Port → Port
port_after for_aui for_tp hearing effect activity lasting i p =
    revived_at activity.mask i (partitioned_at hearing.t (meeting_of effect activity lasting (alternate_for for_aui for_tp i) i) i p)

unfoldable pub met_at : Repeater → Bus → Hearing → Activity → ℕ → Meeting
met_at r bus hearing activity i =
    let effect : Effect = effect_of bus hearing activity in
    meeting_of effect activity (set_of (lasting_at hearing effect activity)) (alternate_for r.alternate_aui r.alternate_tp i) i

unfoldable pub followed : Repeater → Bus → Hearing → Activity → Bursted
followed r bus hearing activity =
    let effect : Effect = effect_of bus hearing activity in
    let lasting : ℕ = set_of (lasting_at hearing effect activity) in
    let marks : Status = marks_of effect activity in
    let after : Repeater = each_port (port_after r.alternate_aui r.alternate_tp hearing effect activity lasting) r in
    record { repeater = with_status after (marked r.status marks); hearing = hearing; effect = effect; marks = marks }

unfoldable pub burst_of : Repeater → Activity → Bursted
burst_of r activity = followed r Bus.Nothing (hearing_of r activity) activity

unfoldable pub changed_at : Change → ℕ → Repeater → Repeater
changed_at how i r = put_at i (changed how (port_at r i)) r

-- a Set names one of the TP ports; no other number does anything
unfoldable pub changed_tp : Change → ℕ → Repeater → Repeater
changed_tp how i r = cond (ltb i aui) (changed_at how i r) r

unfoldable pub set_to : Setting → Repeater → Repeater
set_to AlternateAui r = with_alternate r true r.alternate_tp
set_to AlternateTp r = with_alternate r r.alternate_aui true
set_to DisableAui r = changed_at Disabling aui r
set_to EnableAui r = changed_at EnablingAui aui r
set_to (DisableTp i) r = changed_tp Disabling i r
set_to (EnableTp i) r = changed_tp EnablingTp i r
set_to (LinkTestOff i) r = changed_tp StoppingTest i r
set_to (LinkTestOn i) r = changed_tp StartingTest i r

unfoldable pub got_of : Query → Repeater → Got
got_of query r = record { repeater = with_status r (cleared_by query r.status); value = answer_of query r }

unfoldable pub among : Those → ℕ → Port → Bool
among Transmitting i p = transmits i p
among Listening i p = listens i p
among Partitioned i p = p.partitioned
among Linked i p = ltb i aui && p.link_pass
among Enabled i p = p.enabled

unfoldable pub those_of : Those → Repeater → ℕ
those_of those r = set_of (λ i. among those i (port_at r i))

abbrev pub partitioned_of : Repeater → ℕ
partitioned_of r = those_of Partitioned r

abbrev pub linked_of : Repeater → ℕ
linked_of r = those_of Linked r

abbrev pub enabled_of : Repeater → ℕ
enabled_of r = those_of Enabled r
