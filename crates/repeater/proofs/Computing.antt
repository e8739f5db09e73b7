-- What has to unfold for the repeater to compute: `unfolding repeating` opens every definition of the repeater and of the crates below it. The other names open
-- parts of that: sets, lists, commands and status; one port; one burst; the ports of the repeater. Assumes nothing.
use Prim.Native.Nat.{ℕ}
use lib.Count.{ones, count_trailing_zeros}
use Rattle.ports.specs.Sets.{has, gather}
use Rattle.ports.specs.Each.{each}
use Rattle.management.specs.Commands.{row_of, command_of}
use Rattle.management.specs.Status.{marked, cleared_by}
use Rattle.port.specs.Link.{ticked, pulsed, revived, ticked_at, pulsed_at, revived_at}
use Rattle.port.specs.Partition.{partitioning, after_meeting}
use Rattle.port.specs.Settings.{changed}
use Rattle.burst.specs.Burst.{heard_of, effect_with, effect_of}
use Rattle.burst.specs.Clean.{data_to, clean_at, lasting_at, reconnecting_at}
use Rattle.burst.specs.Marks.{marks_of}
use Rattle.store.specs.Door.{ports_from, ports_of, mask_of, with_ports_in, places_in, port_in, put_in, each_in, alike_in, met_in}
use Rattle.repeater.specs.Door.{places_of, port_at, put_at, each_port}
use Rattle.repeater.specs.Hearing.{transmits, listens, hearing_of, meeting_of}
use Rattle.repeater.specs.Answers.{answer_of}
use Rattle.repeater.specs.Repeater.{quieted, alternate_for, partitioned_at, port_after, met_at, followed, burst_of, changed_at, changed_tp, set_to, got_of}
use Rattle.repeater.specs.Repeater.{among, those_of}

unfoldable pub below : ℕ
unfolding ones count_trailing_zeros has gather each row_of command_of marked cleared_by
below = 0

unfoldable pub one_port : ℕ
unfolding ticked pulsed revived ticked_at pulsed_at revived_at partitioning after_meeting changed
one_port = 0

unfoldable pub one_burst : ℕ
unfolding heard_of effect_with effect_of data_to clean_at lasting_at reconnecting_at marks_of
one_burst = 0

unfoldable pub of_ports : ℕ
unfolding ports_from ports_of mask_of with_ports_in places_in port_in put_in each_in alike_in met_in places_of port_at put_at each_port transmits listens hearing_of meeting_of alternate_for partitioned_at port_after met_at among those_of
of_ports = 0

unfoldable pub repeating : ℕ
unfolding below one_port one_burst of_ports answer_of quieted followed burst_of changed_at changed_tp set_to got_of
repeating = 0
