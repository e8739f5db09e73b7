-- How the repeater keeps its ports and its settings: this file alone knows, with its laws in proofs/DoorLaws.antt. Whoever else speaks of a port names
-- it by its place. What is stored of a port is behind it, in the crate store (store/specs/Door).
--   places_of r            == how many places there are: nine, in every state that the repeater can come to
--   port_at r i            == the port at place i; past the last, no_port
--   put_at i p r           == r with the port p at place i; past the last, as it was
--   each_port f r          == r with f i p at every place i where there was a port p
--   alike tp last         == nine ports: every TP port as tp, and AUI as last
--   with_ports, with_status, with_alternate == r with other ports, another status, other algorithms for AUI and for the TP ports
-- Assumes nothing.
use Rattle.std.specs.Prelude.{ℕ, Bool}
use Rattle.port.specs.declared.Port.{Port}
use Rattle.management.specs.declared.Status.{Status}
use Rattle.store.specs.declared.Ports.{Ports}
use Rattle.store.specs.Door.{places_in, port_in, put_in, each_in, alike_in}
use Rattle.repeater.specs.declared.Repeater.{Repeater}

abbrev pub with_ports : Repeater → Ports → Repeater
with_ports r ps = record { ports = ps; alternate_aui = r.alternate_aui; alternate_tp = r.alternate_tp; status = r.status }

abbrev pub with_status : Repeater → Status → Repeater
with_status r status = record { ports = r.ports; alternate_aui = r.alternate_aui; alternate_tp = r.alternate_tp; status = status }

abbrev pub with_alternate : Repeater → Bool → Bool → Repeater
with_alternate r for_aui for_tp = record { ports = r.ports; alternate_aui = for_aui; alternate_tp = for_tp; status = r.status }

abbrev pub alike : Port → Port → Ports
alike tp last = alike_in tp last

unfoldable pub places_of : Repeater → ℕ
places_of r = places_in r.ports

unfoldable pub port_at : Repeater → ℕ → Port
port_at r i = port_in r.ports i

unfoldable pub put_at : ℕ → Port → Repeater → Repeater
put_at i p r = with_ports r (put_in i p r.ports)

unfoldable pub each_port : (ℕ → Port → Port) → Repeater → Repeater
each_port f r = with_ports r (each_in f r.ports)
