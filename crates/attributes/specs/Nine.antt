-- Document 01, 'Host registers', P 16 to 23 and 31: what the HIMIB keeps of each port, thirteen counters by their register R and the last source
-- address; and the nine ports together. This is the door: above this crate what is kept of them is read and written by these names alone.
--   readable_frames .. address_changes == the counters' registers; counter_count == how many there are
--   all_alike port             == the same kept of all nine ports
--   no_attributes, nothing_counted == one port's and all nine ports' before anything was counted
--   port_of nine i             == what is kept of port i, or of none past the last port
--   counter_of nine i r        == counter R of port i, or 0 where there is none
--   address_of nine i          == port i's last source address, or zeros past the last port
--   with_port nine i port      == with port i's put in place, or as it was past the last port
--   readdressed i source nine == with port i's address written anew, or as it was past the last port; no counter moves
--   Proper nine               == such as there are: nine ports of thirteen counters, each counter below 2^32
-- Assumes nothing.
use Rattle.std.specs.Prelude.{◌≡◌, ℕ, ◌^◌, ◌<◌, List, length, replicate, slice_index, slice_index_or, slice_set}
use Rattle.ports.specs.Sets.{port_count}
use Rattle.attributes.specs.declared.Attributes.{Attributes}
use Rattle.attributes.specs.declared.Nine.{Nine}

abbrev pub readable_frames : ℕ
readable_frames = 0

abbrev pub readable_octets : ℕ
readable_octets = 1

abbrev pub fcs_errors : ℕ
fcs_errors = 2

abbrev pub alignment_errors : ℕ
alignment_errors = 3

abbrev pub frames_too_long : ℕ
frames_too_long = 4

abbrev pub short_events : ℕ
short_events = 5

abbrev pub runts : ℕ
runts = 6

abbrev pub collisions : ℕ
collisions = 7

abbrev pub late_events : ℕ
late_events = 8

abbrev pub very_long_events : ℕ
very_long_events = 9

abbrev pub rate_mismatches : ℕ
rate_mismatches = 10

abbrev pub auto_partitions : ℕ
auto_partitions = 11

abbrev pub address_changes : ℕ
address_changes = 12

abbrev pub counter_count : ℕ
counter_count = 13

abbrev pub no_attributes : Attributes
no_attributes = record { counters = replicate counter_count 0; address = replicate 6 0 }

unfoldable pub all_alike : Attributes → Nine
all_alike port = record { ports = replicate port_count port }

abbrev pub nothing_counted : Nine
nothing_counted = all_alike no_attributes

-- every counter at one number, and addresses of zeros
abbrev pub all_counters : ℕ → Nine
all_counters v = all_alike (record { counters = replicate counter_count v; address = replicate 6 0 })

unfoldable pub port_of : Nine → ℕ → Attributes
port_of nine i = slice_index_or nine.ports i no_attributes

unfoldable pub counter_of : Nine → ℕ → ℕ → ℕ
counter_of nine i r = slice_index (port_of nine i).counters r

unfoldable pub address_of : Nine → ℕ → List ℕ
address_of nine i = (port_of nine i).address

unfoldable pub with_port : Nine → ℕ → Attributes → Nine
with_port nine i port = record { ports = slice_set nine.ports i port }

abbrev pub with_address : Attributes → List ℕ → Attributes
with_address port source = record { counters = port.counters; address = source }

unfoldable pub readdressed : ℕ → List ℕ → Nine → Nine
readdressed i source nine = with_port nine i (with_address (port_of nine i) source)

pub record Proper (nine : Nine) : Type 0 where
  pub ports : length nine.ports ≡ port_count
  pub thirteen : (i : ℕ) → i < port_count → length (port_of nine i).counters ≡ counter_count
  pub low : (i r : ℕ) → i < port_count → r < counter_count → counter_of nine i r < 2 ^ 32
