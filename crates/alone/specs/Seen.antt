-- What the chip shows after a past, part by part: what proofs/ keep from deed to deed.
--   Settled past r    == the ports' settings are those of the past
--   Linked past r     == so are their links
--   Stood past r      == so are their standings
--   Parted past r     == so is the mask of the partitioned ports
--   BurstSeen past r b == what the repeater makes of a burst is what the past makes of it
--   DueSeen start past p b source == so is what it credits beside a class: the address that changes, and the octets
--   Reported past r   == so are the status bits
--   Counted, Noticed  == so are counters, totals, addresses and the limit of short events; change bits, enables, interface error and G
-- Assumes nothing.
use Rattle.std.specs.Prelude.{ℕ, ◌+◌, ◌%◌, ◌^◌, ◌≤◌, ◌<◌, ◌≡◌, ◌&&◌, List, [], length, get_or}
use Rattle.ports.specs.Sets.{is_at, has, gather, set_of}
use Rattle.history.specs.History.{connected, after_events}
use Rattle.record.specs.declared.Burst.{Burst}
use Rattle.repeater.specs.declared.Repeater.{Repeater}
use Rattle.repeater.specs.declared.Bursted.{Bursted}
use Rattle.repeater.specs.Door.{port_at, places_of}
use Rattle.repeater.specs.Repeater.{alternate_for, burst_of, partitioned_of}
use Rattle.repeater.specs.Events.{standing_at}
use Rattle.attributes.specs.declared.Due.{Due}
use Rattle.attributes.specs.Nine.{Proper}
use Rattle.attributes.specs.Credits.{short_to}
use Rattle.chip.specs.declared.Supply.{Supply}
use Rattle.himib.specs.Bursts.{activity_of, noted_on}
use Rattle.himib.specs.Runs as Runs
use Rattle.himib.specs.Runs.{Point, counter_at, address_at, transmit_collisions, total_octets, limit_at}
use Rattle.past.specs.Deeds.{Deed, bursts}
use Rattle.past.specs.Settings.{enabled_by, tested_by, alternate_by}
use Rattle.past.specs.Link.{passes_by}
use Rattle.past.specs.Bursts.{one, more, crash, word_by, out_by}
use Rattle.past.specs.Partition.{all_events, partitioned_by, sent_to, heard_by}
use Rattle.past.specs.Credits.{sum_by, collision_by, octets_by}
use Rattle.past.specs.Addresses.{address_by, newcomer, counter_by}
use Rattle.past.specs.Status.{rate_by, sqe_by, loopback_by, jabber_by, g_by}
use Rattle.past.specs.Changes.{change_by, allowed_by, error_by}
use Rattle.past.specs.Reads.{Start}

pub record Settled (past : List Deed) (r : Repeater) : Type 0 where
  pub nine : places_of r ≡ 9
  pub enabled : (i : ℕ) → i < 9 → (port_at r i).enabled ≡ enabled_by i past
  pub tested : (i : ℕ) → i < 9 → (port_at r i).link_test ≡ tested_by i past
  pub algorithm : (i : ℕ) → i < 9 → alternate_for r.alternate_aui r.alternate_tp i ≡ alternate_by i past

abbrev pub Linked : List Deed → Repeater → Type 0
Linked past r = (i : ℕ) → i < 9 → (port_at r i).link_pass ≡ passes_by i past

abbrev pub Stood : List Deed → Repeater → Type 0
Stood past r = (i : ℕ) → i < 9 → standing_at r i ≡ after_events (connected 0) (get_or (all_events past) i [])

abbrev pub Parted : List Deed → Repeater → Type 0
Parted past r = (i : ℕ) → i < 9 → has (partitioned_of r) i ≡ partitioned_by past i

pub record Reported (past : List Deed) (r : Repeater) : Type 0 where
  pub rate : r.status.rate ≡ rate_by 8 past
  pub rates : r.status.rates ≡ gather 8 (λ i. rate_by i past)
  pub sqe : r.status.sqe ≡ sqe_by past
  pub loopback : r.status.loopback ≡ loopback_by past
  pub mjlp : r.status.mjlp ≡ jabber_by past

abbrev pub burst_seen : Repeater → Burst → Bursted
burst_seen r b = burst_of r (activity_of b)

pub record BurstSeen (past : List Deed) (r : Repeater) (b : Burst) : Type 0 where
  pub t : (burst_seen r b).hearing.t ≡ sent_to past
  pub h : (burst_seen r b).hearing.h ≡ heard_by past b
  pub word : (burst_seen r b).effect.word ≡ word_by b (heard_by past b)
  pub out : (burst_seen r b).effect.out ≡ set_of (out_by (sent_to past) (heard_by past b))
  pub single : (i : ℕ) → i < 16 → is_at (burst_seen r b).effect.single i ≡ (one (heard_by past b) && has (heard_by past b) i)
  pub collision : (burst_seen r b).effect.collision ≡ crash b (heard_by past b)
  pub transmit : (burst_seen r b).effect.transmit_collision ≡ more (heard_by past b)

-- what power-up was given, as an observer says it
abbrev pub start_of : Supply → Start
start_of given = record {
  counters = λ i r. counter_at i r (Runs.start given);
  addresses = λ i. address_at i (Runs.start given);
  collisions = given.kept.transmit_collisions;
  octets = given.kept.total_octets;
  limit = limit_at (Runs.start given);
}

pub record Counted (start : Start) (past : List Deed) (p : Point) : Type 0 where
  pub fit : Proper p.chip.attributes
  pub counters : (i r : ℕ) → i < 9 → r < 13 → counter_at i r p ≡ counter_by start.limit start.counters start.addresses past i r
  pub addresses : (i : ℕ) → i < 9 → address_at i p ≡ address_by start.addresses past i
  pub six : (i : ℕ) → i < 9 → length (address_at i p) ≡ 6
  pub collisions : transmit_collisions p ≡ (start.collisions + sum_by collision_by past) % 2 ^ 32
  pub octets : total_octets p ≡ (start.octets + sum_by octets_by past) % 2 ^ 32
  pub limit : limit_at p ≡ start.limit
  pub limit_low : limit_at p ≤ short_to

abbrev pub due_seen : Point → Burst → List ℕ → Due
due_seen p b source = (noted_on p.chip.core p.chip.attributes b source).due

pub record DueSeen (start : Start) (past : List Deed) (p : Point) (b : Burst) (source : List ℕ) : Type 0 where
  pub changed : (i : ℕ) → i < 9 → has (due_seen p b source).changed i ≡ newcomer start.addresses past (bursts b source) i
  pub octets : (due_seen p b source).octets ≡ octets_by past (bursts b source)

pub record Noticed (start : Start) (past : List Deed) (p : Point) : Type 0 where
  pub eight : length p.chip.core.changes ≡ 8
  pub low : (r : ℕ) → r < 8 → get_or p.chip.core.changes r 0 < 256
  pub changes : (r j : ℕ) → r < 8 → j < 8 → has (get_or p.chip.core.changes r 0) j ≡ change_by start.addresses past r j
  pub eight_enables : length p.chip.core.enables ≡ 8
  pub enables : (r : ℕ) → r < 8 → get_or p.chip.core.enables r 0 ≡ allowed_by past r
  pub error : p.chip.core.interface_error ≡ error_by past
  pub g : p.chip.core.g ≡ g_by past
