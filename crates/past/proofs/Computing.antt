-- What has to unfold for the past to compute: `unfolding telling` opens every definition of this crate. Assumes nothing.
use Prim.Native.Nat.{ℕ}
use Rattle.ports.specs.Sets.{has, gather}
use Rattle.ports.specs.Each.{each}
use Rattle.management.specs.Commands.{command_of}
use lib.Count.{ones}
use Rattle.record.proofs.Computing.{reading}
use Rattle.host.specs.Map.{table, row_at}
use Rattle.past.specs.Deeds.{deed_of, page_by, register_by, deed_after, deeds_from}
use Rattle.past.specs.Since.{came_since}
use Rattle.past.specs.Settings.{enabled_by, tested_by, alternate_by}
use Rattle.past.specs.Link.{silent, trained, raises, breaks, passes_by}
use Rattle.past.specs.Bursts.{word_by, out_by, collided_by, clean_by, lasting_by, reconnects_by, met_by}
use Rattle.past.specs.Partition.{sent_to, struck_in, listened_to, heard_at, event_by, all_events, partitioned_by, heard_by}
use Rattle.past.specs.Credits.{credit_of, partition_credit, frames_at, collision_by, octets_by, sum_by}
use Rattle.past.specs.Addresses.{in_a_row, completes, address_by, same, newcomer, credit_by, counter_by}
use Rattle.past.specs.Status.{mistimes, sqe, loopback, jabbers, rate_by, sqe_by, loopback_by, jabber_by, got_by, g_by}
use Rattle.past.specs.Changes.{changes, clears, change_by, allowed_by, any_below, interrupt_by, error_by}
use Rattle.past.specs.Reads.{byte_by, reads_in_a_row, remainder, place_by, copied_by, read_by}
use Rattle.past.specs.Answers.{answer_by, answers_by, answer_to}

-- sets, commands, the register map, and what a record is
unfoldable pub asking : ℕ
unfolding has gather each ones command_of reading table row_at deed_of page_by register_by deed_after deeds_from came_since
asking = 0

-- settings, links, bursts and partition
unfoldable pub porting : ℕ
unfolding enabled_by tested_by alternate_by silent trained raises breaks passes_by word_by out_by collided_by clean_by lasting_by reconnects_by met_by
porting = 0

unfoldable pub parting : ℕ
unfolding sent_to struck_in listened_to heard_at event_by all_events partitioned_by heard_by
parting = 0

-- counters and addresses
unfoldable pub counting : ℕ
unfolding credit_of partition_credit frames_at collision_by octets_by sum_by in_a_row completes address_by same newcomer credit_by counter_by
counting = 0

-- status bits, change bits, enables, G
unfoldable pub noticing : ℕ
unfolding mistimes sqe loopback jabbers rate_by sqe_by loopback_by jabber_by got_by g_by changes clears change_by allowed_by any_below interrupt_by error_by
noticing = 0

-- all of it, with byte sequences and answers
unfoldable pub telling : ℕ
unfolding asking porting parting counting noticing byte_by reads_in_a_row remainder place_by copied_by read_by answer_by answers_by answer_to
telling = 0
