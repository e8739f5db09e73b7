-- Document 01, 'Reset and power-up', and the state of the two chips: the core (repeater, change bits, enables, what a reset keeps, interface error, G) and
-- the nine ports' attributes. Builders say 'this part anew, the rest as it was'.
--   usual, limited_to  == what is chosen where nothing is said; the same choices with another limit
--   refusal_of choices == 0, or the number that power-up turns these choices away with
--   settled_of choices == what the chip goes by: what was chosen, or next to a refusal what is usual
--   core_up k, chip_up given == at power-up, with what it is given; powered_up given == with the number beside it
--   core_reset c       == after a reset: what it keeps, and everything else as at power-up
--   moved c r ..      == the core with the repeater at r: what changed of partition and link, and the events given, is noted
--   totalled c ..     == the core with what a burst adds to the two counters that it keeps
-- Assumes nothing.
use Rattle.std.specs.Prelude.{ℕ, ◌+◌, ◌%◌, ◌^◌, Bool, false, cond, ◌&&◌, List, replicate, bit_xor, nat_le}
use Rattle.repeater.specs.declared.Repeater.{Repeater}
use Rattle.repeater.specs.Reset.{power_up}
use Rattle.repeater.specs.Repeater.{partitioned_of, linked_of}
use Rattle.attributes.specs.Credits.{short_below, short_from, short_to}
use Rattle.changes.specs.Changes.{events_of, noted}
use Rattle.chip.specs.declared.Choices.{Choices}
use Rattle.chip.specs.declared.Kept.{Kept}
use Rattle.chip.specs.declared.Core.{Core}
use Rattle.chip.specs.declared.Supply.{Supply}
use Rattle.chip.specs.declared.Chip.{Chip}
use Rattle.chip.specs.declared.Powered.{Powered}

abbrev pub usual : Choices
usual = record { short_limit = short_below }

-- another limit, and every other choice as it was: one that is added is added here
abbrev pub limited_to : ℕ → Choices → Choices
limited_to limit choices = record { short_limit = limit }

-- a limit of short events that is none of the seven
abbrev pub limit_refused : ℕ
limit_refused = 13

abbrev pub fits : Choices → Bool
fits choices = nat_le short_from choices.short_limit && nat_le choices.short_limit short_to

unfoldable pub refusal_of : Choices → ℕ
refusal_of choices = cond (fits choices) 0 limit_refused

unfoldable pub settled_of : Choices → Choices
settled_of choices = cond (fits choices) choices usual

abbrev pub with_choices : Kept → Choices → Kept
with_choices kept choices =
    record { transmit_collisions = kept.transmit_collisions; total_octets = kept.total_octets; choices = choices }

abbrev pub core_up : Kept → Core
core_up kept = record { repeater = power_up; changes = replicate 8 0; enables = replicate 8 0; kept = kept; interface_error = false; g = 0 }

abbrev pub chip_up : Supply → Chip
chip_up given = record { core = core_up (with_choices given.kept (settled_of given.kept.choices)); attributes = given.attributes }

abbrev pub powered_up : Supply → Powered
powered_up given = record { number = refusal_of given.kept.choices; chip = chip_up given }

abbrev pub core_reset : Core → Core
core_reset c = core_up c.kept

abbrev pub with_core : Chip → Core → Chip
with_core s c = record { core = c; attributes = s.attributes }

abbrev pub with_repeater : Core → Repeater → List ℕ → Core
with_repeater c r cs = record { repeater = r; changes = cs; enables = c.enables; kept = c.kept; interface_error = c.interface_error; g = c.g }

abbrev pub with_changes : Core → List ℕ → Core
with_changes c cs = with_repeater c c.repeater cs

abbrev pub with_enables : Core → List ℕ → Core
with_enables c es =
    record { repeater = c.repeater; changes = c.changes; enables = es; kept = c.kept; interface_error = c.interface_error; g = c.g }

abbrev pub with_kept : Core → Kept → Core
with_kept c kept =
    record { repeater = c.repeater; changes = c.changes; enables = c.enables; kept = kept; interface_error = c.interface_error; g = c.g }

abbrev pub with_error : Core → Bool → Core
with_error c e = record { repeater = c.repeater; changes = c.changes; enables = c.enables; kept = c.kept; interface_error = e; g = c.g }

abbrev pub with_g : Core → ℕ → Core
with_g c v =
    record { repeater = c.repeater; changes = c.changes; enables = c.enables; kept = c.kept; interface_error = c.interface_error; g = v }

-- with the partition changes of these ports
abbrev pub moved_by : Core → Repeater → ℕ → Bool → Bool → ℕ → Core
moved_by c r partition loopback sqe address =
    with_repeater c r (noted (events_of partition (bit_xor (linked_of c.repeater) (linked_of r)) loopback sqe address) c.changes)

unfoldable pub moved : Core → Repeater → Bool → Bool → ℕ → Core
moved c r loopback sqe address = moved_by c r (bit_xor (partitioned_of c.repeater) (partitioned_of r)) loopback sqe address

abbrev pub one : Bool → ℕ
one b = cond b 1 0

-- counters wrap at 2^32
abbrev pub added : ℕ → ℕ → ℕ
added counter credit = (counter + credit) % 2 ^ 32

abbrev pub totalled : Core → Bool → ℕ → Core
totalled c transmitCollision octets =
    with_kept c
    (record {
      transmit_collisions = added c.kept.transmit_collisions (one transmitCollision);
      total_octets = added c.kept.total_octets octets;
      choices = c.kept.choices;
    })
