-- What a deed does to the chip and to the host's record: the chip's own rules, sorted by what an observer calls the record. proofs/Did.antt proves that this is what
-- a record does, so that every later proof goes by deeds and not by records.
--   doing d p      == the chip, the host's record and the answer after the deed d at the point p; next d p == the point after it
--   repeater_by d r == the repeater after it
--   Proper d       == the bounds of what a deed carries
-- Assumes nothing.
use Rattle.std.specs.Prelude.{ℕ, ◌+◌, ◌<◌, ◌≡◌, true, false, cond, Some, None, length, set}
use Rattle.ports.specs.declared.Quiet.TheVariants.{Pulse, Tick}
use Rattle.management.specs.declared.Command.{Command}
use Rattle.management.specs.declared.Command.TheVariants.{Set, Get, Unlisted}
use Rattle.management.specs.Commands.{command_of}
use Rattle.record.specs.Accepted.{BurstBounds}
use Rattle.repeater.specs.declared.Repeater.{Repeater}
use Rattle.repeater.specs.Repeater.{quieted, burst_of, set_to, got_of}
use Rattle.repeater.specs.Reset as Rep
use Rattle.host.specs.declared.Host.{Host}
use Rattle.host.specs.declared.Writing.{Writing}
use Rattle.host.specs.declared.Reading.{Reading}
use Rattle.host.specs.declared.Register.{Register}
use Rattle.host.specs.declared.Register.TheVariants as reg
use Rattle.host.specs.Map.{within, bit_registers}
use Rattle.host.specs.Stands.{proper, listed, row_of}
use Rattle.host.specs.Sequence.{power_up, restarted, with_selection, read_byte, wrote_byte}
use Rattle.answer.specs.declared.Answer.TheVariants.{Value}
use Rattle.changes.specs.Changes.{kept_bits, pending, bit7}
use Rattle.chip.specs.declared.Core.{Core}
use Rattle.chip.specs.declared.Chip.{Chip}
use Rattle.chip.specs.Chip.{moved, core_reset, with_core, with_changes, with_enables, with_error}
use Rattle.access.specs.Access.{value_of, obeyed, is_listed}
use Rattle.himib.specs.declared.Stepped.{Stepped}
use Rattle.himib.specs.Bursts.{activity_of, burst_on}
use Rattle.himib.specs.Step.{after_burst, addressed_at, finished, turned}
use Rattle.himib.specs.Runs.{Point, at}
use Rattle.past.specs.Deeds.{Deed, bursts, pulses, ticks, commands, uses, resets, refused}
use Rattle.past.specs.Deeds.{Use, selects_p, selects_r, allows, addresses, asks, reads}

-- a read of a change register clears it
unfoldable pub read_from : Register → Core → Core
read_from reg.Unlisted c = c
read_from reg.TransmitCollisions c = c
read_from reg.TotalOctets c = c
read_from reg.Version c = c
read_from reg.SetPort c = c
read_from reg.GetPort c = c
read_from (reg.Change r) c = with_changes c (set c.changes r 0)
read_from (reg.Enable r) c = c
read_from (reg.Counter i r) c = c
read_from (reg.Address i) c = c

abbrev pub left : Chip → Host → Stepped
left s h = finished s h

abbrev pub addressing : ℕ → Writing → Chip → Stepped
addressing i t s =
    left (record { core = s.core; attributes = addressed_at (cond t.complete (Some i) None) t.host.bytes s.attributes }) t.host

abbrev pub reading : Register → Reading → Chip → Stepped
reading register q s = record { chip = with_core s (read_from register s.core); host = q.host; answer = Value q.byte }

unfoldable pub used_at : Use → Point → Stepped
used_at (selects_p n) p = left p.chip (restarted (with_selection p.host n p.host.register))
used_at (selects_r n) p = left p.chip (restarted (with_selection p.host p.host.page n))
used_at (allows k b) p =
    left (with_core p.chip (with_enables p.chip.core (set p.chip.core.enables k (kept_bits k b)))) (wrote_byte 1 b p.host).host
used_at (addresses i b) p = addressing i (wrote_byte 6 b p.host) p.chip
used_at asks p =
    record {
      chip = with_core p.chip (with_error p.chip.core false);
      host = p.host;
      answer = Value (bit7 (pending p.chip.core.changes p.chip.core.enables) + cond p.chip.core.interface_error 64 0);
    }
used_at (reads register size) p = reading register (read_byte size (value_of p.chip.core p.chip.attributes register) p.host) p.chip

unfoldable pub doing : Deed → Point → Stepped
doing (bursts b source) p = after_burst p.host (burst_on p.chip.core p.chip.attributes b source)
doing (pulses mask) p = left (with_core p.chip (moved p.chip.core (quieted (Pulse mask) p.chip.core.repeater) false false 0)) p.host
doing ticks p = left (with_core p.chip (moved p.chip.core (quieted Tick p.chip.core.repeater) false false 0)) p.host
doing (commands through_g c) p = left (with_core p.chip (obeyed through_g (command_of c) p.chip.core)) (wrote_byte 1 c p.host).host
doing (uses u) p = used_at u p
doing resets p = left (with_core p.chip (core_reset p.chip.core)) power_up
doing (refused k) p = turned p.chip p.host k

abbrev pub next : Deed → Point → Point
next d p = at (doing d p).chip (doing d p).host

abbrev pub obeying : Command → Repeater → Repeater
obeying (Set s) r = set_to s r
obeying (Get q) r = (got_of q r).repeater
obeying Unlisted r = r

unfoldable pub repeater_by : Deed → Repeater → Repeater
repeater_by (bursts b source) r = (burst_of r (activity_of b)).repeater
repeater_by (pulses mask) r = quieted (Pulse mask) r
repeater_by ticks r = quieted Tick r
repeater_by (commands through_g c) r = obeying (command_of c) r
repeater_by (uses u) r = r
repeater_by resets r = Rep.power_up
repeater_by (refused k) r = r

abbrev pub ProperUse : Use → Type 0
ProperUse (selects_p n) = n < 32
ProperUse (selects_r n) = n < 32
ProperUse (allows k b) = within bit_registers k ≡ true
ProperUse (addresses i b) = i < 9
ProperUse asks = Unit
ProperUse (reads register size) = (proper register ≡ true) × (listed register ≡ true) × ((row_of register).size ≡ size)

abbrev pub Proper : Deed → Type 0
Proper (bursts b source) = BurstBounds b × (length source ≡ 6)
Proper (pulses mask) = mask < 256
Proper ticks = Unit
Proper (commands through_g c) = is_listed (command_of c) ≡ true
Proper (uses u) = ProperUse u
Proper resets = Unit
Proper (refused k) = Unit
