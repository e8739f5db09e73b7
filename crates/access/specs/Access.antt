-- Document 01, 'Host registers': C and D accesses on the chip, in every state of the host's record. Where each register stands, its bytes, its ways and its
-- role are the rows of host/specs/Map; the byte sequences are host/specs/Sequence's.
--   value_of c nine register == the six bytes that a register holds
--   number_of c nine register == the number in one of four bytes
--   read_by role c           == the core after a read, by the register's role: a change register is cleared by it
--   obeyed through_g k c     == the core after the command k, written to G or else to S
--   strange role b          == the register takes commands, and b is none
--   written_by role b c      == what a written byte does, by the register's role
--   c_read_of, d_read_of, d_write_of == the accesses; 5, 6 and 4 in this order, and then nothing changes
--   served access ..        == any access
-- Assumes nothing.
use Rattle.std.specs.Prelude.{ℕ, ◌+◌, Bool, true, false, cond, not, ◌&&◌, ◌||◌, List, Some, None, eqb, get_or, set}
use Rattle.management.specs.declared.Command.{Command}
use Rattle.management.specs.declared.Command.TheVariants.{Set, Get, Unlisted}
use Rattle.management.specs.Commands.{command_of}
use Rattle.repeater.specs.Repeater.{set_to, got_of}
use Rattle.record.specs.declared.Access as Ask
use Rattle.record.specs.declared.Access.TheVariants.{WriteC, WriteD, ReadC, ReadD}
use Rattle.host.specs.declared.Host.{Host}
use Rattle.host.specs.declared.Reading.{Reading}
use Rattle.host.specs.declared.Writing.{Writing}
use Rattle.host.specs.declared.Row.{Row}
use Rattle.host.specs.declared.Register as Reg
use Rattle.host.specs.declared.Register.TheVariants as reg
use Rattle.host.specs.declared.Role.{Role}
use Rattle.host.specs.declared.Role.TheVariants.{Plain, Cleared, Commands, Enables, Address}
use Rattle.host.specs.Map.{row_at}
use Rattle.host.specs.Sequence.{selected, read_byte, wrote_byte}
use Rattle.host.specs.Bytes.{spread_of, single_of}
use Rattle.attributes.specs.declared.Nine.{Nine}
use Rattle.attributes.specs.Nine.{counter_of, address_of}
use Rattle.changes.specs.Changes.{kept_bits, pending, bit7}
use Rattle.answer.specs.declared.Answer.TheVariants.{Done, Value, Refused}
use Rattle.chip.specs.declared.Core.{Core}
use Rattle.chip.specs.Chip.{moved, with_changes, with_enables, with_error, with_g}
use Rattle.access.specs.declared.Acted.{Acted}
use Rattle.access.specs.declared.Written.{Written}

unfoldable pub value_of : Core → Nine → Reg.Register → List ℕ
value_of c nine reg.Unlisted = single_of 0
value_of c nine reg.TransmitCollisions = spread_of c.kept.transmit_collisions
value_of c nine reg.TotalOctets = spread_of c.kept.total_octets
value_of c nine reg.Version = single_of 1
value_of c nine reg.SetPort = single_of 0
value_of c nine reg.GetPort = single_of c.g
value_of c nine (reg.Change r) = single_of (get_or c.changes r 0)
value_of c nine (reg.Enable r) = single_of (get_or c.enables r 0)
value_of c nine (reg.Counter p r) = spread_of (counter_of nine p r)
value_of c nine (reg.Address p) = address_of nine p

-- the number in a register of four bytes
unfoldable pub number_of : Core → Nine → Reg.Register → ℕ
number_of c nine reg.Unlisted = 0
number_of c nine reg.TransmitCollisions = c.kept.transmit_collisions
number_of c nine reg.TotalOctets = c.kept.total_octets
number_of c nine reg.Version = 0
number_of c nine reg.SetPort = 0
number_of c nine reg.GetPort = 0
number_of c nine (reg.Change r) = 0
number_of c nine (reg.Enable r) = 0
number_of c nine (reg.Counter p r) = counter_of nine p r
number_of c nine (reg.Address p) = 0

unfoldable pub read_by : Role → Core → Core
read_by Plain c = c
read_by (Cleared r) c = with_changes c (set c.changes r 0)
read_by (Commands through_g) c = c
read_by (Enables r) c = c
read_by (Address p) c = c

-- a command through the wrong register is carried out all the same, and marks the interface error; what a Get gives stands in G, and a Set leaves G alone
unfoldable pub obeyed : Bool → Command → Core → Core
obeyed through_g (Set s) c = with_error (moved c (set_to s c.repeater) false false 0) (c.interface_error || through_g)
obeyed through_g (Get q) c =
    with_g (with_error (moved c (got_of q c.repeater).repeater false false 0) (c.interface_error || not through_g)) (got_of q c.repeater).value
obeyed through_g Unlisted c = c

abbrev pub is_listed : Command → Bool
is_listed (Set s) = true
is_listed (Get q) = true
is_listed Unlisted = false

abbrev pub takes_commands : Role → Bool
takes_commands Plain = false
takes_commands (Cleared r) = false
takes_commands (Commands through_g) = true
takes_commands (Enables r) = false
takes_commands (Address p) = false

-- a byte written to S or G that is no command
abbrev pub strange : Role → ℕ → Bool
strange role b = takes_commands role && not (is_listed (command_of b))

-- a byte that does nothing but what the core shows
abbrev pub plain : Core → Written
plain c = record { core = c; port = None }

-- the bytes of an address are kept in the host's record until they are all there
unfoldable pub written_by : Role → ℕ → Core → Written
written_by Plain b c = plain c
written_by (Cleared r) b c = plain c
written_by (Commands through_g) b c = plain (obeyed through_g (command_of b) c)
written_by (Enables r) b c = plain (with_enables c (set c.enables r (kept_bits r b)))
written_by (Address p) b c = record { core = c; port = Some p }

abbrev pub done : Core → Host → Acted
done c h = record { core = c; host = h; answer = Done; port = None }

abbrev pub turned_away : Core → Host → ℕ → Acted
turned_away c h k = record { core = c; host = h; answer = Refused k; port = None }

-- bit 7 interrupt, bit 6 interface error, which the read clears
unfoldable pub c_read_of : Core → Host → Acted
c_read_of c h =
    record { core = with_error c false; host = h; answer = Value (bit7 (pending c.changes c.enables) + cond c.interface_error 64 0); port = None }

-- a D read, and a D write, of a register that may be read, and written
unfoldable pub read_of : Row → Core → Nine → Host → Acted
read_of row c nine h =
    let q : Reading = read_byte row.size (value_of c nine row.register) h in
    record { core = read_by row.role c; host = q.host; answer = Value q.byte; port = None }

unfoldable pub write_of : Row → Core → Host → ℕ → Acted
write_of row c h b =
    let w : Written = written_by row.role b c in
    let t : Writing = wrote_byte row.size b h in
    record { core = w.core; host = t.host; answer = Done; port = cond t.complete w.port None }

-- the row that the host's record selects
abbrev pub selected_by : Host → Row
selected_by h = row_at h.page h.register

-- what is not listed has no bytes
unfoldable pub d_read_of : Core → Nine → Host → Acted
d_read_of c nine h =
    cond (eqb (selected_by h).size 0) (turned_away c h 5)
    (cond (not (selected_by h).readable) (turned_away c h 6)
    (read_of (selected_by h) c nine h))

unfoldable pub d_write_of : Core → Host → ℕ → Acted
d_write_of c h b =
    cond (eqb (selected_by h).size 0) (turned_away c h 5)
    (cond (not (selected_by h).writable) (turned_away c h 6)
    (cond (strange (selected_by h).role b) (turned_away c h 4)
    (write_of (selected_by h) c h b)))

unfoldable pub served : Ask.Access → Core → Nine → Host → Acted
served (WriteC b) c nine h = done c (selected b h)
served (WriteD b) c nine h = d_write_of c h b
served ReadC c nine h = c_read_of c h
served ReadD c nine h = d_read_of c nine h
