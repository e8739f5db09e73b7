-- Document 01, 'Host registers': selection and byte sequences, as changes of the record that the caller lends.
-- Settles what a C write selects; where a D access goes on in the sequence and where it starts afresh; that reads go by a copy
-- made at the first byte; when a write is complete. Every value of the record and every size has an answer.
--     power_up                   == the record at power-up and after a reset
--     selected_below             == P and R are below this
--     selects byte              == a C write of the byte selects; any other is turned away with 7
--     selected byte host        == after a C write of the byte
--     place_for writing size host == the place, from 0, of the byte that a D access to a register of that size takes
--     is_last size place         == the byte at the place is the register's last
--     next_place size place      == the place after it
--     read_byte size value host  == a D read while the register holds the value
--     wrote_byte size byte host  == a D write of the byte
-- Assumes nothing.
use Rattle.std.specs.Prelude.{ℕ, ◌+◌, ◌/◌, ◌%◌, Bool, true, false, cond, ◌||◌, List, leb, ltb, eqb, get_or, set, replicate}
use Rattle.std.specs.Bool.{beq}
use Rattle.host.specs.declared.Host.{Host}
use Rattle.host.specs.declared.Reading.{Reading}
use Rattle.host.specs.declared.Writing.{Writing}

abbrev pub power_up : Host
power_up = record { page = 0; register = 0; bytes = replicate 6 0; place = 0; writing = false }

-- one part anew, the rest as it was
abbrev pub with_selection : Host → ℕ → ℕ → Host
with_selection host p r = record { page = p; register = r; bytes = host.bytes; place = host.place; writing = host.writing }

abbrev pub with_sequence : Host → List ℕ → ℕ → Bool → Host
with_sequence host bytes place writing =
    record { page = host.page; register = host.register; bytes = bytes; place = place; writing = writing }

-- the sequence at its first byte
abbrev pub restarted : Host → Host
restarted host = with_sequence host host.bytes 0 host.writing

-- P and R are the five low bits of a C write
abbrev pub selected_below : ℕ
selected_below = 32

abbrev pub top_bits : ℕ → ℕ
top_bits byte = byte / selected_below

-- the top three bits 000: P; 111: R; any other byte selects nothing
unfoldable pub selects : ℕ → Bool
selects byte = eqb (top_bits byte) 0b000 || eqb (top_bits byte) 0b111

unfoldable pub selected : ℕ → Host → Host
selected byte host =
    cond (eqb (top_bits byte) 0b000) (restarted (with_selection host (byte % selected_below) host.register))
    (cond (eqb (top_bits byte) 0b111) (restarted (with_selection host host.page (byte % selected_below)))
    host)

-- where the sequence stands; the first byte after a turn, and where the place is past the last byte
unfoldable pub place_for : Bool → ℕ → Host → ℕ
place_for writing size host = cond (beq host.writing writing) (cond (ltb host.place size) host.place 0) 0

unfoldable pub is_last : ℕ → ℕ → Bool
is_last size place = leb size (place + 1)

-- after the last comes the first
unfoldable pub next_place : ℕ → ℕ → ℕ
next_place size place = cond (is_last size place) 0 (place + 1)

-- the copy: the value of the moment at the first byte, what was copied then at the others
unfoldable pub copied : ℕ → List ℕ → List ℕ → List ℕ
copied place value bytes = cond (eqb place 0) value bytes

-- a read, and a write, at a place
abbrev pub read_at : ℕ → ℕ → List ℕ → Host → Reading
read_at place size value host =
    record {
      host = with_sequence host (copied place value host.bytes) (next_place size place) false;
      byte = get_or (copied place value host.bytes) place 0;
    }

abbrev pub wrote_at : ℕ → ℕ → ℕ → Host → Writing
wrote_at place size byte host =
    record { host = with_sequence host (set host.bytes place byte) (next_place size place) true; complete = is_last size place }

unfoldable pub read_byte : ℕ → List ℕ → Host → Reading
read_byte size value host = read_at (place_for false size host) size value host

unfoldable pub wrote_byte : ℕ → ℕ → Host → Writing
wrote_byte size byte host = wrote_at (place_for true size host) size byte host
