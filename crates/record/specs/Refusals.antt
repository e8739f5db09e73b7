-- Document 01, section 'Numbers turned away with', rows 9, 8, 3, 2, 1 and 7: those that a record decides by itself.
-- Rows 5, 6 and 4 need the host registers, and 10 is the octet check's.
--     burst_mask_end, pulse_mask_end    the least mask with a bit above AUI's, and the least with one above the TP ports'
--     longest, most_dribble          the longest duration of a burst, and its most dribble bits
--     refusals s      the table, in the paper's order: each number, and whether its condition holds of the bytes s
--     first_of rows    the number of the first row that holds, if one does
--     record_of s      what the bytes s are: the refusal, or what is asked for with the source address
-- Assumes nothing.
use Rattle.std.specs.Prelude.{ℕ, ◌+◌, ◌*◌, ◌/◌, ◌^◌, List, [], ◌∷◌, Bool, ◌||◌, ◌&&◌, not, cond, leb, ltb, eqb, length}
use Rattle.std.proofs.Math.Option.{Option, none, some}
use Rattle.ports.specs.Sets.{aui, port_count}
use Rattle.record.specs.Record.{record_length, kind, mask, written, source, bytes_in, byte_in, number_in, burst_of}
use Rattle.record.specs.Record.{Kind, burst_kind, pulse_kind, c_write_kind, kinds, find, stray}
use Rattle.record.specs.Records.{no_address}
use Rattle.record.specs.declared.Burst.{Burst}
use Rattle.record.specs.declared.Asked.{Asked}
use Rattle.record.specs.declared.Record.{Record}

pub record Row : Type 0 where
  pub number : ℕ
  pub holds : Bool

abbrev row : ℕ → Bool → Row
row number holds = record { number = number; holds = holds }

abbrev pub is_burst : List ℕ → Bool
is_burst s = eqb (byte_in s kind) burst_kind

abbrev pub is_pulse : List ℕ → Bool
is_pulse s = eqb (byte_in s kind) pulse_kind

abbrev pub is_c_write : List ℕ → Bool
is_c_write s = eqb (byte_in s kind) c_write_kind

-- every mask of the nine ports is below this
abbrev pub burst_mask_end : ℕ
burst_mask_end = 2 ^ port_count

-- every mask of the TP ports is below this
abbrev pub pulse_mask_end : ℕ
pulse_mask_end = 2 ^ aui

abbrev pub longest : ℕ
longest = 1000000

abbrev pub most_dribble : ℕ
most_dribble = 7

-- the sums are those of the naturals: nothing wraps
unfoldable pub bad_numbers : Burst → Bool
bad_numbers burst =
    eqb burst.d 0
    || ltb longest burst.d
    || ltb most_dribble burst.k
    || ltb burst.d (8 * burst.n + burst.k)
    || ltb burst.d (burst.c + burst.x)

unfoldable pub nothing_active : Burst → Bool
nothing_active burst = eqb burst.mask 0 && not burst.collision_signal

-- the top three bits of a byte
unfoldable pub selects_neither : ℕ → Bool
selects_neither byte = not (eqb (byte / 2 ^ 5) 0b000 || eqb (byte / 2 ^ 5) 0b111)

unfoldable pub refusals : List ℕ → List Row
refusals s =
    row 9 (not (eqb (length s) record_length))
    ∷ row 8 (stray (byte_in s kind) s)
    ∷ row 3 (is_burst s && leb burst_mask_end (number_in s mask) || is_pulse s && leb pulse_mask_end (number_in s mask))
    ∷ row 2 (is_burst s && bad_numbers (burst_of s))
    ∷ row 1 (is_burst s && nothing_active (burst_of s))
    ∷ row 7 (is_c_write s && selects_neither (byte_in s written))
    ∷ []

unfoldable pub first_of : List Row → Option ℕ
first_of [] = none
first_of (r ∷ rs) = cond r.holds (some r.number) (first_of rs)

-- beside a refusal the source address is all zero
abbrev pub refused : ℕ → Record
refused number = record { asked = Asked.Refused number; source = no_address }

abbrev pub accepted : Asked → List ℕ → Record
accepted asked s = record { asked = asked; source = bytes_in s source }

-- row 8 holds of an unknown kind, so that the first line is never the answer
abbrev pub asked_by : Option Kind → List ℕ → Asked
asked_by none s = Asked.Refused 8
asked_by (some e) s = e.asks s

unfoldable pub answer : Option ℕ → List ℕ → Record
answer (some number) s = refused number
answer none s = accepted (asked_by (find kinds (byte_in s kind)) s) s

unfoldable pub record_of : List ℕ → Record
record_of s = answer (first_of (refusals s)) s
