-- Document 01, 'Numbers turned away with': the whole table for one record on a chip, in the paper's order. 10 belongs to the octet check alone.
--   access_refusals h bs     == the rows of a D access, which go by the register that the host's record selects
--   refusals_of h bs         == the table: first the rows that are the record's own
--   Settled o s h t         == t is turned away with k where o is k, and with nothing where o is none
--   Untouched s h t k       == t has the chip s and the host's record h, the number k, no output ports and value 0
-- Assumes nothing.
use Rattle.std.specs.Prelude.{ℕ, ◌≡◌, Bool, false, not, ◌&&◌, ◌||◌, List, [], ◌∷◌, ◌++◌, eqb}
use Rattle.std.proofs.Math.Option.{Option, none, some}
use Rattle.record.specs.Record.{kind, written, byte_in, d_write_kind, d_read_kind}
use Rattle.record.specs.Refusals.{Row, refusals}
use Rattle.host.specs.declared.Host.{Host}
use Rattle.answer.specs.Answer.{number_of, outputs_of, byte_of}
use Rattle.chip.specs.declared.Chip.{Chip}
use Rattle.access.specs.Access.{selected_by, strange}
use Rattle.access.specs.Refusals.{listed, write_only, read_only, row, is_refused}
use Rattle.himib.specs.declared.Stepped.{Stepped}
use Rattle.himib.specs.Step.{turned}

abbrev pub d_write : List ℕ → Bool
d_write bs = eqb (byte_in bs kind) d_write_kind

abbrev pub d_read : List ℕ → Bool
d_read bs = eqb (byte_in bs kind) d_read_kind

unfoldable pub access_refusals : Host → List ℕ → List Row
access_refusals h bs =
    row 5 ((d_write bs || d_read bs) && not (listed (selected_by h)))
    ∷ row 6 (d_read bs && write_only (selected_by h) || d_write bs && read_only (selected_by h))
    ∷ row 4 (d_write bs && strange (selected_by h).role (byte_in bs written))
    ∷ []

-- 9, 8, 3, 2, 1 and 7, then 5, 6 and 4
unfoldable pub refusals_of : Host → List ℕ → List Row
refusals_of h bs = refusals bs ++ access_refusals h bs

abbrev pub Settled : Option ℕ → Chip → Host → Stepped → Type 0
Settled none s h t = is_refused t.answer ≡ false
Settled (some k) s h t = t ≡ turned s h k

pub record Untouched (s : Chip) (h : Host) (t : Stepped) (k : ℕ) : Type 0 where
  pub chip : t.chip ≡ s
  pub host : t.host ≡ h
  pub number : number_of t.answer ≡ k
  pub outputs : outputs_of t.answer ≡ 0
  pub value : byte_of t.answer ≡ 0
