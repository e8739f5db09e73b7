-- Document 01, the run program: it never loses or repeats a byte of a record that is cut by the end of a reading.
--   buffer_length            == the bytes of each of the two buffers, for what is read and for the lines
--   standing s              == where the run stands
--   work_of d at out         == how far the program's work came, as `block` tells it
--   Kept s input out d buf new == the whole records of the input are answered from the state s, with the buffer out before, and d says what came of
--                              it: the state, the bytes left over and the bytes of the lines; new is the buffer of lines after it. The bytes left over
--                              are those behind the last whole record, fewer than a record has, and they now stand at the front of buf
-- Assumes nothing.
use Rattle.std.specs.Prelude.{ℕ, ◌-◌, ◌≤◌, ◌<◌, ◌≡◌, List, length, take, drop}
use Rattle.record.specs.Record.{record_length}
use Rattle.chip.specs.Flat.{chip_of}
use Rattle.himib.specs.Runs.{Point}
use Rattle.block.specs.Block.{Work, block_of}
use Rattle.opening.specs.declared.State.{State}
use Rattle.run.specs.declared.Done.{Done}

abbrev pub buffer_length : ℕ
buffer_length = 65536

abbrev pub standing : State → Point
standing s = record { chip = chip_of s.chip; host = s.host }

abbrev pub work_of : Done → ℕ → List ℕ → Work
work_of d at out = record { point = standing d.state; number = d.state.number; at = at; used = d.used; out = out }

pub record Kept (s : State) (input out : List ℕ) (d : Done) (buf new : List ℕ) : Type 0 where
  pub is : work_of d (length input - d.left) new ≡ block_of (standing s) s.number input out
  pub kept : take d.left buf ≡ drop (length input - d.left) input
  pub low : d.left < record_length
  pub fits : d.used ≤ length new
