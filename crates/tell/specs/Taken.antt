-- No section of document 01: what the program `tell` does with the bytes of one record.
--   input_length, output_length == the bytes of the two buffers, for what is read and for the lines
--   Taken s bs old used d new == from the state s the bytes bs are taken as one record: d says where the run stands then and how many bytes all lines have, the
--                                next record has the next number, and the buffer, old before with so many bytes used, holds the line behind them as new
-- Assumes nothing.
use Rattle.std.specs.Prelude.{◌≡◌, ℕ, ◌+◌, ◌%◌, ◌^◌, List}
use Rattle.chip.specs.Flat.{chip_of}
use Rattle.himib.specs.Runs.{at, happening}
use Rattle.telling.specs.Telling.{tell_of, Wrote}
use Rattle.opening.specs.declared.State.{State}
use Rattle.tell.specs.declared.Done.{Done}

abbrev pub input_length : ℕ
input_length = 4096

abbrev pub output_length : ℕ
output_length = 65536

pub record Taken (s : State) (bs old : List ℕ) (used : ℕ) (d : Done) (new : List ℕ) : Type 0 where
  pub after : at (chip_of d.state.chip) d.state.host ≡ (happening (at (chip_of s.chip) s.host) bs).after
  pub next : d.state.number ≡ (s.number + 1) % 2 ^ 64
  pub wrote : Wrote old used (tell_of s.number (happening (at (chip_of s.chip) s.host) bs)) new d.used
