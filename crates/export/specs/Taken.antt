-- No section of document 01: what the program `export` keeps from one reading to the next. tally/specs/Blocks says what readings come to together.
--   wrapped w == the tally w as it is kept: the number of records that were turned away goes on with 0 behind 2^64 - 1
-- Assumes nothing.
use Rattle.std.specs.Prelude.{◌%◌, ◌^◌}
use Rattle.tally.specs.Tally.{Tally}

abbrev pub wrapped : Tally → Tally
wrapped w = record { point = w.point; refused = w.refused % 2 ^ 64 }
