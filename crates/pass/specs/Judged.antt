-- The model that a pass is about: the chip as it is. Every statement, instance and proof of this crate says `happens`, `history` and `run`, so that a wrong
-- model can be put in the chip's place here, and has to be refused (must-fail/).
--   happens p r  == what happens to the record r at the point p
--   history, run == its histories and runs, which are the chip's
-- Assumes nothing.
use Rattle.std.specs.Prelude.{ℕ, List}
use Rattle.himib.specs.Runs.{Point, Happening, Model, happening, history_of, run_of}

abbrev pub happens : Model
happens p r = happening p r

abbrev pub history : Point → List (List ℕ) → List Happening
history = history_of happens

abbrev pub run : Point → List (List ℕ) → Point
run = run_of happens
