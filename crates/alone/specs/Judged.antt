-- The model that these promises are about: the chip as it is, in the words of `pass`. A wrong model can be put in its place here, and has to be refused (must-fail/).
--   happens p r  == what happens to the record r at the point p
--   history, run == its histories and runs
-- Assumes nothing.
use Rattle.std.specs.Prelude.{ℕ, List}
use Rattle.himib.specs.Runs.{Point, Happening, Model, history_of, run_of}
use Rattle.pass.specs.Judged as pass

abbrev pub happens : Model
happens p r = pass.happens p r

abbrev pub history : Point → List (List ℕ) → List Happening
history = history_of happens

abbrev pub run : Point → List (List ℕ) → Point
run = run_of happens
