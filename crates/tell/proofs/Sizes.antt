-- The buffers of the program are as long as Taken says. Assumes nothing.
--   whole_input  == the one for what is read
--   whole_output == the one for the lines
use mathlib.Core.Path.{◌≡◌, refl}
use Rattle.tell.specs.declared.TheConstants.{INPUT, OUTPUT}
use Rattle.tell.specs.Taken.{input_length, output_length}

pub whole_input : INPUT ≡ input_length
whole_input = refl

pub whole_output : OUTPUT ≡ output_length
whole_output = refl
