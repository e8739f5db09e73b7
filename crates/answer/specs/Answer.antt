-- Document 01, 'Numbers turned away with' and 'Forms to follow': the paper's number and values for each case of an answer.
-- Settles that a refusal carries its number and nothing beside it, and that an answer which is none carries the number 0.
--   number_of a  == the number that the record was turned away with
--   outputs_of a == the mask of the output ports
--   byte_of a    == the value
-- Each is 0 where the answer has none. Assumes nothing.
use Rattle.std.specs.Prelude.{ℕ}
use Rattle.answer.specs.declared.Answer.{Answer}
use Rattle.answer.specs.declared.Answer.TheVariants.{Done, Sent, Value, Refused}

abbrev pub number_of : Answer → ℕ
number_of Done = 0
number_of (Sent word mask) = 0
number_of (Value byte) = 0
number_of (Refused number) = number

abbrev pub outputs_of : Answer → ℕ
outputs_of Done = 0
outputs_of (Sent word mask) = mask
outputs_of (Value byte) = 0
outputs_of (Refused number) = 0

abbrev pub byte_of : Answer → ℕ
byte_of Done = 0
byte_of (Sent word mask) = 0
byte_of (Value byte) = byte
byte_of (Refused number) = 0
