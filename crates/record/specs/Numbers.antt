-- Document 01, section 'Numbers turned away with': the number of each refusal. 10 is the octet check's, and no refusal of a record or of an access.
--     number_of r    the number that is written for the refusal r
-- Assumes nothing.
use Rattle.std.specs.Prelude.{ℕ}
use Rattle.record.specs.declared.Refusal.{Refusal}
use Rattle.record.specs.declared.Refusal.TheVariants.{NothingActive, BadNumbers, BadMask, UnlistedCommand, UnlistedRegister, WrongDirection, SelectsNeither, StrayBytes, WrongLength}

abbrev pub number_of : Refusal → ℕ
number_of NothingActive = 1
number_of BadNumbers = 2
number_of BadMask = 3
number_of UnlistedCommand = 4
number_of UnlistedRegister = 5
number_of WrongDirection = 6
number_of SelectsNeither = 7
number_of StrayBytes = 8
number_of WrongLength = 9
