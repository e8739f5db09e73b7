-- What a start file gives as it is kept, and what specs/Start says of it.
--   started_by t == the chip at power-up that t stands for, and the rest of it
-- Assumes nothing.
use Rattle.chip.specs.Flat.{chip_of}
use Rattle.start.specs.declared.Started.{Started}
use Rattle.start.specs.declared.Opened.{Opened}

abbrev pub started_by : Opened → Started
started_by t = record { fits = t.fits; limit = t.limit; number = t.number; chip = chip_of t.chip }
