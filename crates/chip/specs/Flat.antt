-- The chip as it is kept, and the chip of specs/Chip that it stands for: the core is the same, and the attributes are those of attributes/specs/Flat.
--   holding c flat           == a chip with this core, its attributes kept so
--   chip_of, supply_of         == the chip, and what power-up is given, that what is kept stands for; powered_by == what power-up gives
--   Sized c                    == its arrays have as many places as their type says
-- Assumes nothing.
use Rattle.std.specs.Prelude.{◌≡◌, length}
use Rattle.attributes.specs.declared.Flat.{Flat}
use Rattle.attributes.specs.Flat.{nine_in, flat_size, spots_size}
use Rattle.chip.specs.declared.Core.{Core}
use Rattle.chip.specs.declared.Supply.{Supply}
use Rattle.chip.specs.declared.Chip.{Chip}
use Rattle.chip.specs.declared.FlatSupply.{FlatSupply}
use Rattle.chip.specs.declared.FlatChip.{FlatChip}
use Rattle.chip.specs.declared.Powered.{Powered}
use Rattle.chip.specs.declared.FlatPowered.{FlatPowered}

abbrev pub holding : Core → Flat → Chip
holding c flat = record { core = c; attributes = nine_in flat }

abbrev pub chip_of : FlatChip → Chip
chip_of s = holding s.core s.flat

abbrev pub supply_of : FlatSupply → Supply
supply_of given = record { attributes = nine_in given.flat; kept = given.kept }

abbrev pub powered_by : FlatPowered → Powered
powered_by t = record { number = t.number; chip = chip_of t.chip }

pub record Sized (s : FlatChip) : Type 0 where
  pub counters : length s.flat.counters ≡ flat_size
  pub addresses : length s.flat.addresses ≡ spots_size
