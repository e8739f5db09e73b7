-- The chip as it is kept is decided by the chip that it stands for. Assumes nothing.
--   chip_one == two kept chips that stand for one chip are the same, their arrays having the size that their type says
use Rattle.std.proofs.Common.{◌≡◌, ℕ, List, ap, ap₂}
use Rattle.attributes.specs.declared.Flat.{Flat}
use Rattle.attributes.proofs.FlatLaws.{nine_one}
use Rattle.chip.specs.declared.Core.{Core}
use Rattle.chip.specs.declared.Chip.{Chip}
use Rattle.chip.specs.declared.FlatChip.{FlatChip}
use Rattle.chip.specs.Flat.{chip_of, Sized}

pub chip_one : (c d : FlatChip) → Sized c → Sized d → chip_of c ≡ chip_of d → c ≡ d
chip_one c d m n e =
    let w =
    nine_one c.flat.counters c.flat.addresses d.flat.counters d.flat.addresses m.counters n.counters m.addresses n.addresses
    (ap (λ (s : Chip). s.attributes) e) in
    ap₂ (λ (core : Core) (flat : Flat). record { core = core; flat = flat }) (ap (λ (s : Chip). s.core) e)
    (ap₂ (λ (x y : List ℕ). record { counters = x; addresses = y }) w.0 w.1)
