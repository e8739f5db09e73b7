-- The tables of specs/Sheet.antt, by computing; what C writes select; and the record of power-up. Assumes nothing.
use mathlib.Core.Path.{◌≡◌, refl}
use mathlib.Core.Bool.{true, false}
use mathlib.Core.List.{[], ◌∷◌, map}
use lib.ListN.{replicate}
use Rattle.host.specs.Bytes.{spread_of, single_of}
use Rattle.host.specs.Map.{row_at}
use Rattle.host.specs.Sequence.{power_up, selected}
use Rattle.host.specs.Sheet.{Spot, spots, Said, told, strayed, sequences}
use Rattle.host.proofs.Computing.{hosting}

pub spots_hold : map (λ (s : Spot). s.row) spots ≡ map (λ (s : Spot). row_at s.page s.register) spots
unfolding hosting
spots_hold = refl

pub sequences_told : map (λ (s : Said). s.shown) sequences ≡ map (λ (s : Said). told s.start s.steps) sequences
unfolding hosting
sequences_told = refl

-- 000xxxxx is P, 111xxxxx is R, and the other bytes are neither
pub selections : (selected 0x1f strayed ≡ record { page = 31; register = 0; bytes = replicate 6 9; place = 0; writing = false })
    × (selected 0xff strayed ≡ record { page = 0; register = 31; bytes = replicate 6 9; place = 0; writing = false })
    × (selected 0x20 strayed ≡ strayed)
    × (selected 0xdf strayed ≡ strayed)
unfolding hosting
selections = (refl, refl, refl, refl)

pub host_up : power_up ≡ record { page = 0; register = 0; bytes = 0 ∷ 0 ∷ 0 ∷ 0 ∷ 0 ∷ 0 ∷ []; place = 0; writing = false }
host_up = refl

-- four bytes, the least significant first, and one
pub in_order : (spread_of 0x04030201 ≡ 1 ∷ 2 ∷ 3 ∷ 4 ∷ 0 ∷ 0 ∷ []) × (single_of 7 ≡ 7 ∷ 0 ∷ 0 ∷ 0 ∷ 0 ∷ 0 ∷ [])
in_order = (refl, refl)
