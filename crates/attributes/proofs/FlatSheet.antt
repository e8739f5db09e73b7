-- Every row of specs/FlatSheet.antt, by computing; addresses written, and what is read. Assumes nothing.
--   bursts_kept   == the table
--   written_kept  == six bytes written at AUI, and at TP7; past the last port nothing
--   read_there    == counters and stretches, each by the number of its place
--   back_again    == from one layout to the other and back
use Rattle.std.proofs.Common.{◌≡◌, [], ◌∷◌, map, refl}
use Rattle.ports.specs.Sets.{has, gather}
use Rattle.ports.specs.Each.{each}
use Rattle.attributes.specs.declared.Nine.{Nine}
use Rattle.attributes.specs.Nine.{counter_of, readdressed}
use Rattle.attributes.specs.Sheet.{away, homes}
use Rattle.attributes.specs.Flat.{nine_of, flat_of, spots_of, stretch_of}
use Rattle.attributes.specs.FlatSheet.{stored, six, alike, unknown, kept, found, bursts, numbered}
use Rattle.attributes.proofs.Computing.{crediting}

pub bursts_kept : map kept bursts ≡ map found bursts
unfolding crediting has gather each
bursts_kept = refl

pub written_kept : (nine_of (alike 7) (stored (six 48) unknown) ≡ readdressed 8 away (nine_of (alike 7) unknown))
    × (nine_of (alike 7) (stored (six 42) unknown) ≡ readdressed 7 away (nine_of (alike 7) unknown))
    × (nine_of (alike 7) unknown ≡ readdressed 9 away (nine_of (alike 7) unknown))
unfolding crediting each
written_kept = (refl, refl, refl)

abbrev held : Nine
held = nine_of numbered unknown

pub read_there : (counter_of held 8 12 ≡ 116)
    × (counter_of held 7 12 ≡ 115)
    × (counter_of held 3 1 ≡ 12)
    × (counter_of held 9 0 ≡ 0)
    × (counter_of held 0 13 ≡ 0)
    × (stretch_of 0 numbered ≡ 0 ∷ 1 ∷ 2 ∷ 3 ∷ 4 ∷ 5 ∷ 6 ∷ 7 ∷ 8 ∷ [])
    × (stretch_of 12 numbered ≡ 108 ∷ 109 ∷ 110 ∷ 111 ∷ 112 ∷ 113 ∷ 114 ∷ 115 ∷ 116 ∷ [])
    × (stretch_of 13 numbered ≡ [])
    × (stretch_of 1 (0 ∷ 0 ∷ 0 ∷ 0 ∷ 0 ∷ 0 ∷ 0 ∷ 0 ∷ 0 ∷ 5 ∷ 6 ∷ []) ≡ 5 ∷ 6 ∷ [])
unfolding crediting each
read_there = (refl, refl, refl, refl, refl, refl, refl, refl, refl)

pub back_again : (flat_of held ≡ numbered) × (spots_of held ≡ unknown) × (nine_of (flat_of (homes 5)) (spots_of (homes 5)) ≡ homes 5)
unfolding crediting each
back_again = (refl, refl, refl)
