-- What a start file gives, by computing. Assumes nothing.
--   fits          == a file of 530 bytes does; with one more it does not, and nothing is counted then
--   chosen        == what may stand behind the 530 bytes, and what comes of it
--   told          == counter 12 of AUI, counter 1 of TP3, the address of AUI, and the chip's own two counters
--   kept          == the same as they are kept: counters first by register, then by port
use mathlib.Core.Path.{◌≡◌, refl}
use mathlib.Core.Bool.{true, false}
use mathlib.Core.List.{[], ◌∷◌, map}
use lib.ListN.{length, get_or, take, drop}
use Rattle.ports.specs.Each.{each}
use Rattle.attributes.specs.Nine.{counter_of, address_of}
use Rattle.attributes.specs.Flat.{listed, flat_of, spots_of}
use Rattle.attributes.proofs.Computing.{crediting}
use Rattle.chip.specs.Chip.{refusal_of, settled_of}
use Rattle.start.specs.Start.{counters_from, address_from, port_from, nine_up_to, fits_in, choices_in, supply_in, started_with, started_of}
use Rattle.start.specs.Sheet.{file, up, choices, made}

pub fits :
    (length file ≡ 530)
    × ((started_of file).fits ≡ true)
    × ((started_of (0 ∷ file)).fits ≡ false)
    × (counter_of (started_of (0 ∷ file)).chip.attributes 3 1 ≡ 0)
unfolding crediting fits_in started_with started_of
fits = (refl, refl, refl, refl)

pub chosen : choices ≡ map made choices
unfolding crediting refusal_of settled_of choices_in supply_in fits_in started_with started_of
chosen = refl

pub told :
    (counter_of up.attributes 8 12 ≡ 0x0403080c)
    × (counter_of up.attributes 3 1 ≡ 0x04030301)
    × (address_of up.attributes 8 ≡ 0x10 ∷ 0x20 ∷ 0x30 ∷ 0x40 ∷ 0x50 ∷ 8 ∷ [])
    × (up.core.kept.transmit_collisions ≡ 0x04030201)
    × (up.core.kept.total_octets ≡ 0x08070605)
unfolding crediting each counters_from address_from port_from nine_up_to choices_in supply_in fits_in started_with started_of
told = (refl, refl, refl, refl, refl)

pub kept :
    (get_or (flat_of up.attributes) 116 0 ≡ 0x0403080c)
    × (get_or (flat_of up.attributes) 12 0 ≡ 0x04030301)
    × (take 6 (drop 48 (spots_of up.attributes)) ≡ 0x10 ∷ 0x20 ∷ 0x30 ∷ 0x40 ∷ 0x50 ∷ 8 ∷ [])
unfolding crediting each listed flat_of spots_of counters_from address_from port_from nine_up_to choices_in supply_in fits_in started_with started_of
kept = (refl, refl, refl)
