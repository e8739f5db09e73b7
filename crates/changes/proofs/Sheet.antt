-- The tables of specs/Sheet.antt, by computing. Assumes nothing.
--   own_enables      == a change bit fires by an enable of its own register, and by no other register's
--   own_bits         == and by the enable of its own bit alone
--   many             == all bits with all enables, all bits with none, none with all
--   kept             == what a write of FF, and of 7F, to each register of enables keeps: TP's registers have eight bits, AUI's have bit 7
--   events_told      == each event sets its bit: partition of TP3 and of AUI, link of TP3, loopback, SQE Test, address of TP3 and of AUI; and several at once
--   bits_stay        == a bit that is one stays one, and events come to it
use mathlib.Core.Path.{◌≡◌, refl}
use mathlib.Core.Bool.{true, false}
use mathlib.Core.List.{[], ◌∷◌, map}
use lib.ListN.{replicate}
use Rattle.ports.specs.Sets.{has}
use Rattle.ports.specs.Each.{each}
use Rattle.changes.specs.Changes.{events_of, noted, kept_bits, pending}
use Rattle.changes.specs.Sheet.{seven, only, all, firing, fired}

pub own_enables : fired
    ≡ (true ∷ false ∷ false ∷ false ∷ false ∷ false ∷ false ∷ [])
    ∷ (false ∷ true ∷ false ∷ false ∷ false ∷ false ∷ false ∷ [])
    ∷ (false ∷ false ∷ true ∷ false ∷ false ∷ false ∷ false ∷ [])
    ∷ (false ∷ false ∷ false ∷ true ∷ false ∷ false ∷ false ∷ [])
    ∷ (false ∷ false ∷ false ∷ false ∷ true ∷ false ∷ false ∷ [])
    ∷ (false ∷ false ∷ false ∷ false ∷ false ∷ true ∷ false ∷ [])
    ∷ (false ∷ false ∷ false ∷ false ∷ false ∷ false ∷ true ∷ [])
    ∷ []
unfolding pending
own_enables = refl

pub own_bits : (firing 0 0b00001000 0 0b00001000 ≡ true) × (firing 0 0b00001000 0 0b11110111 ≡ false) × (firing 7 0b10000000 7 0b10000000 ≡ true)
unfolding pending
own_bits = (refl, refl, refl)

pub many : (pending (all 0x80) (all 0x80) ≡ true) × (pending (all 0xff) (replicate 8 0) ≡ false) × (pending (replicate 8 0) (all 0xff) ≡ false)
unfolding pending
many = (refl, refl, refl)

pub kept : (map (λ r. kept_bits r 0xff) seven ≡ 0xff ∷ 0x80 ∷ 0xff ∷ 0x80 ∷ 0x80 ∷ 0xff ∷ 0x80 ∷ [])
    × (map (λ r. kept_bits r 0x7f) seven ≡ 0x7f ∷ 0x00 ∷ 0x7f ∷ 0x00 ∷ 0x00 ∷ 0x7f ∷ 0x00 ∷ [])
unfolding kept_bits
kept = (refl, refl)

pub events_told :
    (events_of 0b000001000 0 false false 0 ≡ only 0 0b00001000)
    × (events_of 0b100000000 0 false false 0 ≡ only 1 0b10000000)
    × (events_of 0 0b000001000 false false 0 ≡ only 2 0b00001000)
    × (events_of 0 0 true false 0 ≡ only 3 0b10000000)
    × (events_of 0 0 false true 0 ≡ only 4 0b10000000)
    × (events_of 0 0 false false 0b000001000 ≡ only 6 0b00001000)
    × (events_of 0 0 false false 0b100000000 ≡ only 7 0b10000000)
    × (events_of 0b110000001 0b010000000 true true 0b100000010
    ≡ 0b10000001 ∷ 0b10000000 ∷ 0b10000000 ∷ 0b10000000 ∷ 0b10000000 ∷ 0 ∷ 0b00000010 ∷ 0b10000000 ∷ [])
unfolding events_of has
events_told = (refl, refl, refl, refl, refl, refl, refl, refl)

pub bits_stay : (noted (all 0b00000101) (all 0b00000011) ≡ all 0b00000111) × (noted (replicate 8 0) (all 0xff) ≡ all 0xff)
unfolding noted each
bits_stay = (refl, refl)
