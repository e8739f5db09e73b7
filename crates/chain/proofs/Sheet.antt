-- Readings in bytes, and what they come to, computed. Assumes nothing.
--   the_readings        == none, one, one with three bytes behind it, three bytes alone, three readings
--   the_rests           == what is left behind the last whole one
--   the_chains          == Q-14's rows: no reading, one, one round and more, one round; at once, and cut between two readings
--   the_wholes          == the same rows, each as all readings together
--   the_edge            == the last sum that fits; one that did not fit never fits again
--   the_blocks          == the bytes of three readings at once, and cut behind the first and behind the second
--   all_of_them         == the blocks are all of the bytes
--   piece_is_no_reading == two bytes are no block of whole readings
use Prim.Native.Nat.{ℕ}
use mathlib.Core.Path.{◌≡◌, refl}
use mathlib.Core.List.{List, [], ◌∷◌, ◌++◌}
use native.Mathlib.Omega.{arith}
use Rattle.std.specs.Prelude.{Option, Some, None}
use Rattle.attributes.specs.Octets.{total_after, total_of, answered, total_on}
use Rattle.chain.specs.declared.Chain.{Chain}
use Rattle.chain.specs.Chain.{readings_in, rest_of, none, onward, chain_of}
use Rattle.chain.specs.Blocks.{blocks_of, AllWhole, joined}

pub the_readings : (readings_in [] ≡ [])
    × (readings_in (1 ∷ 2 ∷ 3 ∷ 4 ∷ []) ≡ 67305985 ∷ [])
    × (readings_in (1 ∷ 2 ∷ 3 ∷ 4 ∷ 5 ∷ 6 ∷ 7 ∷ []) ≡ 67305985 ∷ [])
    × (readings_in (7 ∷ 0 ∷ 0 ∷ []) ≡ [])
    × (readings_in (255 ∷ 255 ∷ 255 ∷ 255 ∷ 2 ∷ 0 ∷ 0 ∷ 0 ∷ 1 ∷ 0 ∷ 0 ∷ 0 ∷ []) ≡ 4294967295 ∷ 2 ∷ 1 ∷ [])
unfolding readings_in
the_readings = (refl, refl, refl, refl, refl)

pub the_rests : (rest_of [] ≡ 0) × (rest_of (1 ∷ 2 ∷ 3 ∷ 4 ∷ []) ≡ 0) × (rest_of (1 ∷ 2 ∷ 3 ∷ 4 ∷ 5 ∷ 6 ∷ 7 ∷ []) ≡ 3)
the_rests = (refl, refl, refl)

-- with this sum and this last reading
abbrev at : Option ℕ → ℕ → Chain
at t r = record { total = t; last = Some r }

pub the_chains : (onward none [] ≡ none)
    × (onward none (7 ∷ []) ≡ at (Some 0) 7)
    × (onward none (4294967295 ∷ 2 ∷ 1 ∷ []) ≡ at (Some 4294967298) 1)
    × (onward (onward none (4294967295 ∷ [])) (2 ∷ 1 ∷ []) ≡ at (Some 4294967298) 1)
    × (onward (onward none (4294967295 ∷ 2 ∷ [])) (1 ∷ []) ≡ at (Some 4294967298) 1)
    × (onward (onward none []) (0 ∷ 4294967295 ∷ 0 ∷ []) ≡ at (Some 4294967296) 0)
    × (onward (at (Some 5) 7) [] ≡ at (Some 5) 7)
unfolding onward total_on total_of total_after answered
the_chains = (refl, refl, refl, refl, refl, refl, refl)

pub the_wholes : (chain_of [] ≡ none)
    × (chain_of (7 ∷ []) ≡ at (Some 0) 7)
    × (chain_of (4294967295 ∷ 2 ∷ 1 ∷ []) ≡ at (Some 4294967298) 1)
    × (chain_of (0 ∷ 4294967295 ∷ 0 ∷ []) ≡ at (Some 4294967296) 0)
unfolding total_of total_after answered
the_wholes = (refl, refl, refl, refl)

pub the_edge : (onward (at (Some 18446744073709551614) 4) (5 ∷ 5 ∷ []) ≡ at (Some 18446744073709551615) 5)
    × (onward (at (Some 18446744073709551614) 4) (6 ∷ []) ≡ at None 6)
    × (onward (at None 6) (6 ∷ 7 ∷ []) ≡ at None 7)
unfolding onward total_on total_after answered
the_edge = (refl, refl, refl)

abbrev first : List ℕ
first = 255 ∷ 255 ∷ 255 ∷ 255 ∷ []

abbrev second : List ℕ
second = 2 ∷ 0 ∷ 0 ∷ 0 ∷ []

-- a reading, and two bytes behind it
abbrev third : List ℕ
third = 1 ∷ 0 ∷ 0 ∷ 0 ∷ 9 ∷ 9 ∷ []

pub the_blocks : (blocks_of none ((first ++ second ++ third) ∷ []) ≡ at (Some 4294967298) 1)
    × (blocks_of none (first ∷ (second ++ third) ∷ []) ≡ at (Some 4294967298) 1)
    × (blocks_of none (first ∷ second ∷ third ∷ []) ≡ at (Some 4294967298) 1)
unfolding blocks_of readings_in onward total_on total_of total_after answered
the_blocks = (refl, refl, refl)

pub all_of_them : joined (first ∷ second ∷ []) third ≡ first ++ second ++ third
all_of_them = refl

pub piece_is_no_reading : AllWhole ((1 ∷ 2 ∷ []) ∷ []) → ⊥
piece_is_no_reading e = let k : ◌≡◌ {A = ℕ} 2 0 = e.0 in absurd (omega (arith, k))
