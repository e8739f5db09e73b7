-- Many readings of one counter, and what their differences add up to, computed. Assumes nothing.
--   the_totals  == Q-14's rows and their neighbours
--   the_answers == the last sum that 64 bits hold and the first that they do not; a sum that is carried on
use Rattle.std.proofs.Common.{◌≡◌, [], ◌∷◌, Some, None, refl}
use Rattle.attributes.specs.Octets.{total_after, total_of, answered, total_on}

the_totals : (total_of [] ≡ 0)
    × (total_of (7 ∷ []) ≡ 0)
    × (total_of (7 ∷ 7 ∷ []) ≡ 0)
    × (total_of (7 ∷ 9 ∷ []) ≡ 2)
    × (total_of (9 ∷ 7 ∷ []) ≡ 4294967294)
    × (total_of (4294967295 ∷ 2 ∷ 1 ∷ []) ≡ 4294967298)
    × (total_of (0 ∷ 4294967295 ∷ 0 ∷ []) ≡ 4294967296)
    × (total_of (5 ∷ 4 ∷ 3 ∷ 10 ∷ []) ≡ 8589934597)
unfolding total_of total_after
the_totals = (refl, refl, refl, refl, refl, refl, refl, refl)

-- the last sum that fits, and the first that does not
the_answers : (answered 0 ≡ Some 0)
    × (answered 18446744073709551615 ≡ Some 18446744073709551615)
    × (answered 18446744073709551616 ≡ None)
    × (total_on (Some 18446744073709551615) 5 (5 ∷ []) ≡ Some 18446744073709551615)
    × (total_on (Some 18446744073709551615) 5 (6 ∷ []) ≡ None)
    × (total_on (Some 18446744069414584320) 1 (0 ∷ []) ≡ Some 18446744073709551615)
    × (total_on (Some 18446744069414584321) 1 (0 ∷ []) ≡ None)
    × (total_on (Some 3) 2 (1 ∷ []) ≡ Some 4294967298)
    × (total_on None 5 (5 ∷ []) ≡ None)
unfolding answered total_on total_after
the_answers = (refl, refl, refl, refl, refl, refl, refl, refl, refl)
