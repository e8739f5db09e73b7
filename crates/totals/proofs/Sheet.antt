-- What is said of some inputs, computed. Assumes nothing.
--   the_outcomes == nothing at all, one reading, three; two bytes behind a reading; one byte alone
--   in_stretches == the three readings, cut behind the first, and nothing behind them
--   the_edge     == the last sum that fits; one that does not; with a byte left over; and one that did not fit before
use mathlib.Core.Path.{◌≡◌, refl}
use mathlib.Core.List.{[], ◌∷◌}
use Rattle.std.specs.Prelude.{ℕ, Option, Some, None, Ok, Err}
use Rattle.attributes.specs.Octets.{total_after, total_of, answered, total_on}
use Rattle.chain.specs.Chain.{readings_in, onward}
use Rattle.totals.specs.declared.Taken.{Taken}
use Rattle.totals.specs.declared.Unsummed.TheVariants.{Left, NoFit}
use Rattle.totals.specs.Taken.{nothing_yet, taken_on, taken_in, outcome_of, outcome_in}

pub the_outcomes : (outcome_in [] ≡ Ok 0)
    × (outcome_in (7 ∷ 0 ∷ 0 ∷ 0 ∷ []) ≡ Ok 0)
    × (outcome_in (255 ∷ 255 ∷ 255 ∷ 255 ∷ 2 ∷ 0 ∷ 0 ∷ 0 ∷ 1 ∷ 0 ∷ 0 ∷ 0 ∷ []) ≡ Ok 4294967298)
    × (outcome_in (7 ∷ 0 ∷ 0 ∷ 0 ∷ 8 ∷ 0 ∷ []) ≡ Err (Left 2))
    × (outcome_in (7 ∷ []) ≡ Err (Left 1))
unfolding readings_in total_of total_after answered
the_outcomes = (refl, refl, refl, refl, refl)

pub in_stretches : outcome_of (taken_in nothing_yet ((255 ∷ 255 ∷ 255 ∷ 255 ∷ []) ∷ (2 ∷ 0 ∷ 0 ∷ 0 ∷ 1 ∷ 0 ∷ 0 ∷ 0 ∷ []) ∷ [] ∷ [])) ≡ Ok 4294967298
unfolding outcome_of taken_in onward readings_in total_on total_of total_after answered
in_stretches = refl

-- the reading 4, with this sum so far
abbrev at : Option ℕ → Taken
at t = record { chain = record { total = t; last = Some 4 }; rest = 0 }

pub the_edge : (outcome_of (taken_on (at (Some 18446744073709551614)) (5 ∷ 0 ∷ 0 ∷ 0 ∷ [])) ≡ Ok 18446744073709551615)
    × (outcome_of (taken_on (at (Some 18446744073709551614)) (6 ∷ 0 ∷ 0 ∷ 0 ∷ [])) ≡ Err NoFit)
    × (outcome_of (taken_on (at (Some 18446744073709551614)) (6 ∷ 0 ∷ 0 ∷ 0 ∷ 6 ∷ [])) ≡ Err (Left 1))
    × (outcome_of (taken_on (at None) (4 ∷ 0 ∷ 0 ∷ 0 ∷ [])) ≡ Err NoFit)
unfolding outcome_of onward readings_in total_on total_after answered
the_edge = (refl, refl, refl, refl)
