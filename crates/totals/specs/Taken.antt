-- Request Q-14: what the program `totals` keeps from one stretch of input to the next, and what it says at the end. chain/specs/Chain has the rules of readings.
--   nothing_yet      == before the first stretch
--   taken_on s bs    == s, with the bytes bs behind it: their readings, and how many bytes are left behind the last whole one
--   taken_in s bss   == the same, stretch after stretch
--   said_of t        == the sum, or that it does not fit
--   outcome_of s     == bytes that are left over, if there are any; else the sum, or that it does not fit
--   outcome_in bs    == the same of all bytes of an input together
--   InputDecides    == stretches of whole readings and a last one of any bytes: what is said is decided by their bytes, one behind the other
-- Assumes nothing.
use Rattle.std.specs.Prelude.{ℕ, ◌≡◌, cond, List, [], ◌∷◌, ◌++◌, Option, Some, None, Result, Ok, Err, ltb}
use Rattle.attributes.specs.Octets.{total_of, answered}
use Rattle.chain.specs.Chain.{readings_in, rest_of, none, onward}
use Rattle.chain.specs.Blocks.{AllWhole, joined}
use Rattle.totals.specs.declared.Taken.{Taken}
use Rattle.totals.specs.declared.Unsummed.{Unsummed}
use Rattle.totals.specs.declared.Unsummed.TheVariants.{Left, NoFit}

abbrev pub nothing_yet : Taken
nothing_yet = record { chain = none; rest = 0 }

abbrev pub taken_on : Taken → List ℕ → Taken
taken_on s bs = record { chain = onward s.chain (readings_in bs); rest = rest_of bs }

unfoldable pub taken_in : Taken → List (List ℕ) → Taken
taken_in s [] = s
taken_in s (bs ∷ bss) = taken_in (taken_on s bs) bss

abbrev pub said_of : Option ℕ → Result ℕ Unsummed
said_of (Some n) = Ok n
said_of None = Err NoFit

unfoldable pub outcome_of : Taken → Result ℕ Unsummed
outcome_of s = cond (ltb 0 s.rest) (Err (Left s.rest)) (said_of s.chain.total)

abbrev pub outcome_in : List ℕ → Result ℕ Unsummed
outcome_in bs = cond (ltb 0 (rest_of bs)) (Err (Left (rest_of bs))) (said_of (answered (total_of (readings_in bs))))

abbrev pub InputDecides : Type 0
InputDecides =
    (bss : List (List ℕ)) (last : List ℕ) → AllWhole bss → outcome_of (taken_in nothing_yet (bss ++ (last ∷ []))) ≡ outcome_in (joined bss last)
