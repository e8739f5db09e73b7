-- What is said at the end is decided by the bytes of the input, wherever it was cut between two readings. Assumes nothing.
--   input_decides == the theorem
use Prim.Native.Nat.{ℕ}
use mathlib.Core.Path.{◌≡◌, refl, ap, ◌∙◌}
use mathlib.Core.List.{List, [], ◌∷◌, ◌++◌}
use Rattle.chain.specs.Chain.{rest_of}
use Rattle.chain.specs.Blocks.{blocks_of}
use Rattle.chain.proofs.Blocks.{blocks_are_one, rest_is_of_last}
use Rattle.totals.specs.declared.Taken.{Taken}
use Rattle.totals.specs.Taken.{nothing_yet, taken_on, taken_in, outcome_of, InputDecides}
use Rattle.totals.proofs.Sheet.{the_outcomes}

-- the chain goes through all stretches, and of the bytes that are left over the last one has the say
taken_parts : (s : Taken) (bss : List (List ℕ)) (last : List ℕ)
    → taken_in s (bss ++ (last ∷ [])) ≡ record { chain = blocks_of s.chain (bss ++ (last ∷ [])); rest = rest_of last }
unfolding taken_in blocks_of
taken_parts s [] last = refl
taken_parts s (bs ∷ bss) last = taken_parts (taken_on s bs) bss last

pub input_decides : InputDecides
unfolding outcome_of
input_decides bss last h =
    ap outcome_of (taken_parts nothing_yet bss last) ∙ rw (blocks_are_one bss last h, rest_is_of_last bss last h)
