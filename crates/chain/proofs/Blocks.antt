-- Stretches of input, one after the other, come to what the readings in all their bytes come to. Assumes nothing.
--   blocks_are_one, rest_is_of_last == the theorems
use Prim.Native.Nat.{ℕ, ◌+◌, ◌%◌}
use mathlib.Core.Path.{◌≡◌, refl, sym, ap, ◌∙◌}
use mathlib.Core.List.{List, [], ◌∷◌, ◌++◌}
use native.Mathlib.Omega.{arith}
use lib.ListN.{length, length-append}
use Rattle.chain.specs.declared.Chain.{Chain}
use Rattle.chain.specs.Chain.{reading_length, readings_in, none, onward}
use Rattle.chain.specs.Blocks.{blocks_of, AllWhole, joined, BlocksAreOne, RestIsOfLast}
use Rattle.chain.proofs.ChainLaws.{in_joined, onward_joined, onward_is_total}

blocks_on : (c : Chain) (bss : List (List ℕ)) (last : List ℕ) → AllWhole bss → blocks_of c (bss ++ (last ∷ [])) ≡ onward c (readings_in (joined bss last))
unfolding blocks_of
blocks_on c [] last h = refl
blocks_on c (bs ∷ bss) last h =
    blocks_on (onward c (readings_in bs)) bss last h.1 ∙ onward_joined c (readings_in bs) (readings_in (joined bss last))
    ∙ ap (onward c) (sym (in_joined bs (joined bss last) h.0))

pub blocks_are_one : BlocksAreOne
blocks_are_one bss last h = blocks_on none bss last h ∙ onward_is_total (readings_in (joined bss last))

pub rest_is_of_last : RestIsOfLast
rest_is_of_last [] last h = refl
rest_is_of_last (bs ∷ bss) last h =
    let whole : length bs % reading_length ≡ 0 = h.0 in
    let same : (length bs + length (joined bss last)) % reading_length ≡ length (joined bss last) % reading_length = omega (arith, whole) in
    ap (λ (n : ℕ). n % reading_length) (length-append bs (joined bss last)) ∙ same ∙ rest_is_of_last bss last h.1
