-- Lists by place. Assumes nothing.
--   each_same == a list that has at each place what `each` makes there
use Prim.Native.Nat.{ℕ, ◌<◌}
use mathlib.Core.Path.{◌≡◌, sym, ◌∙◌}
use mathlib.Core.List.{List}
use native.Mathlib.Omega.{arith}
use lib.ListN.{length, get_or}
use Rattle.std.proofs.lemmas.Grind.{same_number_lists}
use Rattle.ports.specs.Each.{each}
use Rattle.ports.proofs.Each.{each_length, each_at}

pub each_same : (f : ℕ → ℕ → ℕ) (xs zs : List ℕ) → length xs ≡ length zs → ((i : ℕ) → i < length zs → get_or xs i 0 ≡ f i (get_or zs i 0))
    → xs ≡ each f zs
each_same f xs zs e h =
    same_number_lists xs (each f zs) (e ∙ sym (each_length f zs)) (λ i l. h i (omega arith) ∙ sym (each_at f zs i 0 0 (omega arith)))
