-- The bytes that the code takes are the definitions', and a test for zero by another number that is zero with it.
-- Assumes nothing.
use Prim.Native.Nat.{ℕ, ◌+◌}
use mathlib.Core.Path.{◌≡◌, refl}
use mathlib.Core.List.{List, [], ◌∷◌}
use mathlib.Core.Bool.{Bool, true, false}
use native.Mathlib.Nat.{add_assoc}
use lib.Dec.{eqb}
use borrow.Author.Tests.{eq-eqb, ne_eqb, eqb-true, eqb-false}
use Rattle.record.specs.Record.{byte_at, bytes_from}

module _ (s : List ℕ) (i : ℕ) where
  pub two_from : byte_at s i ∷ byte_at s (i + 1) ∷ [] ≡ bytes_from s i 1
  unfolding bytes_from
  two_from = refl

  pub four_from : byte_at s i ∷ byte_at s (i + 1) ∷ byte_at s (i + 2) ∷ byte_at s (i + 3) ∷ [] ≡ bytes_from s i 3
  unfolding bytes_from
  four_from = simp add_assoc

-- two numbers of which each is zero where the other is
pub same_zero : (a b : ℕ) → (a ≡ 0 → b ≡ 0) → (b ≡ 0 → a ≡ 0) → eqb a 0 ≡ eqb b 0
same_zero a b f g = go (eqb b 0) refl
  where
    go : (t : Bool) → eqb b 0 ≡ t → eqb a 0 ≡ t
    go true e = eq-eqb a 0 (g (eqb-true b 0 e))
    go false e = ne_eqb a 0 (λ h. eqb-false b 0 e (f h))
