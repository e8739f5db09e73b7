-- What an iterator over the registers gives, as the definitions have it. Assumes nothing.
--   all_noted   == the eight bytes in turn, each with its events
--   any_held    == some register among the seven that have bits
use Prim.Native.Nat.{ℕ}
use mathlib.Core.Path.{◌≡◌, sym, ◌∙◌}
use mathlib.Core.List.{List, [], ◌∷◌, map}
use mathlib.Core.Bool.{Bool, false, ◌||◌}
use native.Mathlib.Omega.{arith}
use lib.Bits.{bit_or}
use lib.ListN.{length, get_or}
use Rattle.std.proofs.Math.Bool.{or_assoc, or-false}
use Rattle.std.proofs.lemmas.List.FromFn.{fill_by_all}
use Rattle.std.specs.List.{list_any}
use Rattle.ports.proofs.Each.{each_at, each_length}
use Rattle.changes.specs.Changes.{noted, both, pending}

grouped : (a b c d e f g : Bool) → (a || (b || (c || (d || (e || (f || (g || false))))))) ≡ (a || b || c || d || e || f || g)
grouped a b c d e f g = simp (or_assoc, or-false)

module _ (changes : List ℕ) where
  pub all_noted :
      (events result : List ℕ) → length changes ≡ 8 →
      result ≡ map (λ i. bit_or (get_or changes i 0) (get_or events i 0)) (0 ∷ 1 ∷ 2 ∷ 3 ∷ 4 ∷ 5 ∷ 6 ∷ 7 ∷ []) → result ≡ noted events changes
  unfolding noted
  all_noted events result eight h =
      h
      ∙ sym
      (fill_by_all (λ i. bit_or (get_or changes i 0) (get_or events i 0)) (noted events changes) 8 0
      (each_length (λ i bits. bit_or bits (get_or events i 0)) changes ∙ eight)
      (λ i l. each_at (λ i bits. bit_or bits (get_or events i 0)) changes i 0 0 (omega arith)))

  pub any_held : (enables : List ℕ) (result : Bool) → result ≡ list_any (λ i. both changes enables i) (0 ∷ 1 ∷ 2 ∷ 3 ∷ 4 ∷ 6 ∷ 7 ∷ []) → result ≡ pending changes enables
  unfolding pending
  any_held enables result h =
      h
      ∙ grouped (both changes enables 0) (both changes enables 1) (both changes enables 2) (both changes enables 3) (both changes enables 4) (both changes enables 6)
      (both changes enables 7)
