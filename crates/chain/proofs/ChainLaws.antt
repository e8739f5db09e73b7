-- Readings in bytes, and chains of them. Assumes nothing.
--   in_short, in_joined        == no reading in less than four bytes; those of whole readings and other bytes
--   last_joined, after_joined  == the last of readings and more; their sum
--   on_joined, onward_joined   == a sum, and a chain, carried on in two goes
--   onward_is_total            == the theorem
use Prim.Native.Nat.{ℕ, ◌+◌, ◌<◌}
use mathlib.Core.Path.{◌≡◌, refl, sym, ap, ◌∙◌}
use mathlib.Core.List.{List, [], ◌∷◌, ◌++◌, append-nil}
use native.Mathlib.Omega.{arith}
use native.Mathlib.Nat.{zero-add, add_assoc}
use lib.ListN.{length}
use Rattle.std.specs.Prelude.{Option, Some, None}
use Rattle.spelling.specs.Spelling.{spelt}
use Rattle.attributes.specs.Octets.{difference_of, total_after, total_of, answered, total_on}
use Rattle.attributes.proofs.Totals.{fits, carried_on}
use Rattle.chain.specs.declared.Chain.{Chain}
use Rattle.chain.specs.Chain.{reading_length, readings_in, rest_of, last_of, total_behind, onward, OnwardIsTotal}
use Rattle.chain.proofs.Sheet.{the_readings}

-- ---- Readings in bytes

pub in_short : (bs : List ℕ) → length bs < reading_length → readings_in bs ≡ []
unfolding readings_in
in_short [] h = refl
in_short (a ∷ []) h = refl
in_short (a ∷ b ∷ []) h = refl
in_short (a ∷ b ∷ c ∷ []) h = refl
in_short (a ∷ b ∷ c ∷ d ∷ rest) h = absurd (omega arith)

pub in_joined : (bs cs : List ℕ) → rest_of bs ≡ 0 → readings_in (bs ++ cs) ≡ readings_in bs ++ readings_in cs
unfolding readings_in
in_joined [] cs h = refl
in_joined (a ∷ []) cs h = absurd (omega arith)
in_joined (a ∷ b ∷ []) cs h = absurd (omega arith)
in_joined (a ∷ b ∷ c ∷ []) cs h = absurd (omega arith)
in_joined (a ∷ b ∷ c ∷ d ∷ rest) cs h = ap (λ (rs : List ℕ). spelt (a ∷ b ∷ c ∷ d ∷ []) ∷ rs) (in_joined rest cs (omega arith))

-- ---- Sums and chains, carried on in two goes

pub last_joined : (last : ℕ) (rs more : List ℕ) → last_of (last_of last rs) more ≡ last_of last (rs ++ more)
last_joined last [] more = refl
last_joined last (r ∷ rs) more = last_joined r rs more

pub after_joined : (last : ℕ) (rs more : List ℕ) → total_after last rs + total_after (last_of last rs) more ≡ total_after last (rs ++ more)
unfolding total_after
after_joined last [] more = zero-add _
after_joined last (r ∷ rs) more = add_assoc _ _ _ ∙ ap (λ (n : ℕ). difference_of r last + n) (after_joined r rs more)

pub on_joined : (t : Option ℕ) (last : ℕ) (rs more : List ℕ) → total_on (total_on t last rs) (last_of last rs) more ≡ total_on t last (rs ++ more)
unfolding total_on
on_joined (Some n) last rs more =
    carried_on (n + total_after last rs) (last_of last rs) more
    ∙ ap answered (add_assoc _ _ _ ∙ ap (λ (k : ℕ). n + k) (after_joined last rs more))
on_joined None last rs more = refl

pub onward_joined : (c : Chain) (rs more : List ℕ) → onward (onward c rs) more ≡ onward c (rs ++ more)
unfolding onward total_of
onward_joined c [] more = refl
onward_joined c (r ∷ rs) [] = ap (λ (qs : List ℕ). onward c (r ∷ qs)) (sym (append-nil rs))
onward_joined c (r ∷ rs) (q ∷ qs) = both (sums c.last) (last_joined r rs (q ∷ qs))
  where
    sums : (l : Option ℕ) → total_on (total_behind c.total l (r ∷ rs)) (last_of r rs) (q ∷ qs) ≡ total_behind c.total l (r ∷ rs ++ (q ∷ qs))
    sums (Some last) = on_joined c.total last (r ∷ rs) (q ∷ qs)
    sums None = carried_on (total_after r rs) (last_of r rs) (q ∷ qs) ∙ ap answered (after_joined r rs (q ∷ qs))

    both : {t u : Option ℕ} {m n : ℕ} → t ≡ u → m ≡ n → ◌≡◌ {A = Chain} (record { total = t; last = Some m }) (record { total = u; last = Some n })
    both e d = rw (e, d)

pub onward_is_total : OnwardIsTotal
unfolding onward total_of
onward_is_total [] = ap (λ (t : Option ℕ). record { total = t; last = None }) (sym (fits 0 (omega arith)))
onward_is_total (r ∷ rs) = refl
