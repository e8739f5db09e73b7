-- Laws of sums over the first places. Assumes nothing.
use Rattle.std.proofs.Common.{◌≡◌, ℕ, zero, suc, ◌+◌, ◌%◌, ◌^◌, ◌<◌, Bool, true, false, eqb, refl, ap, arith, eqb-true}
use borrow.Author.Tests.{eqb-false}
use Rattle.attributes.specs.Sums.{sum_over}

pub sum_same : (n : ℕ) (f g : ℕ → ℕ) → ((i : ℕ) → i < n → f i ≡ g i) → sum_over n f ≡ sum_over n g
unfolding sum_over
sum_same zero f g e = refl
sum_same (suc n) f g e = rw (e n (omega arith), sum_same n f g (λ i l. e i (omega arith)))

pub sum_none : (n : ℕ) (f : ℕ → ℕ) → ((i : ℕ) → i < n → f i ≡ 0) → sum_over n f ≡ 0
unfolding sum_over
sum_none zero f z = refl
sum_none (suc n) f z = rw (z n (omega arith), sum_none n f (λ i l. z i (omega arith)))

-- one place alone adds to it
pub sum_one : (n p : ℕ) (f : ℕ → ℕ) → p < n → ((i : ℕ) → (i ≡ p → ⊥) → f i ≡ 0) → sum_over n f ≡ f p
unfolding sum_over
sum_one zero p f l z = absurd (omega arith)
sum_one (suc n) p f l z = go (eqb n p) refl (sum_one n p f)
  where
    go : (t : Bool) → eqb n p ≡ t → (p < n → ((i : ℕ) → (i ≡ p → ⊥) → f i ≡ 0) → sum_over n f ≡ f p) → f n + sum_over n f ≡ f p
    go true e rest =
        let k = eqb-true n p e in
        let o : sum_over n f ≡ 0 = sum_none n f (λ i m. z i (λ q. omega arith)) in
        let j : f n ≡ f p = ap f k in
        omega arith
    go false e rest =
        let k = eqb-false n p e in
        let o : f n ≡ 0 = z n k in
        let j : sum_over n f ≡ f p = rest (omega arith) z in
        omega arith

pub sum_both : (n : ℕ) (f g : ℕ → ℕ) → sum_over n (λ i. f i + g i) ≡ sum_over n f + sum_over n g
unfolding sum_over
sum_both zero f g = refl
sum_both (suc n) f g = let e = sum_both n f g in omega arith

pub sum_modulo : (n : ℕ) (f : ℕ → ℕ) → sum_over n (λ i. f i % 2 ^ 32) % 2 ^ 32 ≡ sum_over n f % 2 ^ 32
unfolding sum_over
sum_modulo zero f = refl
sum_modulo (suc n) f = let e = sum_modulo n f in omega arith
