-- Laws of lists that are given by what stands at each place. Assumes nothing.
--   listed_length, listed_at == how long it is, and what stands at a place
--   listed_same, listed_all, listed_part == two that are the same; a list, and a stretch of one, by its own places
--   each_listed, set_listed  == what is done to each element, and a store
use Rattle.std.proofs.Common.{◌≡◌, ℕ, zero, suc, ◌+◌, ◌<◌, ◌≤◌, cond, eqb, List, [], ◌∷◌, length, get_or, take, drop, set, sym, refl, ap, ◌∙◌, ap₂, arith, length-drop, length-take-le, get_or-drop, get_or-take, ne_eqb}
use lib.Dec.{eqb-suc-suc}
use Rattle.ports.specs.Each.{each}
use Rattle.attributes.specs.Flat.{listed}

module _ {A : Type 0} where
  pub listed_length : (n : ℕ) (f : ℕ → A) → length (listed n f) ≡ n
  unfolding listed each
  listed_length zero f = refl
  listed_length (suc n) f = ap suc (listed_length n (λ i. f (suc i)))

  pub listed_at : (n : ℕ) (f : ℕ → A) (i : ℕ) (d : A) → i < n → get_or (listed n f) i d ≡ f i
  unfolding listed each
  listed_at zero f i d h = absurd (omega arith)
  listed_at (suc n) f zero d h = refl
  listed_at (suc n) f (suc i) d h = listed_at n (λ j. f (suc j)) i d (omega arith)

  pub listed_same : (n : ℕ) (f g : ℕ → A) → ((i : ℕ) → i < n → f i ≡ g i) → listed n f ≡ listed n g
  unfolding listed each
  listed_same zero f g e = refl
  listed_same (suc n) f g e =
      ap₂ (λ (x : A) (xs : List A). x ∷ xs) (e 0 (omega arith)) (listed_same n (λ i. f (suc i)) (λ i. g (suc i)) (λ i h. e (suc i) (omega arith)))

  pub listed_all : (n : ℕ) (xs : List A) (d : A) → length xs ≡ n → listed n (λ i. get_or xs i d) ≡ xs
  unfolding listed each
  listed_all zero [] d e = refl
  listed_all zero (x ∷ xs) d e = absurd (omega arith)
  listed_all (suc n) [] d e = absurd (omega arith)
  listed_all (suc n) (x ∷ xs) d e = ap (λ (l : List A). x ∷ l) (listed_all n xs d (omega arith))

  pub listed_part : (n k : ℕ) (xs : List A) (d : A) → k + n ≤ length xs → listed n (λ i. get_or xs (k + i) d) ≡ take n (drop k xs)
  listed_part n k xs d h =
      listed_same n (λ i. get_or xs (k + i) d) (λ i. get_or (take n (drop k xs)) i d) (λ i l. sym (get_or-take n (drop k xs) i d l ∙ get_or-drop k xs i d))
      ∙ listed_all n (take n (drop k xs)) d (length-take-le n (drop k xs) (rw length-drop (omega arith)))

  pub set_listed : (n : ℕ) (f : ℕ → A) (k : ℕ) (v : A) → set (listed n f) k v ≡ listed n (λ i. cond (eqb i k) v (f i))
  unfolding listed each
  set_listed zero f k v = refl
  set_listed (suc n) f zero v = ap (λ (l : List A). v ∷ l) (listed_same n (λ i. f (suc i)) (λ i. cond (eqb (suc i) 0) v (f (suc i))) (λ i h. rw (ne_eqb (suc i) 0 (λ e. omega arith))))
  set_listed (suc n) f (suc k) v =
      rw (ne_eqb 0 (suc k) (λ e. omega arith))
      (ap (λ (l : List A). f 0 ∷ l)
      (set_listed n (λ i. f (suc i)) k v
      ∙ listed_same n (λ i. cond (eqb i k) v (f (suc i))) (λ i. cond (eqb (suc i) (suc k)) v (f (suc i))) (λ i h. rw (eqb-suc-suc i k))))

pub each_listed : {A B : Type 0} (n : ℕ) (f : ℕ → A) (g : ℕ → A → B) → each g (listed n f) ≡ listed n (λ i. g i (f i))
unfolding listed each
each_listed zero f g = refl
each_listed {A} {B} (suc n) f g = ap (λ (l : List B). g 0 (f 0) ∷ l) (each_listed n (λ i. f (suc i)) (λ i. g (suc i)))
