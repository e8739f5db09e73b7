-- Laws of numerals that the functions' proofs cite. Assumes nothing.
--   decimal_small, decimal_more == a numeral of one digit, and of more
--   decimal_padded == a number of k + 1 digits, written with zeros in front, has none there
--   three_digits, four_digits == so the numeral of a number of three or four digits is the end of its last four
--   decimal_group, decimal_two_groups == the last four digits, and the last eight, split off; padded_eight == eight digits are twice four
--   decimal_length_le, decimal_length_pos == how many digits there are
use Prim.Native.Nat.{ℕ, zero, suc, ◌*◌, ◌/◌, ◌%◌, ◌^◌, ◌≤◌, ◌<◌}
use mathlib.Core.Path.{◌≡◌, refl, ap, sym, ◌∙◌}
use mathlib.Core.Bool.{Bool, true, false}
use mathlib.Core.List.{List, [], ◌∷◌, ◌++◌, append_assoc}
use native.Mathlib.Nat.{pow-suc}
use native.Mathlib.Omega.{arith}
use borrow.Author.Tests.{lt-ltb, le-ltb, ltb-true, ltb-false}
use lib.Dec.{ltb}
use lib.ListN.{length, length-append, get_or}
use Rattle.answer.specs.Numerals.{digit, numeral, decimal}
use Rattle.answer.specs.Put.{padded}

-- what is enough for a numeral gives the same numeral
enough : (f g n : ℕ) → n < f → n < g → numeral f (ltb n 10) n ≡ numeral g (ltb n 10) n
unfolding numeral
enough zero g n h k = absurd (omega arith)
enough (suc f) zero n h k = absurd (omega arith)
enough (suc f) (suc g) n h k = go (ltb n 10) refl (λ t. enough f g (n / 10) (omega arith) (omega arith))
  where
    go : (b : Bool) → ltb n 10 ≡ b → (10 ≤ n → numeral f (ltb (n / 10) 10) (n / 10) ≡ numeral g (ltb (n / 10) 10) (n / 10))
        → numeral (suc f) b n ≡ numeral (suc g) b n
    go true e ih = refl
    go false e ih = rw (ih (ltb-false n 10 e))

pub decimal_small : (n : ℕ) → n < 10 → decimal n ≡ digit n ∷ []
unfolding decimal numeral
decimal_small n h = rw (lt-ltb n 10 h)

pub decimal_more : (n : ℕ) → 10 ≤ n → decimal n ≡ decimal (n / 10) ++ (digit (n % 10) ∷ [])
unfolding decimal numeral
decimal_more n h = rw (le-ltb n 10 h, enough n (suc (n / 10)) (n / 10) (omega arith) (omega arith))

ten_pos : (k : ℕ) → 0 < 10 ^ k
ten_pos zero = omega arith
ten_pos (suc k) = rw (pow-suc 10 k) (let h : 0 < 10 ^ k = ten_pos k in omega arith)

-- a number with as many digits as are written
pub decimal_padded : (k n : ℕ) → 10 ^ k ≤ n → n < 10 ^ suc k → padded (suc k) n ≡ decimal n
decimal_padded zero n h l =
    let small : n < 10 = l in
    let same : n % 10 ≡ n = omega arith in
    rw (decimal_small n small, same)
decimal_padded (suc k) n h l =
    let e : 10 ^ suc k ≡ 10 ^ k * 10 = pow-suc 10 k in
    let f : 10 ^ suc (suc k) ≡ 10 ^ suc k * 10 = pow-suc 10 (suc k) in
    let p : 0 < 10 ^ k = ten_pos k in
    rw (decimal_more n (omega arith), decimal_padded k (n / 10) (omega arith) (omega arith))

-- how many digits a number has
pub decimal_length_le : (k n : ℕ) → n < 10 ^ suc k → length (decimal n) ≤ suc k
decimal_length_le zero n h = let small : n < 10 = h in rw (decimal_small n small) (omega arith)
decimal_length_le (suc k) n h = go (ltb n 10) refl (λ t. decimal_length_le k (n / 10) (shorter t))
  where
    shorter : 10 ≤ n → n / 10 < 10 ^ suc k
    shorter t = let f : 10 ^ suc (suc k) ≡ 10 ^ suc k * 10 = pow-suc 10 (suc k) in omega arith

    go : (b : Bool) → ltb n 10 ≡ b → (10 ≤ n → length (decimal (n / 10)) ≤ suc k) → length (decimal n) ≤ suc (suc k)
    go true e ih = rw (decimal_small n (ltb-true n 10 e)) (omega arith)
    go false e ih = let l : length (decimal (n / 10)) ≤ suc k = ih (ltb-false n 10 e) in rw (decimal_more n (ltb-false n 10 e), length-append) (omega arith)

pub decimal_length_pos : (n : ℕ) → 0 < length (decimal n)
decimal_length_pos n = go (ltb n 10) refl
  where
    go : (b : Bool) → ltb n 10 ≡ b → 0 < length (decimal n)
    go true e = rw (decimal_small n (ltb-true n 10 e)) (omega arith)
    go false e = rw (decimal_more n (ltb-false n 10 e), length-append) (omega arith)

-- the digits of a number of up to four, taken from four with zeros in front
pub three_digits : {ds : List ℕ} (n : ℕ) → ds ≡ padded 4 n → 100 ≤ n → n < 1000 → get_or ds 1 0 ∷ get_or ds 2 0 ∷ get_or ds 3 0 ∷ [] ≡ decimal n
three_digits n e h l = rw e (decimal_padded 2 n h l)

pub four_digits : {ds : List ℕ} (n : ℕ) → ds ≡ padded 4 n → 1000 ≤ n → n < 10000
    → get_or ds 0 0 ∷ get_or ds 1 0 ∷ get_or ds 2 0 ∷ get_or ds 3 0 ∷ [] ≡ decimal n
four_digits n e h l = rw e (decimal_padded 3 n h l)

same_four : {a b c d a' b' c' d' : ℕ} → a ≡ a' → b ≡ b' → c ≡ c' → d ≡ d' → ◌≡◌ {A = List ℕ} (a ∷ b ∷ c ∷ d ∷ []) (a' ∷ b' ∷ c' ∷ d' ∷ [])
same_four p q r s = cc

-- the last four digits do not depend on those before them
padded_rest : (n : ℕ) → padded 4 (n % 10000) ≡ padded 4 n
padded_rest n = same_four (omega arith) (omega arith) (omega arith) (omega arith)

-- the last four digits split off
pub decimal_group : (n : ℕ) → 10000 ≤ n → decimal (n / 10000) ++ padded 4 (n % 10000) ≡ decimal n
decimal_group n h =
    let e : n / 10000 ≡ n / 10 / 10 / 10 / 10 = omega arith in
    rw (
      padded_rest n,
      e,
      decimal_more n (omega arith),
      decimal_more (n / 10) (omega arith),
      decimal_more (n / 10 / 10) (omega arith),
      decimal_more (n / 10 / 10 / 10) (omega arith),
    )
    (simp append_assoc)

pub padded_eight : (n : ℕ) → padded 4 (n / 10000) ++ padded 4 (n % 10000) ≡ padded 8 n
padded_eight n =
    let e : n / 10000 ≡ n / 10 / 10 / 10 / 10 = omega arith in
    rw (padded_rest n, e)

-- the last eight
pub decimal_two_groups : (n : ℕ) → 100_000_000 ≤ n → decimal (n / 100_000_000) ++ padded 8 (n % 100_000_000) ≡ decimal n
decimal_two_groups n h =
    let m = n % 100_000_000 in
    let e : n / 100_000_000 ≡ n / 10000 / 10000 = omega arith in
    let f : m / 10000 ≡ n / 10000 % 10000 = omega arith in
    let g : m % 10000 ≡ n % 10000 = omega arith in
    ap (λ (l : List ℕ). decimal (n / 100_000_000) ++ l) (sym (padded_eight m))
    ∙ rw (e, f, g) (sym (append_assoc (decimal (n / 10000 / 10000)) (padded 4 (n / 10000 % 10000)) (padded 4 (n % 10000))))
    ∙ ap (λ (l : List ℕ). l ++ padded 4 (n % 10000)) (decimal_group (n / 10000) (omega arith))
    ∙ decimal_group n (omega arith)
