-- What numerals stand for: the decimal one of n is read as n, has no leading zero and consists of decimal digits; the last k hexadecimal
-- digits of v are read as v modulo 16 ^ k. Assumes nothing.
--   decimal_read, decimal_zero, decimal_lead, decimal_digits == the usual decimal numeral
--   hex_read, hex_length == the last k hexadecimal digits
use Prim.Native.Nat.{ℕ, zero, suc, ◌+◌, ◌*◌, ◌-◌, ◌/◌, ◌%◌, ◌^◌, ◌≤◌, ◌<◌}
use mathlib.Core.Path.{◌≡◌, refl, sym, ◌∙◌}
use mathlib.Core.Bool.{Bool, true, false, ◌&&◌, false≢true}
use mathlib.Core.List.{List, [], ◌∷◌, ◌++◌}
use native.Mathlib.Nat.{pow-suc}
use native.Mathlib.Omega.{arith}
use borrow.Author.Tests.{lt-ltb, ltb-true, ltb-false, eqb-true, eqb-false}
use lib.Arith.{mod-mul}
use lib.Dec.{ltb, eqb}
use lib.ListN.{length, length-append, get_or, get_or-append}
use lib.Seq.{get_or-append_seam}
use Rattle.answer.specs.Numerals.{digit, decimal, glyphs, hex, worth, read_behind, read_as}
use Rattle.answer.proofs.Digits.{decimal_small, decimal_more, decimal_length_pos}

-- one digit more
read_more : (b n : ℕ) (cs : List ℕ) (c : ℕ) → read_behind b n (cs ++ (c ∷ [])) ≡ b * read_behind b n cs + worth c
unfolding read_behind
read_more b n [] c = refl
read_more b n (x ∷ cs) c = read_more b (b * n + worth x) cs c

sixteen_pos : (k : ℕ) → 0 < 16 ^ k
sixteen_pos zero = omega arith
sixteen_pos (suc k) = rw (pow-suc 16 k) (let h : 0 < 16 ^ k = sixteen_pos k in omega arith)

worth_digit : (d : ℕ) → d < 10 → worth (digit d) ≡ d
worth_digit d h = rw (lt-ltb (48 + d) 58 (omega arith)) (omega arith)

-- what holds of a number below ten, and of a number if it holds of its tenth part, holds of every number
pub by_tenths : (P : ℕ → Type 0) → ((n : ℕ) → n < 10 → P n) → ((n : ℕ) → 10 ≤ n → P (n / 10) → P n) → (n : ℕ) → P n
by_tenths P small more n = below (suc n) n (omega arith)
  where
    below : (k m : ℕ) → m < k → P m
    below zero m h = absurd (omega arith)
    below (suc k) m h = go (ltb m 10) refl (λ t. below k (m / 10) (omega arith))
      where
        go : (b : Bool) → ltb m 10 ≡ b → (10 ≤ m → P (m / 10)) → P m
        go true e ih = small m (ltb-true m 10 e)
        go false e ih = more m (ltb-false m 10 e) (ih (ltb-false m 10 e))

pub decimal_read : (n : ℕ) → read_as 10 (decimal n) ≡ n
unfolding read_behind
decimal_read = by_tenths (λ n. read_as 10 (decimal n) ≡ n) small more
  where
    small : (n : ℕ) → n < 10 → read_as 10 (decimal n) ≡ n
    small n h = rw (decimal_small n h) (omega (arith, worth_digit n h))

    more : (n : ℕ) → 10 ≤ n → read_as 10 (decimal (n / 10)) ≡ n / 10 → read_as 10 (decimal n) ≡ n
    more n h ih =
        rw (decimal_more n h, read_more 10 0 (decimal (n / 10)) (digit (n % 10)), ih, worth_digit (n % 10) (omega arith)) (omega arith)

pub decimal_zero : decimal 0 ≡ 48 ∷ []
decimal_zero = decimal_small 0 (omega arith)

pub decimal_lead : (n : ℕ) → 0 < n → get_or (decimal n) 0 0 ≡ 48 → ⊥
decimal_lead = by_tenths (λ n. 0 < n → get_or (decimal n) 0 0 ≡ 48 → ⊥) small more
  where
    small : (n : ℕ) → n < 10 → 0 < n → get_or (decimal n) 0 0 ≡ 48 → ⊥
    small n h p e = let f : 48 + n ≡ 48 = rw (decimal_small n h) at e in omega arith

    more : (n : ℕ) → 10 ≤ n → (0 < n / 10 → get_or (decimal (n / 10)) 0 0 ≡ 48 → ⊥) → 0 < n → get_or (decimal n) 0 0 ≡ 48 → ⊥
    more n h ih p e =
        ih (omega arith)
        (sym (get_or-append (decimal (n / 10)) (digit (n % 10) ∷ []) 0 0 (decimal_length_pos (n / 10)))
        ∙ (rw (decimal_more n h) at e))

pub decimal_digits : (n i : ℕ) → i < length (decimal n) → (48 ≤ get_or (decimal n) i 0) × (get_or (decimal n) i 0 ≤ 57)
decimal_digits = by_tenths (λ n. (i : ℕ) → i < length (decimal n) → (48 ≤ get_or (decimal n) i 0) × (get_or (decimal n) i 0 ≤ 57)) small more
  where
    small : (n : ℕ) → n < 10 → (i : ℕ) → i < length (decimal n) → (48 ≤ get_or (decimal n) i 0) × (get_or (decimal n) i 0 ≤ 57)
    small n h zero l = rw (decimal_small n h) (omega arith)
    small n h (suc i) l = let k : suc i < 1 = rw (decimal_small n h) at l in absurd (omega arith)

    more : (n : ℕ) → 10 ≤ n
        → ((i : ℕ) → i < length (decimal (n / 10)) → (48 ≤ get_or (decimal (n / 10)) i 0) × (get_or (decimal (n / 10)) i 0 ≤ 57))
        → (i : ℕ) → i < length (decimal n) → (48 ≤ get_or (decimal n) i 0) × (get_or (decimal n) i 0 ≤ 57)
    more n h ih i l = go (ltb i (length ds)) refl
      where
        ds : List ℕ
        ds = decimal (n / 10)

        last : ℕ
        last = digit (n % 10)

        count : i < length ds + 1
        count = rw (decimal_more n h, length-append ds (last ∷ [])) at l

        go : (b : Bool) → ltb i (length ds) ≡ b → (48 ≤ get_or (decimal n) i 0) × (get_or (decimal n) i 0 ≤ 57)
        go true e = rw (decimal_more n h, get_or-append ds (last ∷ []) 0 i (ltb-true i (length ds) e)) (ih i (ltb-true i (length ds) e))
        go false e =
            let at_end : i ≡ length ds = omega (arith, ltb-false i (length ds) e, count) in
            rw (decimal_more n h, at_end, get_or-append_seam ds last [] 0) (omega arith)

-- a test that holds of every number below k
abbrev pub all_below : ℕ → (ℕ → Bool) → Bool
all_below zero f = true
all_below (suc k) f = f k && all_below k f

pub below_holds : (k : ℕ) (f : ℕ → Bool) → all_below k f ≡ true → (d : ℕ) → d < k → f d ≡ true
below_holds zero f t d h = absurd (omega arith)
below_holds (suc k) f t d h = go (f k) (all_below k f) refl refl t (below_holds k f)
  where
    go : (a b : Bool) → f k ≡ a → all_below k f ≡ b → (a && b) ≡ true → (all_below k f ≡ true → (d : ℕ) → d < k → f d ≡ true) → f d ≡ true
    go true true p q r ih = last (eqb d k) refl
      where
        last : (e : Bool) → eqb d k ≡ e → f d ≡ true
        last true e = rw (eqb-true d k e) p
        last false e = ih q d (omega (arith, eqb-false d k e))
    go true false p q r ih = absurd (false≢true r)
    go false b p q r ih = absurd (false≢true r)

worth_glyph : (d : ℕ) → d < 16 → worth (get_or glyphs d 0) ≡ d
worth_glyph d h = eqb-true (worth (get_or glyphs d 0)) d (below_holds 16 (λ d. eqb (worth (get_or glyphs d 0)) d) refl d h)

pub hex_read : (k v : ℕ) → read_as 16 (hex k v) ≡ v % 16 ^ k
unfolding read_behind
hex_read zero v = omega arith
hex_read (suc k) v =
    rw (
      read_more 16 0 (hex k (v / 16)) (get_or glyphs (v % 16) 0),
      hex_read k (v / 16),
      worth_glyph (v % 16) (omega arith),
      pow-suc 16 k,
      mod-mul v {m = 16 ^ k} {c = 16} (sixteen_pos k) (omega arith),
    )
    (omega arith)

pub hex_length : (k v : ℕ) → length (hex k v) ≡ k
hex_length zero v = refl
hex_length (suc k) v = rw (length-append (hex k (v / 16)) (get_or glyphs (v % 16) 0 ∷ []), hex_length k (v / 16)) (omega arith)
