-- The bytes that must be zero, as the code asks for them: by a bitwise or of a burst's bytes, and of the words of the others.
--     or_zero                               a bitwise or is zero exactly if both numbers are
--     stray_burst, -pulse, -write, -bare    row 8's condition for a burst, a pulse, a C write and a tick
-- Assumes nothing.
use Prim.Native.Nat.{ℕ, ◌+◌}
use mathlib.Core.Path.{◌≡◌, refl, sym, ap, ◌∙◌}
use mathlib.Core.List.{List, [], ◌∷◌, ◌++◌}
use mathlib.Core.Bool.{Bool, true, false, ◌&&◌, ◌||◌, not, or_comm, or-false}
use native.Mathlib.Omega.{arith}
use lib.Bits.{bit_or, or_add_and, and_le_l, and_le_r}
use lib.Dec.{eqb}
use borrow.Author.Tests.{ne_eqb, eqb-true, eqb-false}
use Rattle.spelling.specs.Spelling.{spelt}
use Rattle.record.specs.Record.{byte_at, bytes_from, bit_above, last_flag, find, used, unused, all_zero, stray}
use Rattle.record.specs.Record.{burst_kind, pulse_kind, tick_kind, c_write_kind}
use Rattle.record.specs.Records.{from}
use Rattle.record.proofs.Numbers.{same_zero}

-- the sum of the bytes at these places
unfoldable total : List ℕ → List ℕ → ℕ
total s [] = 0
total s (i ∷ is) = byte_at s i + total s is

both_zero : (a b : ℕ) → (eqb a 0 && eqb b 0) ≡ eqb (a + b) 0
both_zero a b = go (eqb a 0) refl
  where
    go : (t : Bool) → eqb a 0 ≡ t → (t && eqb b 0) ≡ eqb (a + b) 0
    go true e = let h = eqb-true a 0 e in same_zero b (a + b) (λ k. omega arith) (λ k. omega arith)
    go false e = sym (ne_eqb (a + b) 0 (λ k. eqb-false a 0 e (omega arith)))

zero_total : (s is : List ℕ) → all_zero s is ≡ eqb (total s is) 0
unfolding all_zero total
zero_total s [] = refl
zero_total s (i ∷ is) =
    ap (λ (t : Bool). eqb (byte_at s i) 0 && t) (zero_total s is) ∙ both_zero (byte_at s i) (total s is)

-- where all of the flag byte must be zero, its high bits say nothing new
no_flags : (s is : List ℕ) → (not (all_zero s (1 ∷ is)) || bit_above last_flag (byte_at s 1)) ≡ not (all_zero s (1 ∷ is))
unfolding all_zero
no_flags s is = go (eqb (byte_at s 1) 0) refl
  where
    go : (t : Bool) → eqb (byte_at s 1) 0 ≡ t → (not (t && all_zero s is) || bit_above last_flag (byte_at s 1)) ≡ not (t && all_zero s is)
    go true e = simp (eqb-true (byte_at s 1) 0 e) (or-false (not (all_zero s is)))
    go false e = refl

-- a bitwise or is zero exactly if both numbers are
or_zero : (a b : ℕ) → eqb (bit_or a b) 0 ≡ (eqb a 0 && eqb b 0)
or_zero a b =
    same_zero (bit_or a b) (a + b) (λ h. omega (arith, or_add_and a b, and_le_l a b, and_le_r a b)) (λ h. omega (arith, or_add_and a b))
    ∙ sym (both_zero a b)

or_five : (a b c d e : ℕ) → eqb (bit_or (bit_or (bit_or (bit_or a b) c) d) e) 0 ≡ eqb (a + b + c + d + e) 0
or_five a b c d e = simp (or_zero, both_zero)

abbrev or_of_six : ℕ → ℕ → ℕ → ℕ → ℕ → ℕ → ℕ
or_of_six a b c d e f = bit_or (bit_or (bit_or (bit_or (bit_or a b) c) d) e) f

or_total : (p q a b c d e f : ℕ) → eqb (bit_or (bit_or p q) (or_of_six a b c d e f)) 0 ≡ eqb (p + q + (a + b + c + d + e + f)) 0
or_total p q a b c d e f = simp (or_zero, both_zero)

-- the word of four bytes at place i
abbrev word_at : List ℕ → ℕ → ℕ
word_at s i = spelt (bytes_from s i 3)

-- the first word and the fourth, p and q, with the six others that are zero in every kind but a burst
abbrev words : List ℕ → ℕ → ℕ → ℕ
words s p q = bit_or (bit_or p q) (or_of_six (word_at s 4) (word_at s 8) (word_at s 16) (word_at s 20) (word_at s 24) (word_at s 28))

abbrev word_sum : List ℕ → ℕ → ℕ → ℕ
word_sum s p q = p + q + (word_at s 4 + word_at s 8 + word_at s 16 + word_at s 20 + word_at s 24 + word_at s 28)

-- row 8 by words: their bitwise or is zero exactly if the sum of the bytes is
by_words : (s is : List ℕ) (p q : ℕ) → (total s (1 ∷ is) ≡ 0 → word_sum s p q ≡ 0) → (word_sum s p q ≡ 0 → total s (1 ∷ is) ≡ 0)
    → (not (all_zero s (1 ∷ is)) || bit_above last_flag (byte_at s 1)) ≡ not (eqb (words s p q) 0)
by_words s is p q f g =
    no_flags s is
    ∙ ap not
    (zero_total s (1 ∷ is)
    ∙ same_zero (total s (1 ∷ is)) (word_sum s p q) f g
    ∙ sym (or_total p q (word_at s 4) (word_at s 8) (word_at s 16) (word_at s 20) (word_at s 24) (word_at s 28)))

abbrev burst_or : List ℕ → ℕ
burst_or s = bit_or (bit_or (bit_or (bit_or (byte_at s 13) (byte_at s 14)) (byte_at s 15)) (byte_at s 30)) (byte_at s 31)

-- the parts of the first and of the fourth word that must be zero
abbrev pulse_first : List ℕ → ℕ
pulse_first s = spelt (0 ∷ byte_at s 1 ∷ 0 ∷ 0 ∷ [])

abbrev other_first : List ℕ → ℕ
other_first s = spelt (0 ∷ byte_at s 1 ∷ byte_at s 2 ∷ byte_at s 3 ∷ [])

abbrev write_fourth : List ℕ → ℕ
write_fourth s = spelt (byte_at s 12 ∷ 0 ∷ byte_at s 14 ∷ byte_at s 15 ∷ [])

module _ (s : List ℕ) where
  pub stray_burst : stray burst_kind s ≡ (bit_above last_flag (byte_at s 1) || not (eqb (burst_or s) 0))
  unfolding stray find unused used total
  stray_burst =
      let places : List ℕ = 13 ∷ 14 ∷ 15 ∷ 30 ∷ 31 ∷ [] in
      let sum : ℕ = byte_at s 13 + byte_at s 14 + byte_at s 15 + byte_at s 30 + byte_at s 31 in
      or_comm (not (all_zero s places)) (bit_above last_flag (byte_at s 1))
      ∙ ap (λ (t : Bool). bit_above last_flag (byte_at s 1) || not t)
      (zero_total s places
      ∙ same_zero (total s places) sum (λ h. omega arith) (λ h. omega arith)
      ∙ sym (or_five (byte_at s 13) (byte_at s 14) (byte_at s 15) (byte_at s 30) (byte_at s 31)))

  pub stray_pulse : stray pulse_kind s ≡ not (eqb (words s (pulse_first s) (word_at s 12)) 0)
  unfolding stray find unused used bytes_from total
  stray_pulse = by_words s (from 4 28) (pulse_first s) (word_at s 12) (λ h. omega arith) (λ h. omega arith)

  pub stray_write : stray c_write_kind s ≡ not (eqb (words s (other_first s) (write_fourth s)) 0)
  unfolding stray find unused used bytes_from total
  stray_write = by_words s (from 2 11 ++ from 14 18) (other_first s) (write_fourth s) (λ h. omega arith) (λ h. omega arith)

  pub stray_bare : stray tick_kind s ≡ not (eqb (words s (other_first s) (word_at s 12)) 0)
  unfolding stray find unused used bytes_from total
  stray_bare = by_words s (from 2 30) (other_first s) (word_at s 12) (λ h. omega arith) (λ h. omega arith)
