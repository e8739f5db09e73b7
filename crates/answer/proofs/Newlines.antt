-- Every answer is one line: the bytes of a line have one newline, and it is the last. Assumes nothing.
--   line_ends   == a line ends with its newline
--   line_newlines, lines_newlines == one newline for each answer
use Prim.Native.Nat.{ℕ, zero, suc, ◌+◌, ◌/◌, ◌%◌, ◌≤◌, ◌<◌}
use mathlib.Core.Path.{◌≡◌, refl, sym}
use mathlib.Core.Bool.{not}
use mathlib.Core.List.{List, [], ◌∷◌, ◌++◌, append_assoc}
use native.Mathlib.Omega.{arith}
use borrow.Author.Tests.{ne_eqb, not-true}
use lib.Dec.{eqb}
use lib.ListN.{length, get_or}
use Rattle.burst.specs.declared.Word.{Word}
use Rattle.burst.specs.declared.Word.TheVariants.{Nil, Rep, Jam}
use Rattle.answer.specs.declared.Answer.{Answer}
use Rattle.answer.specs.declared.Answer.TheVariants.{Done, Sent, Value, Refused}
use Rattle.answer.specs.Numerals.{digit, decimal, glyphs, hex}
use Rattle.answer.specs.Line.{space, newline, named, said_of, tail_of, line_of, lines_of, newlines}
use Rattle.answer.proofs.Digits.{decimal_small, decimal_more}
use Rattle.answer.proofs.Numerals.{by_tenths, below_holds}

newlines_append : (xs ys : List ℕ) → newlines (xs ++ ys) ≡ newlines xs + newlines ys
unfolding newlines
newlines_append [] ys = omega arith
newlines_append (x ∷ xs) ys = rw (newlines_append xs ys) (omega arith)

digit_none : (d : ℕ) → newlines (digit d ∷ []) ≡ 0
unfolding newlines
digit_none d = rw (ne_eqb (48 + d) 10 (λ e. omega arith))

pub decimal_none : (n : ℕ) → newlines (decimal n) ≡ 0
decimal_none = by_tenths (λ n. newlines (decimal n) ≡ 0) small more
  where
    small : (n : ℕ) → n < 10 → newlines (decimal n) ≡ 0
    small n h = rw (decimal_small n h) (digit_none n)

    more : (n : ℕ) → 10 ≤ n → newlines (decimal (n / 10)) ≡ 0 → newlines (decimal n) ≡ 0
    more n h ih = rw (decimal_more n h, newlines_append (decimal (n / 10)) (digit (n % 10) ∷ []), ih, digit_none (n % 10))

glyph_none : (d : ℕ) → d < 16 → newlines (get_or glyphs d 0 ∷ []) ≡ 0
unfolding newlines
glyph_none d h = rw (not-true (eqb (get_or glyphs d 0) 10) (below_holds 16 (λ d. not (eqb (get_or glyphs d 0) 10)) refl d h))

hex_none : (k v : ℕ) → newlines (hex k v) ≡ 0
unfolding newlines
hex_none zero v = refl
hex_none (suc k) v =
    rw (newlines_append (hex k (v / 16)) (get_or glyphs (v % 16) 0 ∷ []), hex_none k (v / 16), glyph_none (v % 16) (omega arith))

-- a word, a space and what stands behind it
pub said_none : (word bs : List ℕ) → newlines word ≡ 0 → newlines bs ≡ 0 → newlines (word ++ space ∷ bs) ≡ 0
unfolding newlines
said_none word bs p q = rw (newlines_append word (space ∷ bs), p, q)

named_none : (w : Word) → newlines (named w) ≡ 0
unfolding newlines
named_none Nil = refl
named_none Rep = refl
named_none Jam = refl

pub said_has_none : (a : Answer) → newlines (said_of a) ≡ 0
unfolding newlines said_of
said_has_none Done = refl
said_has_none (Sent w m) = said_none (named w) (hex 3 m) (named_none w) (hex_none 3 m)
said_has_none (Value b) = omega (arith, hex_none 2 b)
said_has_none (Refused k) = rw (decimal_none k)

pub line_ends : (n : ℕ) (a : Answer) → line_of n a ≡ (decimal n ++ space ∷ said_of a) ++ (newline ∷ [])
unfolding tail_of line_of
line_ends n a = sym (append_assoc (decimal n) (space ∷ said_of a) (newline ∷ []))

pub line_newlines : (n : ℕ) (a : Answer) → newlines (line_of n a) ≡ 1
unfolding newlines
line_newlines n a =
    rw (line_ends n a, newlines_append (decimal n ++ space ∷ said_of a) (newline ∷ []), said_none (decimal n) (said_of a) (decimal_none n) (said_has_none a))

pub lines_newlines : (n : ℕ) (xs : List Answer) → newlines (lines_of n xs) ≡ length xs
unfolding newlines lines_of
lines_newlines n [] = refl
lines_newlines n (a ∷ xs) =
    rw (newlines_append (line_of n a) (lines_of (n + 1) xs), line_newlines n a, lines_newlines (n + 1) xs) (omega arith)
