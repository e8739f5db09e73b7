-- The printed lines tell the answers apart, and tell nothing else. Assumes nothing.
--   apart, alike == two lists of answers with different lines, and two with the same lines, computed
--   cut_at       == what stands before the first newline, and what stands behind it
--   told_said    == the answer is read back from a word and what stands behind it
--   shown_said   == nothing is said of an answer but what is shown of it
--   lines_tell   == so do the lines of a list of answers
use Prim.Native.Nat.{ℕ, suc, ◌+◌, ◌/◌, ◌%◌}
use mathlib.Core.Path.{◌≡◌, refl, ap, sym, ◌∙◌}
use mathlib.Core.Bool.{cond}
use mathlib.Core.List.{List, [], ◌∷◌, ◌++◌, map, append_assoc}
use native.Mathlib.Omega.{arith}
use lib.Dec.{eqb}
use lib.ListN.{length, get_or, drop}
use Rattle.burst.specs.declared.Word.{Word}
use Rattle.burst.specs.declared.Word.TheVariants.{Nil, Rep, Jam}
use Rattle.answer.specs.declared.Answer.{Answer}
use Rattle.answer.specs.declared.Answer.TheVariants.{Done, Sent, Value, Refused}
use Rattle.answer.specs.Text.{ascii}
use Rattle.answer.specs.Numerals.{numeral, decimal, hex, read_as}
use Rattle.answer.specs.Line.{space, newline, named, said_of, tail_of, line_of, lines_of, newlines, shown_of, LinesTell}
use Rattle.answer.proofs.Numerals.{decimal_read, hex_read}
use Rattle.answer.proofs.Newlines.{said_none, decimal_none, said_has_none, line_ends, lines_newlines}

-- INSTANCES

-- a byte that differs in its first digit, and a mask that goes with jam or with data: all of both is shown
apart : (lines_of 7 (Value 0x12 ∷ Sent Jam 0x103 ∷ []) ≡ ascii "7 val 12\n8 jam 103\n")
    × (lines_of 7 (Value 0x22 ∷ Sent Rep 0x103 ∷ []) ≡ ascii "7 val 22\n8 rep 103\n")
    × (map shown_of (Value 0x12 ∷ Sent Jam 0x103 ∷ []) ≡ Value 0x12 ∷ Sent Jam 0x103 ∷ [])
    × (map shown_of (Value 0x22 ∷ Sent Rep 0x103 ∷ []) ≡ Value 0x22 ∷ Sent Rep 0x103 ∷ [])
unfolding numeral decimal said_of tail_of line_of lines_of
apart = (refl, refl, refl, refl)

-- masks that differ above twelve bits show the same
alike : (lines_of 7 (Sent Rep 0x1def ∷ []) ≡ lines_of 7 (Sent Rep 0xdef ∷ [])) × (map shown_of (Sent Rep 0x1def ∷ []) ≡ map shown_of (Sent Rep 0xdef ∷ []))
unfolding numeral decimal said_of tail_of line_of lines_of
alike = (refl, refl)

-- ONE LINE

cut_at : (xs ys r s : List ℕ) → newlines xs ≡ 0 → newlines ys ≡ 0 → xs ++ newline ∷ r ≡ ys ++ newline ∷ s → (xs ≡ ys) × (r ≡ s)
unfolding newlines
cut_at [] [] r s p q e = (refl, cc)
cut_at [] (y ∷ ys) r s p q e = let h : y ≡ newline = cc in let k : 1 + newlines ys ≡ 0 = rw h at q in absurd (omega arith)
cut_at (x ∷ xs) [] r s p q e = let h : x ≡ newline = cc in let k : 1 + newlines xs ≡ 0 = rw h at p in absurd (omega arith)
cut_at (x ∷ xs) (y ∷ ys) r s p q e =
    let h : x ≡ y = cc in
    let t : xs ++ newline ∷ r ≡ ys ++ newline ∷ s = cc in
    let k = cut_at xs ys r s (omega arith) (omega arith) t in
    let u : xs ≡ ys = k.0 in
    (cc, k.1)

cancel : (xs ys zs : List ℕ) → xs ++ ys ≡ xs ++ zs → ys ≡ zs
cancel [] ys zs e = e
cancel (x ∷ xs) ys zs e = let t : xs ++ ys ≡ xs ++ zs = cc in cancel xs ys zs t

-- An answer read back from a word and what stands behind it: the first letter tells the words apart, and the third one rep from ref.
abbrev word_told : ℕ → Word
word_told c = cond (eqb c 110) Nil (cond (eqb c 106) Jam Rep)

abbrev told : List ℕ → Answer
told cs =
    cond (eqb (get_or cs 0 0) 111) Done
    (cond (eqb (get_or cs 0 0) 118) (Value (read_as 16 (drop 4 cs)))
    (cond (eqb (get_or cs 2 0) 102) (Refused (read_as 10 (drop 4 cs)))
    (Sent (word_told (get_or cs 0 0)) (read_as 16 (drop 4 cs)))))

told_said : (a : Answer) → told (said_of a) ≡ shown_of a
unfolding said_of
told_said Done = refl
told_said (Sent Nil m) = ap (λ (k : ℕ). Sent Nil k) (hex_read 3 m)
told_said (Sent Rep m) = ap (λ (k : ℕ). Sent Rep k) (hex_read 3 m)
told_said (Sent Jam m) = ap (λ (k : ℕ). Sent Jam k) (hex_read 3 m)
told_said (Value v) = ap (λ (k : ℕ). Value k) (hex_read 2 v)
told_said (Refused k) = ap (λ (n : ℕ). Refused n) (decimal_read k)

said_tells : (a b : Answer) → said_of a ≡ said_of b → shown_of a ≡ shown_of b
said_tells a b e = sym (told_said a) ∙ ap told e ∙ told_said b

-- what is not shown is not said
three_digits : (m : ℕ) → hex 3 m ≡ hex 3 (m % 4096)
three_digits m =
    let h : m / 16 / 16 % 16 ≡ m % 4096 / 16 / 16 % 16 = omega arith in
    let k : m / 16 % 16 ≡ m % 4096 / 16 % 16 = omega arith in
    let l : m % 16 ≡ m % 4096 % 16 = omega arith in
    rw (h, k, l)

two_digits : (v : ℕ) → hex 2 v ≡ hex 2 (v % 256)
two_digits v =
    let k : v / 16 % 16 ≡ v % 256 / 16 % 16 = omega arith in
    let l : v % 16 ≡ v % 256 % 16 = omega arith in
    rw (k, l)

shown_said : (a : Answer) → said_of a ≡ said_of (shown_of a)
unfolding said_of
shown_said Done = refl
shown_said (Sent w m) = ap (λ (cs : List ℕ). named w ++ space ∷ cs) (three_digits m)
shown_said (Value v) = ap (λ (cs : List ℕ). ascii "val" ++ space ∷ cs) (two_digits v)
shown_said (Refused k) = refl

-- LISTS

-- the first line, and those behind it
parted : (n : ℕ) (a : Answer) (more : List Answer) → lines_of n (a ∷ more) ≡ (decimal n ++ space ∷ said_of a) ++ newline ∷ lines_of (n + 1) more
unfolding lines_of
parted n a more = rw (line_ends n a) (append_assoc (decimal n ++ space ∷ said_of a) (newline ∷ []) (lines_of (n + 1) more))

number_none : (n : ℕ) (a : Answer) → newlines (decimal n ++ space ∷ said_of a) ≡ 0
number_none n a = said_none (decimal n) (said_of a) (decimal_none n) (said_has_none a)

apart_by_lines : (n : ℕ) (these those : List Answer) → lines_of n these ≡ lines_of n those → map shown_of these ≡ map shown_of those
apart_by_lines n [] [] e = refl
apart_by_lines n [] (b ∷ those) e =
    let h : 0 ≡ suc (length those) = sym (lines_newlines n []) ∙ ap newlines e ∙ lines_newlines n (b ∷ those) in absurd (omega arith)
apart_by_lines n (a ∷ these) [] e =
    let h : suc (length these) ≡ 0 = sym (lines_newlines n (a ∷ these)) ∙ ap newlines e ∙ lines_newlines n [] in absurd (omega arith)
apart_by_lines n (a ∷ these) (b ∷ those) e =
    let k =
    cut_at (decimal n ++ space ∷ said_of a) (decimal n ++ space ∷ said_of b) (lines_of (n + 1) these) (lines_of (n + 1) those) (number_none n a)
    (number_none n b) (sym (parted n a these) ∙ e ∙ parted n b those) in
    let t : space ∷ said_of a ≡ space ∷ said_of b = cancel (decimal n) (space ∷ said_of a) (space ∷ said_of b) k.0 in
    let s : said_of a ≡ said_of b = cc in
    let u : shown_of a ≡ shown_of b = said_tells a b s in
    let v : map shown_of these ≡ map shown_of those = apart_by_lines (n + 1) these those k.1 in
    cc

lines_shown : (n : ℕ) (these : List Answer) → lines_of n these ≡ lines_of n (map shown_of these)
unfolding lines_of line_of tail_of
lines_shown n [] = refl
lines_shown n (a ∷ these) = rw (← shown_said a, ← lines_shown (n + 1) these)

pub lines_tell : LinesTell
lines_tell n these those =
    (apart_by_lines n these those, λ e. lines_shown n these ∙ ap (lines_of n) e ∙ sym (lines_shown n those))
