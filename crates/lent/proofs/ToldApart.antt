-- The bytes of an answer tell it from every other. Assumes nothing.
use Prim.Native.Nat.{ℕ, ◌/◌, ◌%◌}
use mathlib.Core.Path.{◌≡◌, refl, sym, ◌∙◌, ap}
use mathlib.Core.List.{[], ◌∷◌}
use native.Mathlib.Omega.{arith}
use Rattle.spelling.specs.Spelling.{spelt}
use Rattle.burst.specs.declared.Word.TheVariants.{Nil, Rep, Jam}
use Rattle.answer.specs.declared.Answer.{Answer}
use Rattle.answer.specs.declared.Answer.TheVariants.{Done, Sent, Value, Refused}
use Rattle.lent.specs.Lists.{told_of, read_back}

-- data to AUI and TP1
mask_102 : read_back (told_of (Sent Rep 0x102)) ≡ Sent Rep 0x102
mask_102 = refl

two_bytes : (x : ℕ) → spelt (x % 256 ∷ x / 256 ∷ []) ≡ x
two_bytes x = omega arith

pub read_back_lem : (a : Answer) → read_back (told_of a) ≡ a
read_back_lem Done = refl
read_back_lem (Sent Nil out) = ap (Sent Nil) (two_bytes out)
read_back_lem (Sent Rep out) = ap (Sent Rep) (two_bytes out)
read_back_lem (Sent Jam out) = ap (Sent Jam) (two_bytes out)
read_back_lem (Value v) = ap Value (two_bytes v)
read_back_lem (Refused k) = ap Refused (two_bytes k)

pub told_apart : (a b : Answer) → told_of a ≡ told_of b → a ≡ b
told_apart a b e = sym (read_back_lem a) ∙ ap read_back e ∙ read_back_lem b
