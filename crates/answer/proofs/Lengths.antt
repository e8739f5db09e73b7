-- How long lines are. Assumes nothing.
--   line_length_le, line_length_ge == a line has 5 to 29 bytes, for a record number of 64 bits and a refusal's number of 8
use Prim.Native.Nat.{ℕ, ◌+◌, ◌^◌, ◌≤◌, ◌<◌}
use mathlib.Core.Path.{◌≡◌, refl}
use native.Mathlib.Omega.{arith}
use lib.ListN.{length, length-append}
use Rattle.burst.specs.declared.Word.{Word}
use Rattle.burst.specs.declared.Word.TheVariants.{Nil, Rep, Jam}
use Rattle.answer.specs.declared.Answer.{Answer}
use Rattle.answer.specs.declared.Answer.TheVariants.{Done, Sent, Value, Refused}
use Rattle.answer.specs.Answer.{number_of}
use Rattle.answer.specs.Numerals.{decimal}
use Rattle.answer.specs.Line.{said_of, tail_of, line_of}
use Rattle.answer.proofs.Digits.{decimal_length_le, decimal_length_pos}

sent_length : (w : Word) (m : ℕ) → length (tail_of (Sent w m)) ≡ 9
unfolding tail_of said_of
sent_length Nil m = refl
sent_length Rep m = refl
sent_length Jam m = refl

value_length : (b : ℕ) → length (tail_of (Value b)) ≡ 8
unfolding tail_of said_of
value_length b = refl

refused_length : (k : ℕ) → length (tail_of (Refused k)) ≡ 6 + length (decimal k)
unfolding tail_of said_of
refused_length k = simp length-append (omega arith)

done_length : length (tail_of Done) ≡ 4
unfolding tail_of said_of
done_length = refl

pub tail_length_le : (a : Answer) → number_of a < 256 → length (tail_of a) ≤ 9
tail_length_le Done h = omega (arith, done_length)
tail_length_le (Sent w m) h = omega (arith, sent_length w m)
tail_length_le (Value b) h = omega (arith, value_length b)
tail_length_le (Refused k) h = omega (arith, refused_length k, decimal_length_le 2 k (omega arith))

tail_length_ge : (a : Answer) → 4 ≤ length (tail_of a)
tail_length_ge Done = omega (arith, done_length)
tail_length_ge (Sent w m) = omega (arith, sent_length w m)
tail_length_ge (Value b) = omega (arith, value_length b)
tail_length_ge (Refused k) = omega (arith, refused_length k)

pub line_length_le : (n : ℕ) (a : Answer) → n < 2 ^ 64 → number_of a < 256 → length (line_of n a) ≤ 29
unfolding line_of
line_length_le n a h k =
    rw (length-append (decimal n) (tail_of a)) (omega (arith, decimal_length_le 19 n (omega arith), tail_length_le a k))

pub line_length_ge : (n : ℕ) (a : Answer) → 5 ≤ length (line_of n a)
unfolding line_of
line_length_ge n a = rw (length-append (decimal n) (tail_of a)) (omega (arith, decimal_length_pos n, tail_length_ge a))
