-- Document 01, the end of 'Boundary sheet': the ten lines of its sample, and more lines and buffers, computed. The answers of the sample
-- are those that document 01's records get: that they get them is no matter of this crate. Assumes nothing.
use Prim.Native.Nat.{◌+◌, ◌-◌, ◌^◌}
use mathlib.Core.Path.{◌≡◌, refl}
use mathlib.Core.Bool.{true}
use mathlib.Core.List.{List, [], ◌∷◌, ◌++◌}
use native.Mathlib.Omega.{arith}
use lib.ListN.{length, get_or, replicate, take}
use Rattle.burst.specs.declared.Word.TheVariants.{Nil, Rep, Jam}
use Rattle.answer.specs.declared.Answer.{Answer}
use Rattle.answer.specs.declared.Answer.TheVariants.{Done, Sent, Value, Refused}
use Rattle.answer.specs.Answer.{number_of, outputs_of, byte_of}
use Rattle.answer.specs.Text.{ascii}
use Rattle.answer.specs.Numerals.{numeral, decimal, hex, read_behind, read_as}
use Rattle.answer.specs.Line.{said_of, tail_of, line_of, lines_of, newlines}
use Rattle.answer.specs.Put.{WrittenLine, has_room, laid, after_line, with_line}

pub answers : List Answer
answers = Done ∷ Done ∷ Done ∷ Done ∷ Sent Rep 0x102 ∷ Done ∷ Done ∷ Value 0x01 ∷ Sent Jam 0x103 ∷ Refused 8 ∷ []

pub sample : lines_of 1 answers ≡ ascii "1 ok\n2 ok\n3 ok\n4 ok\n5 rep 102\n6 ok\n7 ok\n8 val 01\n9 jam 103\n10 ref 8\n"
unfolding numeral decimal said_of tail_of line_of lines_of answers
sample = refl

-- THE EDGES OF A LINE

-- letters are in lower case
pub letters : line_of 11 (Sent Nil 0xabc) ≡ ascii "11 nil abc\n"
unfolding numeral decimal said_of tail_of line_of
letters = refl

-- zeros in front of a mask and a byte stay
pub zeros : line_of 13 (Sent Nil 0) ≡ ascii "13 nil 000\n"
unfolding numeral decimal said_of tail_of line_of
zeros = refl

-- a mask of more than twelve bits is cut
pub cut : line_of 14 (Sent Rep 0x1def) ≡ ascii "14 rep def\n"
unfolding numeral decimal said_of tail_of line_of
cut = refl

-- a byte has two digits
pub bytes : line_of 99 (Value 0x0f) ≡ ascii "99 val 0f\n"
unfolding numeral decimal said_of tail_of line_of
bytes = refl

-- a refusal's number is in decimal
pub refused : line_of 100 (Refused 10) ≡ ascii "100 ref 10\n"
unfolding numeral decimal said_of tail_of line_of
refused = refl

-- the shortest line, and below it the longest
pub shortest : line_of 0 Done ≡ ascii "0 ok\n"
unfolding numeral decimal said_of tail_of line_of
shortest = refl

pub longest : line_of (2 ^ 64 - 1) (Refused 255) ≡ ascii "18446744073709551615 ref 255\n"
unfolding numeral decimal said_of tail_of line_of
longest = refl

pub lengths : (length (line_of 0 Done) ≡ 5) × (length (line_of (2 ^ 64 - 1) (Refused 255)) ≡ 29)
unfolding numeral decimal said_of tail_of line_of
lengths = (refl, refl)

-- the sample is read back: no numeral begins with a zero, and there are as many lines as answers
pub read_back_lem : (read_as 10 (decimal 1234567) ≡ 1234567) × (read_as 16 (hex 3 0x10fa) ≡ 0xfa)
    × (get_or (decimal 1000) 0 0 ≡ 49) × (newlines (lines_of 1 answers) ≡ 10)
unfolding numeral decimal read_behind said_of tail_of line_of lines_of newlines answers
read_back_lem = (refl, refl, refl, refl)

-- a refusal has its number, no output ports and value 0
pub refusal : (number_of (Refused 8) ≡ 8) × (outputs_of (Refused 8) ≡ 0) × (byte_of (Refused 8) ≡ 0)
refusal = (refl, refl, refl)

-- BUFFERS

-- a line behind a line, with 35 bytes left: the bytes behind it stay
pub put_behind : WrittenLine (ascii "1 ok\n" ++ replicate 35 46) 5 2 (Refused 8) (ascii "1 ok\n2 ref 8\n" ++ replicate 27 46) 13
unfolding numeral decimal said_of tail_of line_of has_room laid after_line with_line
put_behind = record { next = refl; bytes = refl; short = omega arith }

-- what `behind` of Lines asks and says, at that line
pub behind_at : (has_room (ascii "1 ok\n" ++ replicate 35 46) 5 ≡ true)
    × (take 5 (ascii "1 ok\n" ++ replicate 35 46) ≡ lines_of 1 (Done ∷ []))
    × (take 13 (ascii "1 ok\n2 ref 8\n" ++ replicate 27 46) ≡ lines_of 1 (Done ∷ Refused 8 ∷ []))
unfolding numeral decimal said_of tail_of line_of lines_of has_room
behind_at = (refl, refl, refl)

-- with 32 bytes left there is room, with 31 there is none, and none past the end
pub just_room : WrittenLine (replicate 32 46) 0 1 Done (ascii "1 ok\n" ++ replicate 27 46) 5
unfolding numeral decimal said_of tail_of line_of has_room laid after_line with_line
just_room = record { next = refl; bytes = refl; short = omega arith }

pub just_no_room : WrittenLine (replicate 31 46) 0 1 Done (replicate 31 46) 0
unfolding has_room after_line with_line
just_no_room = record { next = refl; bytes = refl; short = omega arith }

pub past : WrittenLine (replicate 40 46) 41 1 Done (replicate 40 46) 41
unfolding has_room after_line with_line
past = record { next = refl; bytes = refl; short = omega arith }
