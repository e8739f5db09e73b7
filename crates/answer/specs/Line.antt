-- Document 01, the end of 'Boundary sheet': the line that the run program prints for a record, as the bytes that it consists of.
-- Settles the line: the record's number in decimal, a space, the word, for a burst a space and its output mask in three lower-case
-- hexadecimal digits, for a read a space and the byte in two, for a refusal a space and its number in decimal, and a newline. A mask
-- is printed modulo 4096: one of nine ports is below that.
--   named w    == the word of a burst
--   said_of a   == the word of an answer, and what stands behind it
--   tail_of a   == the line from the space behind the number on
--   line_of n a == the line of record n
--   lines_of n answers == the lines of answers, one after the other, the first one that of record n
--   newlines cs == how many newlines there are among bytes
--   shown_of a  == what a line shows of an answer: its mask modulo 4096, its byte modulo 256, and all else
--   LinesTell  == the lines of two lists of answers are the same exactly if they show the same answers
-- Assumes nothing.
use Rattle.std.specs.Prelude.{ℕ, ◌+◌, ◌%◌, ◌≡◌, cond, List, [], ◌∷◌, ◌++◌, map, eqb}
use Rattle.burst.specs.declared.Word.{Word}
use Rattle.burst.specs.declared.Word.TheVariants.{Nil, Rep, Jam}
use Rattle.answer.specs.declared.Answer.{Answer}
use Rattle.answer.specs.declared.Answer.TheVariants.{Done, Sent, Value, Refused}
use Rattle.answer.specs.Text.{ascii}
use Rattle.answer.specs.Numerals.{decimal, hex}

abbrev pub space : ℕ
space = 32

abbrev pub newline : ℕ
newline = 10

abbrev pub named : Word → List ℕ
named Nil = ascii "nil"
named Rep = ascii "rep"
named Jam = ascii "jam"

unfoldable pub said_of : Answer → List ℕ
said_of Done = ascii "ok"
said_of (Sent word mask) = named word ++ space ∷ hex 3 mask
said_of (Value byte) = ascii "val" ++ space ∷ hex 2 byte
said_of (Refused number) = ascii "ref" ++ space ∷ decimal number

unfoldable pub tail_of : Answer → List ℕ
tail_of a = space ∷ said_of a ++ (newline ∷ [])

unfoldable pub line_of : ℕ → Answer → List ℕ
line_of n a = decimal n ++ tail_of a

unfoldable pub lines_of : ℕ → List Answer → List ℕ
lines_of n [] = []
lines_of n (a ∷ rest) = line_of n a ++ lines_of (n + 1) rest

unfoldable pub newlines : List ℕ → ℕ
newlines [] = 0
newlines (c ∷ cs) = cond (eqb c newline) 1 0 + newlines cs

abbrev pub shown_of : Answer → Answer
shown_of Done = Done
shown_of (Sent word mask) = Sent word (mask % 4096)
shown_of (Value byte) = Value (byte % 256)
shown_of (Refused number) = Refused number

abbrev pub LinesTell : Type 0
LinesTell =
    (n : ℕ) (these those : List Answer)
    → (lines_of n these ≡ lines_of n those → map shown_of these ≡ map shown_of those)
    × (map shown_of these ≡ map shown_of those → lines_of n these ≡ lines_of n those)
