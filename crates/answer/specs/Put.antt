-- A line in a buffer. No section of document 01: it is what the code's contracts cite.
-- Settles when there is room for a line, what the buffer holds afterwards, and the place behind the line.
--   room, longest_line      == the bytes that have to be left for a line, and those that the longest has
--   has_room old at         == that many are left from the place at on
--   laid old at bs         == the buffer with bs at that place, and everything else as it was
--   after_line, with_line    == the place behind the line, and the buffer with the line; both as they were without room
--   WrittenLine            == what `put_line` does
--   Put old at bs new r    == bs were stored at that place, and r is the place behind them: what the functions below `put_line` do
--   PutWhereFits           == the same where they fit behind that place; nothing is stored where they do not, and r is that place: what `put_mask` does
--   OnePut                 == two outcomes that it allows are the same
--   padded k v             == the last k decimal digits of v, zeros in front
-- Assumes nothing.
use Rattle.std.specs.Prelude.{ℕ, zero, suc, ◌+◌, ◌-◌, ◌/◌, ◌%◌, ◌≤◌, ◌<◌, ◌≡◌, Bool, cond, ◌&&◌, List, [], ◌∷◌, ◌++◌, leb, length, take, drop}
use Rattle.std.proofs.lemmas.List.Edits.{sets}
use Rattle.answer.specs.declared.Answer.{Answer}
use Rattle.answer.specs.Numerals.{digit}
use Rattle.answer.specs.Line.{line_of}

-- the bytes that have to be left where a line is put; no line has as many
abbrev pub room : ℕ
room = 32

-- the longest line: the number of a record in 64 bits, and a refusal's in 8
abbrev pub longest_line : ℕ
longest_line = 29

unfoldable pub has_room : List ℕ → ℕ → Bool
has_room old at = leb at (length old) && leb room (length old - at)

unfoldable pub laid : List ℕ → ℕ → List ℕ → List ℕ
laid old at bs = take at old ++ bs ++ drop (at + length bs) old

unfoldable pub after_line : List ℕ → ℕ → ℕ → Answer → ℕ
after_line old at n a = cond (has_room old at) (at + length (line_of n a)) at

unfoldable pub with_line : List ℕ → ℕ → ℕ → Answer → List ℕ
with_line old at n a = cond (has_room old at) (laid old at (line_of n a)) old

-- `short` follows from `next` where the record's number has 64 bits and a refusal's number 8, as in the code: here a caller has it at once
pub record WrittenLine (old : List ℕ) (at n : ℕ) (a : Answer) (new : List ℕ) (r : ℕ) : Type 0 where
  pub next : r ≡ after_line old at n a
  pub bytes : new ≡ with_line old at n a
  pub short : r ≤ at + longest_line

pub record Put (old : List ℕ) (at : ℕ) (bs new : List ℕ) (r : ℕ) : Type 0 where
  pub next : r ≡ at + length bs
  pub bytes : new ≡ sets old at bs

pub record PutWhereFits (old : List ℕ) (at : ℕ) (bs new : List ℕ) (r : ℕ) : Type 0 where
  pub fits : at + length bs ≤ length old → Put old at bs new r
  pub full : length old < at + length bs → (new ≡ old) × (r ≡ at)

abbrev pub OnePut : Type 0
OnePut =
    (old bs : List ℕ) (at : ℕ) (x y : List ℕ) (r s : ℕ) → PutWhereFits old at bs x r → PutWhereFits old at bs y s → (x ≡ y) × (r ≡ s)

abbrev pub padded : ℕ → ℕ → List ℕ
padded zero v = []
padded (suc k) v = padded k (v / 10) ++ (digit (v % 10) ∷ [])
