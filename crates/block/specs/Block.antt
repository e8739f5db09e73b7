-- Document 01, the run program: the whole records of a stretch of input, answered one after the other, and their lines in a lent buffer. A record is
-- answered only where there is room for its line. A buffer at least as long as the input has room for all, since no line is longer than a record.
--   Work            == how far it has come: where the run stands, the next record's number, input taken, output used, and the buffer
--   standing ..     == a run stands at this chip as it is kept, and this host's record
--   came_to b out    == how far it has come as `answer_block` returns it, with the buffer out
--   piece s at      == the record at the place at
--   told w h        == after a record that h happened to
--   after_record s w == after one record more of the input s
--   worked k s w    == after at most k records more, as long as there is room
--   block_of ..      == after the whole records of the input
--   Answered        == what `answer_block` does; `all`: where the buffer is as long as the input, no whole record is left
--   AnsweredPiece   == what `answer_piece` does with what is left at the end of the input
-- Assumes nothing.
use Rattle.std.specs.Prelude.{◌≡◌, ℕ, zero, suc, ◌+◌, ◌-◌, ◌/◌, ◌%◌, ◌^◌, ◌<◌, ◌≤◌, cond, List, length, take, drop, ◌≢◌}
use Rattle.record.specs.Record.{record_length}
use Rattle.host.specs.declared.Host.{Host}
use Rattle.answer.specs.Put.{has_room, after_line, with_line}
use Rattle.chip.specs.declared.FlatChip.{FlatChip}
use Rattle.chip.specs.Flat.{chip_of}
use Rattle.himib.specs.Runs.{Point, Happening, at, happening}
use Rattle.block.specs.declared.Block.{Block}

pub record Work : Type 0 where
  pub point : Point
  pub number : ℕ
  pub at : ℕ
  pub used : ℕ
  pub out : List ℕ

abbrev pub standing : FlatChip → Host → Point
standing chip host = at (chip_of chip) host

abbrev pub came_to : Block → List ℕ → Work
came_to b out = record { point = standing b.chip b.host; number = b.number; at = b.at; used = b.used; out = out }

abbrev pub piece : List ℕ → ℕ → List ℕ
piece s at = take record_length (drop at s)

abbrev pub told : Work → Happening → Work
told w h = record {
  point = h.after;
  number = (w.number + 1) % 2 ^ 64;
  at = w.at + record_length;
  used = after_line w.out w.used w.number h.answer;
  out = with_line w.out w.used w.number h.answer;
}

unfoldable pub after_record : List ℕ → Work → Work
after_record s w = told w (happening w.point (piece s w.at))

unfoldable pub worked : ℕ → List ℕ → Work → Work
worked zero s w = w
worked (suc k) s w = cond (has_room w.out w.used) (worked k s (after_record s w)) w

abbrev pub begun : Point → ℕ → List ℕ → Work
begun p n out = record { point = p; number = n; at = 0; used = 0; out = out }

unfoldable pub block_of : Point → ℕ → List ℕ → List ℕ → Work
block_of p n input out = worked (length input / record_length) input (begun p n out)

pub record Answered (p : Point) (n : ℕ) (input out : List ℕ) (w : Work) : Type 0 where
  pub is : w ≡ block_of p n input out
  pub inside : w.at ≤ length input
  pub fits : w.used ≤ length w.out
  pub all : length input ≤ length out → length input - w.at < record_length

-- a piece gets the line of its answer, which is the same wherever a run stands
pub record AnsweredPiece (n : ℕ) (piece out new : List ℕ) (r : ℕ) : Type 0 where
  pub line : (length piece ≢ record_length) → (p : Point)
      → (r ≡ after_line out 0 n (happening p piece).answer) × (new ≡ with_line out 0 n (happening p piece).answer)
  pub none : length piece ≡ record_length → (r ≡ 0) × (new ≡ out)
