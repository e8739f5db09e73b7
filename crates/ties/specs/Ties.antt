-- `pass` states the demands of a run: a list of records from a point. Here stands that a block of the run program is such a run, and that a list answered
-- with a lent host's record is one, too. So what is promised of runs is promised of both.
--   records_in bs     == the whole records in bytes, in order
--   Ran p n rs out w == the work w is the run of the records rs from the point p: where it leads, the next number, how far the input is read, and what the
--                       buffer holds that was out before: the lines of the answers, the first one record n's, and the rest as it was
--   BlockIsARun      == what `answer_block` promises is the run of all whole records of its input, where the buffer is as long
--   LentIsARun       == what a list of records leaves and is answered with, the host's record lent, is the run of its pieces: true by definition, as long
--                       as the demands are about the chip
-- Assumes nothing.
use Rattle.std.specs.Prelude.{ℕ, ◌+◌, ◌*◌, ◌/◌, ◌^◌, ◌≤◌, ◌<◌, ◌≡◌, List, length, take, drop}
use Rattle.record.specs.Record.{record_length}
use Rattle.host.specs.Sequence.{power_up}
use Rattle.answer.specs.Line.{lines_of}
use Rattle.chip.specs.declared.Chip.{Chip}
use Rattle.himib.specs.Runs.{Point, at, answers_in}
use Rattle.block.specs.Block.{Work, Answered}
use Rattle.lent.specs.Lists.{cut_off, cut, chip_after_all, answers_to_all}
use Rattle.pass.specs.Judged.{history, run}

abbrev pub records_in : List ℕ → List (List ℕ)
records_in bs = cut_off (length bs / record_length) bs

pub record Ran (p : Point) (n : ℕ) (rs : List (List ℕ)) (out : List ℕ) (w : Work) : Type 0 where
  pub point : w.point ≡ run p rs
  pub number : w.number ≡ n + length rs
  pub taken : w.at ≡ record_length * length rs
  pub lines : take w.used w.out ≡ lines_of n (answers_in (history p rs))
  pub rest : drop w.used w.out ≡ drop w.used out

abbrev pub BlockIsARun : Type 0
BlockIsARun =
    (p : Point) (n : ℕ) (input out : List ℕ) (w : Work) → length input ≤ length out → n + length input / record_length < 2 ^ 64
    → Answered p n input out w → Ran p n (records_in input) out w

abbrev pub LentIsARun : Type 0
LentIsARun =
    (c : Chip) (bs : List ℕ) → (chip_after_all c bs ≡ (run (at c power_up) (cut bs)).chip) × (answers_to_all c bs ≡ answers_in (history (at c power_up) (cut bs)))
