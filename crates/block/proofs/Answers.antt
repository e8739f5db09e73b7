-- Document 01, the run program, at a block of two records and three bytes more, computed. Assumes nothing.
--   two_records == 64 bytes are taken, the lines are those of a tick and of a record of no kind, and the next number is 3
--   no_room     == where the buffer has less room than a line may need, nothing is taken
use Rattle.std.proofs.Common.{◌≡◌, ℕ, List, [], ◌∷◌, ◌++◌, take, replicate, refl}
use Rattle.record.specs.Records.{tick_record}
use Rattle.answer.specs.Text.{ascii}
use Rattle.answer.specs.Numerals.{numeral, decimal}
use Rattle.answer.specs.Line.{said_of, tail_of, line_of}
use Rattle.answer.specs.Put.{has_room, laid, after_line, with_line}
use Rattle.himib.specs.Runs.{happening, start, all_at}
use Rattle.himib.proofs.Computing.{computing}
use Rattle.block.specs.Block.{Work, after_record, worked, block_of}

abbrev input : List ℕ
input = tick_record ++ replicate 32 0 ++ (7 ∷ 8 ∷ 9 ∷ [])

abbrev done : Work
done = block_of (start (all_at 0)) 1 input (replicate 67 0)

pub two_records : (done.at ≡ 64) × (done.number ≡ 3) × (take done.used done.out ≡ ascii "1 ok\n2 ref 8\n")
unfolding computing happening numeral decimal said_of tail_of line_of has_room laid after_line with_line after_record worked block_of
two_records = (refl, refl, refl)

pub no_room : ((block_of (start (all_at 0)) 1 input (replicate 31 0)).at ≡ 0) × ((block_of (start (all_at 0)) 1 input (replicate 31 0)).used ≡ 0)
unfolding has_room worked block_of
no_room = (refl, refl)
