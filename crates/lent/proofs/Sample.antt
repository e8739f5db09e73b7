-- A short list of records, from power-up: what it makes is computed. Assumes nothing.
--   list  == the bytes of two C writes, which select P 16 and R 0, of a D read, and of a last piece of five bytes
use Prim.Native.Nat.{ℕ}
use mathlib.Core.Path.{◌≡◌, refl}
use mathlib.Core.List.{List, [], ◌∷◌, ◌++◌}
use lib.ListN.{length, replicate, take}
use Rattle.record.specs.Records.{c_write_record, d_read_record}
use Rattle.answer.specs.declared.Answer.TheVariants.{Done, Value, Refused}
use Rattle.chip.specs.Chip.{chip_up}
use Rattle.himib.specs.Runs.{happening, history_of, all_at}
use Rattle.himib.proofs.Computing.{computing}
use Rattle.lent.specs.Lists.{pieces, cut_off, answers_to_all, laid, laid_all}

abbrev list : List ℕ
list = c_write_record 0x10 ++ c_write_record 0xe0 ++ d_read_record ++ take 5 d_read_record

four_pieces : pieces (length list) ≡ 4
four_pieces = refl

the_answers : answers_to_all (chip_up (all_at 0)) list ≡ Done ∷ Done ∷ Value 0 ∷ Refused 9 ∷ []
unfolding cut_off happening history_of computing
the_answers = refl

-- the buffer has room for three answers: the fourth is left out, and the last two bytes stay
the_buffer : laid_all (replicate 11 7) 0 (Done ∷ Done ∷ Value 0 ∷ Refused 9 ∷ []) ≡ 0 ∷ 0 ∷ 0 ∷ 0 ∷ 0 ∷ 0 ∷ 4 ∷ 0 ∷ 0 ∷ 7 ∷ 7 ∷ []
unfolding laid laid_all
the_buffer = refl
