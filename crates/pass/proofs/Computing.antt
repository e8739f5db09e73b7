-- One name that opens every definition a record's step is made of: under `unfolding step_computes` a list of records computes from power-up. So do three
-- lists here, with their answers: document 01's sample run; a counter read while a frame comes after its first byte; and a change bit read after a read that
-- was turned away. A model that refuses everything, one that answers all bursts alike, one whose reads copy anew at each byte and one whose refused reads
-- drop change bits fail at them. Assumes nothing.
--   somebody           == a source address that is not zero
--   aui_frame           == a readable frame of somebody's at AUI
--   selecting, reading == the C writes that select AUI's Readable Frames; the records after the first byte of it
--   refused_first       == a partition, a read that is turned away, and the read of its change bit
use Prim.Native.Nat.{ℕ}
use mathlib.Core.Path.{◌≡◌, refl}
use mathlib.Core.List.{List, [], ◌∷◌}
use Rattle.burst.specs.declared.Word.TheVariants.{Rep, Jam}
use Rattle.answer.specs.declared.Answer.TheVariants.{Done, Sent, Value, Refused}
use Rattle.himib.specs.Runs.{happening, history_of, run_of, answers_in, start, all_at}
use Rattle.himib.specs.Sheet.{sample, sample_answers}
use Rattle.himib.proofs.Computing.{computing}
use Rattle.pass.specs.Judged.{history, run}
use Rattle.record.specs.Records.{burst_record, no_address, tick_record, c_write_record, c_read_record, d_read_record}
use Rattle.pass.specs.Examples.{up}

unfoldable pub step_computes : Unit {0}
unfolding computing
step_computes = tt

sample_run : answers_in (history up sample) ≡ sample_answers
unfolding step_computes happening history_of
sample_run = refl

abbrev pub somebody : List ℕ
somebody = 2 ∷ 0 ∷ 0 ∷ 7 ∷ 8 ∷ 9 ∷ []

-- AUI goes by no link, so that it is heard from power-up on
abbrev pub aui_frame : List ℕ
aui_frame = burst_record 256 0 1000 64 0 0 0 somebody

abbrev pub selecting : List (List ℕ)
selecting = c_write_record 0x1f ∷ c_write_record 0xe0 ∷ []

abbrev pub reading : List (List ℕ)
reading = aui_frame ∷ d_read_record ∷ tick_record ∷ d_read_record ∷ c_read_record ∷ d_read_record ∷ []

-- the frame takes the counter from 0x040302ff to 0x04030300, and the bytes do not change
four_bytes_and_a_frame : answers_in (history (run (start (all_at 0x040302ff)) selecting) (d_read_record ∷ reading))
    ≡ Value 0xff ∷ Sent Rep 0 ∷ Value 0x02 ∷ Done ∷ Value 0x03 ∷ Value 0 ∷ Value 0x04 ∷ []
unfolding step_computes happening history_of run_of
four_bytes_and_a_frame = refl

-- a collision of AUI over 1,024 bit times; a read of P 1 R 5, which is turned away; and the read of P 1 R 1, put right: the bit is still there
abbrev pub refused_first : List (List ℕ)
refused_first =
    burst_record 0 4 2000 0 0 0 1025 no_address
    ∷ c_write_record 0x01 ∷ c_write_record 0xe5 ∷ d_read_record
    ∷ c_write_record 0xe1 ∷ d_read_record ∷ d_read_record
    ∷ []

refused_read_keeps_the_bit : answers_in (history up refused_first) ≡ Sent Jam 0 ∷ Done ∷ Done ∷ Refused 5 ∷ Done ∷ Value 0x80 ∷ Value 0 ∷ []
unfolding step_computes happening history_of
refused_read_keeps_the_bit = refl
