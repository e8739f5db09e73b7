-- An instance of `BlockIsARun` that computes: a tick and as many zeros as a record has bytes, which are no record, from power-up, with a buffer of
-- 64 dots. Assumes nothing.
--   two, dots   == the input and the buffer
--   two_answered == what the statement asks for holds of them
--   two_ran     == so does what it says: both records are taken, and the buffer has their two lines in front of the dots that are left
use Prim.Native.Nat.{ℕ, ◌+◌, ◌/◌, ◌^◌, ◌≤◌, ◌<◌}
use mathlib.Core.Path.{◌≡◌, refl}
use mathlib.Core.List.{List, [], ◌∷◌, ◌++◌}
use native.Mathlib.Omega.{arith}
use lib.ListN.{length, replicate}
use Rattle.record.specs.Record.{record_length}
use Rattle.record.specs.Records.{tick_record}
use Rattle.answer.specs.declared.Answer.TheVariants.{Done, Refused}
use Rattle.answer.specs.Text.{ascii}
use Rattle.answer.specs.Numerals.{numeral, decimal}
use Rattle.answer.specs.Line.{said_of, tail_of, line_of, lines_of}
use Rattle.answer.specs.Put.{has_room, laid, after_line, with_line}
use Rattle.himib.specs.Runs.{happening, history_of, run_of, answers_in}
use Rattle.himib.proofs.Computing.{computing}
use Rattle.block.specs.Block.{Work, Answered, after_record, worked, block_of}
use Rattle.lent.specs.Lists.{cut_off}
use Rattle.pass.specs.Judged.{history}
use Rattle.pass.specs.Examples.{up}
use Rattle.ties.specs.Ties.{records_in, Ran}

abbrev two : List ℕ
two = tick_record ++ replicate record_length 0

abbrev dots : List ℕ
dots = replicate 64 46

abbrev after : Work
after = block_of up 1 two dots

pub two_answered : (length two ≤ length dots) × (1 + length two / record_length < 2 ^ 64) × Answered up 1 two dots after
unfolding computing happening block_of worked after_record has_room laid after_line with_line line_of tail_of said_of numeral decimal
two_answered = (omega arith, omega arith, record { is = refl; inside = omega arith; fits = omega arith; all = λ h. omega arith })

pub two_ran : Ran up 1 (records_in two) dots after
unfolding computing block_of worked after_record has_room laid after_line with_line line_of lines_of tail_of said_of numeral decimal cut_off happening history_of run_of
two_ran = record { point = refl; number = refl; taken = refl; lines = refl; rest = refl }

pub two_lines : (records_in two ≡ tick_record ∷ replicate record_length 0 ∷ []) × (answers_in (history up (records_in two)) ≡ Done ∷ Refused 8 ∷ [])
    × (after.out ≡ ascii "1 ok\n2 ref 8\n" ++ replicate 51 46)
unfolding computing block_of worked after_record has_room laid after_line with_line line_of tail_of said_of numeral decimal cut_off happening history_of
two_lines = (refl, refl, refl)
