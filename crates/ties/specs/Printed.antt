-- What the program prints, by the bytes that it reads and the start file alone: the lines of the answers that the past gives, one after the other. Nothing of the
-- chip occurs in what is printed.
--   PrintedByPast == of every start file and of all readings
-- Assumes nothing.
use Rattle.std.specs.Prelude.{ℕ, ◌+◌, ◌/◌, ◌^◌, ◌≤◌, ◌<◌, ◌≡◌, List, [], length, get_or}
use Rattle.record.specs.Record.{record_length}
use Rattle.host.specs.Sequence.{power_up}
use Rattle.answer.specs.Line.{lines_of}
use Rattle.himib.specs.Runs.{at}
use Rattle.lent.specs.Lists.{cut}
use Rattle.start.specs.Start.{started_of}
use Rattle.past.specs.Answers.{answers_by}
use Rattle.alone.specs.Seen.{start_of}
use Rattle.ties.specs.Program.{Standing, Reading, Turns, bytes_of, begun, printed_at, given_by}

abbrev pub PrintedByPast : Type 0
PrintedByPast =
    (s : List ℕ) → ((i : ℕ) → get_or s i 0 < 256) → (rs : List Reading) (t : Standing) (out : List ℕ) → Turns (begun (at (started_of s).chip power_up)) rs t
    → length (bytes_of rs) / record_length + 1 < 2 ^ 64 → record_length ≤ length out
    → printed_at t out ≡ lines_of 1 (answers_by (start_of (given_by s)) [] (cut (bytes_of rs)))
