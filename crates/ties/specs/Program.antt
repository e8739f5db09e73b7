-- Document 01, the run program from its start to the end of its input. `block` answers what one reading brought, `start` gives the chip that a run begins with;
-- here stands that all readings together are one run from power-up, and so that whatever is promised of such runs is promised of what is printed.
--   Standing          == where the program stands between two readings: the point of the run, the next number, the bytes kept of a record that is not whole
--                        yet, and everything printed
--   Reading           == the bytes that a reading brings, the buffer that the lines are put in, and where the program stands afterwards
--   Turn s r          == what the program's functions promise of a reading (run/specs/Kept): the whole records of the kept bytes and the new ones are answered, the bytes
--                        behind them are kept, and the lines are printed
--   Turns s rs t      == reading after reading, from s to t
--   printed_at s out   == everything printed when the input ends at s: a last piece that is not whole has its line, too
--   ReadingsAreARun   == what is printed are the lines of one run from power-up over all bytes read, a short last piece being a record; and where it stands
--   StartIsGiven      == the chip of a start file is power-up with a supply such as there are; without a file it is one of zeros
--   PromisesArePrinted == a promise Q about every run from power-up holds of the answers whose lines are printed, whatever the start file and the readings
-- Assumes nothing.
use Rattle.std.specs.Prelude.{ℕ, ◌+◌, ◌-◌, ◌/◌, ◌^◌, ◌≤◌, ◌<◌, ◌≡◌, cond, List, [], ◌∷◌, ◌++◌, eqb, length, get_or, take, drop}
use Rattle.record.specs.Record.{record_length}
use Rattle.host.specs.Sequence.{power_up}
use Rattle.answer.specs.declared.Answer.{Answer}
use Rattle.answer.specs.Line.{lines_of}
use Rattle.answer.specs.Put.{after_line, with_line}
use Rattle.chip.specs.declared.Supply.{Supply}
use Rattle.himib.specs.Runs.{Point, at, start, Given, answers_in}
use Rattle.block.specs.Block.{Work, block_of}
use Rattle.lent.specs.Lists.{cut}
use Rattle.pass.specs.Judged.{happens, history, run}
use Rattle.start.specs.Start.{fits_in, supply_in, nothing_given, started_of}
use Rattle.ties.specs.Ties.{records_in}

pub record Standing : Type 0 where
  pub point : Point
  pub number : ℕ
  pub kept : List ℕ
  pub printed : List ℕ

pub record Reading : Type 0 where
  pub bytes : List ℕ
  pub out : List ℕ
  pub after : Standing

abbrev pub input_of : Standing → Reading → List ℕ
input_of s r = s.kept ++ r.bytes

pub record Turn (s : Standing) (r : Reading) : Type 0 where
  pub work : Work
  pub is : work ≡ block_of s.point s.number (input_of s r) r.out
  pub low : length (input_of s r) - work.at < record_length
  pub point : r.after.point ≡ work.point
  pub number : r.after.number ≡ work.number
  pub kept : r.after.kept ≡ drop work.at (input_of s r)
  pub printed : r.after.printed ≡ s.printed ++ take work.used work.out

abbrev pub Turns : Standing → List Reading → Standing → Type 0
Turns s [] t = s ≡ t
Turns s (r ∷ rs) t = Turn s r × Turns r.after rs t

abbrev pub bytes_of : List Reading → List ℕ
bytes_of [] = []
bytes_of (r ∷ rs) = r.bytes ++ bytes_of rs

abbrev pub begun : Point → Standing
begun p = record { point = p; number = 1; kept = []; printed = [] }

abbrev pub last_answer : Standing → Answer
last_answer s = (happens s.point s.kept).answer

unfoldable pub printed_at : Standing → List ℕ → List ℕ
printed_at s out =
    cond (eqb (length s.kept) 0) s.printed
    (s.printed ++ take (after_line out 0 s.number (last_answer s)) (with_line out 0 s.number (last_answer s)))

pub record OneRun (p : Point) (bytes out : List ℕ) (t : Standing) : Type 0 where
  pub point : t.point ≡ run p (records_in bytes)
  pub kept : length t.kept < record_length
  pub printed : printed_at t out ≡ lines_of 1 (answers_in (history p (cut bytes)))

-- fewer records than 2^64, and room for a line where the last piece is answered
abbrev pub ReadingsAreARun : Type 0
ReadingsAreARun =
    (p : Point) (rs : List Reading) (t : Standing) (out : List ℕ) → Turns (begun p) rs t → length (bytes_of rs) / record_length + 1 < 2 ^ 64
    → record_length ≤ length out → OneRun p (bytes_of rs) out t

-- the supply of a start file, or zeros where it does not fit
abbrev pub given_by : List ℕ → Supply
given_by s = cond (fits_in s) (supply_in s) nothing_given

abbrev pub StartIsGiven : Type 0
StartIsGiven =
    (s : List ℕ) → ((i : ℕ) → get_or s i 0 < 256) → (at (started_of s).chip power_up ≡ start (given_by s)) × Given (given_by s)

-- answers as Q asks for, and their lines are what is printed
pub record Printed (Q : Supply → List (List ℕ) → List Answer → Type 0) (given : Supply) (bytes printed : List ℕ) : Type 0 where
  pub answers : List Answer
  pub promised : Q given (cut bytes) answers
  pub lines : printed ≡ lines_of 1 answers

abbrev pub PromisesArePrinted : Type 1
PromisesArePrinted =
    (Q : Supply → List (List ℕ) → List Answer → Type 0)
    → ((given : Supply) → Given given → (rs : List (List ℕ)) → Q given rs (answers_in (history (start given) rs)))
    → (s : List ℕ) → ((i : ℕ) → get_or s i 0 < 256) → (rs : List Reading) (t : Standing) (out : List ℕ) → Turns (begun (at (started_of s).chip power_up)) rs t
    → length (bytes_of rs) / record_length + 1 < 2 ^ 64 → record_length ≤ length out → Printed Q (given_by s) (bytes_of rs) (printed_at t out)
