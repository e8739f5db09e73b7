-- Document 01, section 'Boundary sheet', the run: a list of records is cut out of bytes, and each is answered with the host's record as the one before left it.
--   pieces n, piece bs i == how many pieces of a record's length n bytes make, a short last piece being one; and piece i of the bytes bs, counted from 0
--   cut bs               == all pieces, in order
--   told_bytes            == how many bytes an answer has in the buffer
--   told_of a             == an answer in these bytes: its word (0 ok, 1 nil, 2 rep, 3 jam, 4 val, 5 ref), then its mask, byte or number, low byte first
--   read_back t           == the answer whose bytes are t
--   laid out i a         == the buffer out with the answer a at place i, if its bytes are all there
--   laid_all out i rest   == the buffer with the answers rest, from place i on
--   chip_after_all c bs, answers_to_all c bs == the chip after the run of all records in the bytes bs, the host's record starting as at power-up; and their answers
--   answers_laid c bs out == the buffer out after them
-- Assumes nothing.
use Rattle.std.specs.Prelude.{ℕ, zero, suc, ◌+◌, ◌-◌, ◌*◌, ◌/◌, ◌%◌, cond, List, [], ◌∷◌, leb, eqb, length, take, drop, set}
use Rattle.spelling.specs.Spelling.{spelt}
use Rattle.burst.specs.declared.Word.{Word}
use Rattle.burst.specs.declared.Word.TheVariants.{Nil, Rep, Jam}
use Rattle.record.specs.Record.{record_length}
use Rattle.host.specs.Sequence.{power_up}
use Rattle.answer.specs.declared.Answer.{Answer}
use Rattle.answer.specs.declared.Answer.TheVariants.{Done, Sent, Value, Refused}
use Rattle.chip.specs.declared.Chip.{Chip}
use Rattle.himib.specs.Runs.{at, history, run, answers_in}
use Rattle.lent.specs.declared.lists.Told.{Told}

abbrev pub pieces : ℕ → ℕ
pieces n = (n + (record_length - 1)) / record_length

abbrev pub piece : List ℕ → ℕ → List ℕ
piece bs i = take record_length (drop (record_length * i) bs)

-- k pieces off the front
unfoldable pub cut_off : ℕ → List ℕ → List (List ℕ)
cut_off zero bs = []
cut_off (suc k) bs = take record_length bs ∷ cut_off k (drop record_length bs)

abbrev pub cut : List ℕ → List (List ℕ)
cut bs = cut_off (pieces (length bs)) bs

abbrev pub told : ℕ → ℕ → Told
told word amount = record { word = word; low = amount % 256; high = amount / 256 }

abbrev pub word_number : Word → ℕ
word_number Nil = 1
word_number Rep = 2
word_number Jam = 3

abbrev pub told_of : Answer → Told
told_of Done = told 0 0
told_of (Sent word out) = told (word_number word) out
told_of (Value byte) = told 4 byte
told_of (Refused number) = told 5 number

abbrev pub read_back : Told → Answer
read_back t =
    let amount : ℕ = spelt (t.low ∷ t.high ∷ []) in
    cond (eqb t.word 0) Done
    (cond (eqb t.word 1) (Sent Nil amount)
    (cond (eqb t.word 2) (Sent Rep amount)
    (cond (eqb t.word 3) (Sent Jam amount)
    (cond (eqb t.word 4) (Value amount)
    (Refused amount)))))

abbrev pub told_bytes : ℕ
told_bytes = 3

-- an answer's bytes at a place of the buffer that has them all
abbrev pub laid_at : List ℕ → ℕ → Told → List ℕ
laid_at out place t = set (set (set out place t.word) (place + 1) t.low) (place + 2) t.high

unfoldable pub laid : List ℕ → ℕ → Answer → List ℕ
laid out i a = cond (leb (told_bytes * i + told_bytes) (length out)) (laid_at out (told_bytes * i) (told_of a)) out

unfoldable pub laid_all : List ℕ → ℕ → List Answer → List ℕ
laid_all out i [] = out
laid_all out i (a ∷ rest) = laid_all (laid out i a) (i + 1) rest

abbrev pub chip_after_all : Chip → List ℕ → Chip
chip_after_all c bs = (run (at c power_up) (cut bs)).chip

abbrev pub answers_to_all : Chip → List ℕ → List Answer
answers_to_all c bs = answers_in (history (at c power_up) (cut bs))

abbrev pub answers_laid : Chip → List ℕ → List ℕ → List ℕ
answers_laid c bs out = laid_all out 0 (answers_to_all c bs)
