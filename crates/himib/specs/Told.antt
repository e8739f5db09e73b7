-- Document 01 on whole records, from power-up with every counter at 0: what the last of them are answered with. proofs/Told.antt computes every row.
--   Row, row      == records whose answers are not looked at, then others, and the answers to these
--   found         == the answers that the definitions give
--   select p r    == the two C writes that select P and R
--   links         == four link pulses of TP0 and TP1
--   told          == the table: what bursts, ticks, pulses and Sets leave in the change registers, in the two counters and in a port's; what a reset leaves
-- Assumes nothing.
use Rattle.std.specs.Prelude.{ℕ, ◌+◌, List, [], ◌∷◌, ◌++◌, replicate}
use Rattle.answer.specs.declared.Answer.{Answer}
use Rattle.answer.specs.declared.Answer.TheVariants.{Done, Value, Refused}
use Rattle.record.specs.Records.{no_address, burst_record, pulse_record, tick_record, c_write_record, d_write_record, c_read_record, d_read_record, reset_record}
use Rattle.himib.specs.Runs.{run, history, answers_in, start, all_at}

pub record Row : Type 0 where
  pub before : List (List ℕ)
  pub records : List (List ℕ)
  pub answers : List Answer

abbrev pub row : List (List ℕ) → List (List ℕ) → List Answer → Row
row before records answers = record { before = before; records = records; answers = answers }

abbrev pub found : Row → List Answer
found w = answers_in (history (run (start (all_at 0)) w.before) w.records)

abbrev pub select : ℕ → ℕ → List (List ℕ)
select p r = c_write_record p ∷ c_write_record (224 + r) ∷ []

-- select, and then D reads
abbrev pub reads : ℕ → ℕ → ℕ → List (List ℕ)
reads p r n = select p r ++ replicate n d_read_record

abbrev pub given : List ℕ → List Answer
given [] = []
given (byte ∷ bytes) = Value byte ∷ given bytes

abbrev pub selected : List ℕ → List Answer
selected bytes = Done ∷ Done ∷ given bytes

abbrev pub links : List (List ℕ)
links = replicate 4 (pulse_record 0b11)

-- the flags: SQE Test, loopback missing, AUI's collision signal
abbrev pub sqe : ℕ
sqe = 0b10000

abbrev pub loopback : ℕ
loopback = 0b01000

abbrev pub signal : ℕ
signal = 0b00100

-- a burst of AUI; one of TP0 with an address; the long collision of AUI and that of TP0 and TP1
abbrev pub aui_burst : ℕ → List ℕ
aui_burst flags = burst_record 0b100000000 flags 600 0 0 0 0 no_address

abbrev pub frame : ℕ → ℕ → List ℕ
frame mask last = burst_record mask 0 600 64 0 0 0 (2 ∷ 0 ∷ 0 ∷ 0 ∷ 0 ∷ last ∷ [])

abbrev pub long_signal : List ℕ
long_signal = burst_record 0b100000000 signal 2000 0 0 0 1025 no_address

abbrev pub long_collision : List ℕ
long_collision = burst_record 0b11 0 2000 0 0 0 1025 no_address

-- a command through S
abbrev pub command : ℕ → List (List ℕ)
command byte = select 0 30 ++ (d_write_record byte ∷ [])

unfoldable pub told : List Row
told =
    -- R 2: links that come and go, by pulses, by activity, by ticks; each is cleared by its read
    row links (reads 1 2 2) (selected (0x03 ∷ 0x00 ∷ []))
    ∷ row (links ++ reads 1 2 1 ++ replicate 100 tick_record) (reads 1 2 2) (selected (0x03 ∷ 0x00 ∷ []))
    ∷ row (frame 0b100 0 ∷ []) (reads 1 2 1) (selected (0x04 ∷ []))
    -- and by Sets
    ∷ row (command 0x47) (reads 1 2 1) (selected (0x80 ∷ []))
    -- R 0 and R 1: partition, and connection again by a burst and by disabling
    ∷ row (links ++ (long_collision ∷ [])) (reads 1 0 2 ++ reads 1 1 1) (selected (0x03 ∷ 0x00 ∷ []) ++ selected (0x00 ∷ []))
    ∷ row (links ++ (long_collision ∷ []) ++ reads 1 0 1 ++ (frame 0b01 0 ∷ [])) (reads 1 0 2) (selected (0x01 ∷ 0x00 ∷ []))
    ∷ row (links ++ (long_collision ∷ []) ++ reads 1 0 1 ++ command 0x21) (reads 1 0 1) (selected (0x02 ∷ []))
    ∷ row (long_signal ∷ []) (reads 1 1 2 ++ reads 1 0 1) (selected (0x80 ∷ 0x00 ∷ []) ++ selected (0x00 ∷ []))
    -- R 3 and R 4: each burst with L or S, set before or not
    ∷ row (links ++ (burst_record 0b1 loopback 600 0 0 0 0 no_address ∷ reads 1 3 1) ++ (burst_record 0b1 loopback 600 0 0 0 0 no_address ∷ []))
    (reads 1 3 2 ++ reads 1 4 1) (selected (0x80 ∷ 0x00 ∷ []) ++ selected (0x00 ∷ []))
    ∷ row (aui_burst sqe ∷ reads 1 4 1 ++ (aui_burst sqe ∷ [])) (reads 1 4 2 ++ reads 1 3 1) (selected (0x80 ∷ 0x00 ∷ []) ++ selected (0x00 ∷ []))
    -- R 6 and R 7: a source address changed, at TP1 and at AUI; not by the same address again, and not by a write
    ∷ row (links ++ (frame 0b10 1 ∷ [])) (reads 1 6 2 ++ reads 1 7 1) (selected (0x02 ∷ 0x00 ∷ []) ++ selected (0x00 ∷ []))
    ∷ row (links ++ (frame 0b10 1 ∷ reads 1 6 1) ++ (frame 0b10 1 ∷ [])) (reads 1 6 1) (selected (0x00 ∷ []))
    ∷ row (frame 0b100000000 1 ∷ []) (reads 1 7 1 ++ reads 1 6 1) (selected (0x80 ∷ []) ++ selected (0x00 ∷ []))
    ∷ row (select 31 14 ++ replicate 6 (d_write_record 7)) (reads 1 7 1 ++ reads 31 12 4 ++ reads 31 14 6)
    (selected (0x00 ∷ []) ++ selected (replicate 4 0) ++ selected (replicate 6 7))
    -- Transmit Collisions with two heard, and not with AUI's signal; Total Octets with every readable frame
    ∷ row (links ++ (long_signal ∷ long_collision ∷ [])) (reads 0 12 4) (selected (1 ∷ 0 ∷ 0 ∷ 0 ∷ []))
    ∷ row (links ++ (frame 0b01 0 ∷ frame 0b100000000 0 ∷ [])) (reads 0 13 4) (selected (128 ∷ 0 ∷ 0 ∷ 0 ∷ []))
    -- Auto Partitions of AUI, once
    ∷ row (long_signal ∷ long_signal ∷ []) (reads 31 11 1) (selected (1 ∷ []))
    -- a reset: no change bit, enables and G zero, nothing selected, the interface error gone; counters and addresses stay
    ∷ row (links ++ (long_collision ∷ reset_record ∷ [])) (reads 1 0 1 ++ reads 1 2 1) (selected (0x00 ∷ []) ++ selected (0x00 ∷ []))
    ∷ row (select 2 0 ++ (d_write_record 0xff ∷ reset_record ∷ [])) (reads 2 0 1) (selected (0x00 ∷ []))
    ∷ row (command 0xff ++ (reset_record ∷ [])) (c_read_record ∷ d_read_record ∷ reads 0 31 1) (Value 0x00 ∷ Refused 5 ∷ selected (0x00 ∷ []))
    ∷ row (frame 0b100000000 1 ∷ reset_record ∷ []) (reads 31 0 1 ++ reads 31 14 6) (selected (1 ∷ []) ++ selected (2 ∷ 0 ∷ 0 ∷ 0 ∷ 0 ∷ 1 ∷ []))
    ∷ row (links ++ (long_collision ∷ frame 0b100000000 0 ∷ reset_record ∷ [])) (reads 0 12 1 ++ reads 0 13 1) (selected (1 ∷ []) ++ selected (64 ∷ []))
    -- what is turned away leaves the change bits and the selection: P 1 R 0 with a C write of 20h and a D write between
    ∷ row (links ++ (long_collision ∷ select 1 0)) (c_write_record 0x20 ∷ d_write_record 0 ∷ d_read_record ∷ []) (Refused 7 ∷ Refused 6 ∷ Value 0x03 ∷ [])
    ∷ []
