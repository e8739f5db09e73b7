-- Document 01, 'Boundary sheet', all of its starred rows, and the sample run that follows it: whole records, from power-up, and what they lead to.
--   Led            == what a row leads to
--   led v s l      == the chip s, whose counters started at v, shows l
--   sheet          == the table; limits == its first two rows at each short event limit
--   holding rows   == every row's records lead to what it says
--   sample, sample_answers == the ten records of the sample run, and their ten answers
-- Assumes nothing.
use Rattle.std.specs.Prelude.{ℕ, Bool, true, false, ◌&&◌, List, [], ◌∷◌, ◌++◌, eqb, set, replicate}
use Rattle.std.specs.Bool.{beq}
use Rattle.ports.specs.Each.{each}
use Rattle.burst.specs.declared.Word.TheVariants.{Rep, Jam}
use Rattle.port.specs.declared.Port.{Port}
use Rattle.repeater.specs.Door.{port_at}
use Rattle.answer.specs.declared.Answer.{Answer}
use Rattle.answer.specs.declared.Answer.TheVariants.{Done, Sent, Value, Refused}
use Rattle.attributes.specs.declared.Nine.{Nine}
use Rattle.attributes.specs.Nine.{readable_frames, readable_octets, fcs_errors, alignment_errors, frames_too_long, short_events, runts}
use Rattle.attributes.specs.Nine.{collisions, late_events, very_long_events, rate_mismatches, auto_partitions, counter_count, counter_of}
use Rattle.attributes.specs.Octets.{difference_of}
use Rattle.record.specs.Records.{no_address, burst_record, pulse_record, tick_record, c_write_record, d_read_record, reset_record}
use Rattle.chip.specs.declared.Chip.{Chip}
use Rattle.himib.specs.Runs.{run, start, all_with}

-- of a port: its counters moved by these credits, register and number, and by no other; a counter reads so much; it is connected with this count, or
-- partitioned; its link passes, or fails
pub data Led : Type 0 where
  credited : ℕ → List (ℕ × ℕ) → Led
  reads : ℕ → ℕ → ℕ → Led
  connected : ℕ → ℕ → Led
  partitioned : ℕ → Led
  passes : ℕ → Led
  fails : ℕ → Led

unfoldable pub credits_in : List (ℕ × ℕ) → List ℕ
credits_in [] = replicate counter_count 0
credits_in (m ∷ ms) = set (credits_in ms) m.0 m.1

-- what each counter of port i moved by since all were at v
unfoldable pub moved_in : ℕ → Nine → ℕ → List ℕ
moved_in v nine i = each {A = ℕ} (λ r none. difference_of (counter_of nine i r) v) (replicate counter_count 0)

unfoldable pub same : List ℕ → List ℕ → Bool
same [] [] = true
same [] (y ∷ ys) = false
same (x ∷ xs) [] = false
same (x ∷ xs) (y ∷ ys) = eqb x y && same xs ys

abbrev pub port_in : Chip → ℕ → Port
port_in s i = port_at s.core.repeater i

unfoldable pub led : ℕ → Chip → Led → Bool
led v s (credited i ms) = same (moved_in v s.attributes i) (credits_in ms)
led v s (reads i r n) = eqb (counter_of s.attributes i r) n
led v s (connected i n) = beq (port_in s i).partitioned false && eqb (port_in s i).count n
led v s (partitioned i) = beq (port_in s i).partitioned true && eqb (port_in s i).count 0
led v s (passes i) = beq (port_in s i).link_pass true
led v s (fails i) = beq (port_in s i).link_pass false

pub record Row : Type 0 where
  pub limit : ℕ
  pub start : ℕ
  pub records : List (List ℕ)
  pub leads : List Led

unfoldable pub all_led : ℕ → Chip → List Led → Bool
all_led v s [] = true
all_led v s (l ∷ ls) = led v s l && all_led v s ls

unfoldable pub holds : Row → Bool
holds w = all_led w.start (run (start (all_with w.limit w.start)) w.records).chip w.leads

unfoldable pub holding : List Row → Bool
holding [] = true
holding (w ∷ ws) = holds w && holding ws

-- counters from v on, and from 0 on; the first four records bring the links of TP0 and TP1 to pass
abbrev pub linked : List (List ℕ)
linked = replicate 4 (pulse_record 3)

abbrev pub from : ℕ → List (List ℕ) → List Led → Row
from v rs ls = record { limit = 78; start = v; records = linked ++ rs; leads = ls }

abbrev pub row : List (List ℕ) → List Led → Row
row = from 0

-- with another limit of short events
abbrev pub limited : ℕ → List (List ℕ) → List Led → Row
limited limit rs ls = record { limit = limit; start = 0; records = linked ++ rs; leads = ls }

-- a burst of TP0: d, n, and with flags and k; a burst of TP0 and TP1: d, c, x
abbrev pub burst : ℕ → ℕ → List ℕ
burst d n = burst_record 1 0 d n 0 0 0 no_address

abbrev pub flagged : ℕ → ℕ → ℕ → ℕ → List ℕ
flagged flags d n k = burst_record 1 flags d n k 0 0 no_address

abbrev pub collision : ℕ → ℕ → ℕ → List ℕ
collision d c x = burst_record 3 0 d 0 0 c x no_address

-- the flags
abbrev pub good : ℕ
good = 0

abbrev pub bad : ℕ
bad = 0b00001

abbrev pub mistimed : ℕ
mistimed = 0b00010

-- a frame of n octets in TP0's counters
abbrev pub frame : ℕ → List (ℕ × ℕ)
frame n = (readable_frames, 1) ∷ (readable_octets, n) ∷ []

unfoldable pub sheet : List Row
sheet =
    -- short, and runt
    row (burst 77 9 ∷ []) (credited 0 ((short_events, 1) ∷ []) ∷ [])
    ∷ row (burst 78 9 ∷ []) (credited 0 ((runts, 1) ∷ []) ∷ [])
    -- octets
    ∷ row (burst 13000 63 ∷ []) (credited 0 ((runts, 1) ∷ []) ∷ [])
    ∷ row (burst 13000 64 ∷ []) (credited 0 (frame 64) ∷ [])
    ∷ row (burst 13000 1518 ∷ []) (credited 0 (frame 1518) ∷ [])
    ∷ row (burst 13000 1519 ∷ []) (credited 0 ((frames_too_long, 1) ∷ []) ∷ [])
    -- FCS and dribble bits
    ∷ row (flagged bad 13000 64 0 ∷ []) (credited 0 ((fcs_errors, 1) ∷ []) ∷ [])
    ∷ row (flagged bad 13000 64 3 ∷ []) (credited 0 ((alignment_errors, 1) ∷ []) ∷ [])
    ∷ row (flagged good 13000 64 3 ∷ []) (credited 0 (frame 64) ∷ [])
    -- reconnecting, after a collision that partitions both ports
    ∷ row (collision 2000 0 1025 ∷ burst 512 0 ∷ []) (partitioned 0 ∷ partitioned 1 ∷ [])
    ∷ row (collision 2000 0 1025 ∷ burst 513 0 ∷ []) (connected 0 0 ∷ partitioned 1 ∷ [])
    -- a long collision
    ∷ row (collision 2000 0 1024 ∷ []) (connected 0 1 ∷ connected 1 1 ∷ credited 0 ((collisions, 1) ∷ []) ∷ [])
    ∷ row (collision 2000 0 1025 ∷ []) (partitioned 0 ∷ partitioned 1 ∷ credited 0 ((collisions, 1) ∷ (auto_partitions, 1) ∷ []) ∷ [])
    -- a late one
    ∷ row (collision 2000 512 100 ∷ []) (credited 0 ((collisions, 1) ∷ []) ∷ [])
    ∷ row (collision 2000 513 100 ∷ []) (credited 0 ((collisions, 1) ∷ (late_events, 1) ∷ []) ∷ [])
    -- many
    ∷ row (replicate 31 (collision 600 100 300)) (connected 0 31 ∷ connected 1 31 ∷ credited 0 ((collisions, 31) ∷ []) ∷ [])
    ∷ row (replicate 32 (collision 600 100 300)) (partitioned 0 ∷ partitioned 1 ∷ credited 0 ((collisions, 32) ∷ (auto_partitions, 1) ∷ []) ∷ [])
    -- very long
    ∷ row (burst 65536 64 ∷ []) (credited 0 (frame 64) ∷ [])
    ∷ row (burst 65537 64 ∷ []) (credited 0 ((very_long_events, 1) ∷ frame 64) ∷ [])
    -- ticks
    ∷ row (replicate 99 tick_record) (passes 0 ∷ passes 1 ∷ [])
    ∷ row (replicate 100 tick_record) (fails 0 ∷ fails 1 ∷ [])
    -- readings
    ∷ from 4294967295 [] (reads 0 readable_frames 4294967295 ∷ [])
    ∷ from 4294967295 (replicate 3 (burst 13000 64)) (reads 0 readable_frames 2 ∷ credited 0 ((readable_frames, 3) ∷ (readable_octets, 192) ∷ []) ∷ [])
    -- rate mismatch
    ∷ row (flagged mistimed 552 64 0 ∷ []) (credited 0 (frame 64) ∷ [])
    ∷ row (flagged mistimed 553 64 0 ∷ []) (credited 0 ((rate_mismatches, 1) ∷ frame 64) ∷ [])
    ∷ []

-- short, and runt, at each limit; and a reset leaves the limit
unfoldable pub limits : List Row
limits =
    limited 75 (burst 74 9 ∷ []) (credited 0 ((short_events, 1) ∷ []) ∷ [])
    ∷ limited 75 (burst 75 9 ∷ []) (credited 0 ((runts, 1) ∷ []) ∷ [])
    ∷ limited 76 (burst 75 9 ∷ []) (credited 0 ((short_events, 1) ∷ []) ∷ [])
    ∷ limited 76 (burst 76 9 ∷ []) (credited 0 ((runts, 1) ∷ []) ∷ [])
    ∷ limited 77 (burst 76 9 ∷ []) (credited 0 ((short_events, 1) ∷ []) ∷ [])
    ∷ limited 77 (burst 77 9 ∷ []) (credited 0 ((runts, 1) ∷ []) ∷ [])
    ∷ limited 78 (burst 77 9 ∷ []) (credited 0 ((short_events, 1) ∷ []) ∷ [])
    ∷ limited 78 (burst 78 9 ∷ []) (credited 0 ((runts, 1) ∷ []) ∷ [])
    ∷ limited 79 (burst 78 9 ∷ []) (credited 0 ((short_events, 1) ∷ []) ∷ [])
    ∷ limited 79 (burst 79 9 ∷ []) (credited 0 ((runts, 1) ∷ []) ∷ [])
    ∷ limited 80 (burst 79 9 ∷ []) (credited 0 ((short_events, 1) ∷ []) ∷ [])
    ∷ limited 80 (burst 80 9 ∷ []) (credited 0 ((runts, 1) ∷ []) ∷ [])
    ∷ limited 81 (burst 80 9 ∷ []) (credited 0 ((short_events, 1) ∷ []) ∷ [])
    ∷ limited 81 (burst 81 9 ∷ []) (credited 0 ((runts, 1) ∷ []) ∷ [])
    ∷ limited 77 (burst 77 9 ∷ reset_record ∷ linked ++ (burst 77 9 ∷ [])) (credited 0 ((runts, 2) ∷ []) ∷ [])
    ∷ limited 81 (burst 80 9 ∷ reset_record ∷ linked ++ (burst 80 9 ∷ [])) (credited 0 ((short_events, 2) ∷ []) ∷ [])
    ∷ []

abbrev pub sample : List (List ℕ)
sample =
    replicate 4 (pulse_record 3)
    ++ (burst_record 1 0 1000 64 0 0 0 no_address
    ∷ c_write_record 0x10
    ∷ c_write_record 0xe0
    ∷ d_read_record
    ∷ burst_record 3 0 600 0 0 100 300 no_address
    ∷ set tick_record 2 1
    ∷ [])

abbrev pub sample_answers : List Answer
sample_answers = replicate 4 Done ++ (Sent Rep 0x102 ∷ Done ∷ Done ∷ Value 0x01 ∷ Sent Jam 0x103 ∷ Refused 8 ∷ [])
