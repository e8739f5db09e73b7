-- What the past says, row by row: records from power-up, one more record, and its answer, each answer worked out from document 01. Where an observer's rule were
-- wrong, a row here would be; and so would the chip that is proved to follow it. proofs/Sheet.antt computes every row.
--   start_with limit v, all_at v == power-up with every counter at v, addresses of zeros, and that limit of short events, or the usual one
--   Row, told      == a row; the answer that the past gives
--   Link, found    == a row on a link alone; whether it passes by the past
--   links, settings, crowds, partitions, words, reports, hosts, noticing, credits, limits, sequences == the tables, by what they are about
--   sample, sample_answers == the sample run of document 01
-- Assumes nothing.
use Rattle.std.specs.Prelude.{ℕ, ◌+◌, Bool, true, false, List, [], ◌∷◌, ◌++◌, set, replicate}
use Rattle.burst.specs.declared.Word.TheVariants.{Nil, Rep, Jam}
use Rattle.record.specs.Records.{no_address, burst_record, pulse_record, tick_record, c_write_record, d_write_record, c_read_record, d_read_record, reset_record}
use Rattle.answer.specs.declared.Answer.{Answer}
use Rattle.answer.specs.declared.Answer.TheVariants.{Done, Sent, Value, Refused}
use Rattle.past.specs.Deeds.{Deed, pulses, ticks, commands, resets, deed_after}
use Rattle.past.specs.Link.{passes_by}
use Rattle.past.specs.Reads.{Start}
use Rattle.past.specs.Answers.{answer_to}

abbrev pub start_with : ℕ → ℕ → Start
start_with limit v = record { counters = λ i r. v; addresses = λ i. no_address; collisions = v; octets = v; limit = limit }

abbrev pub all_at : ℕ → Start
all_at = start_with 78

pub record Row : Type 0 where
  pub limit : ℕ
  pub before : List (List ℕ)
  pub last : List ℕ
  pub wanted : Answer

abbrev pub row_with : ℕ → List (List ℕ) → List ℕ → Answer → Row
row_with limit before last wanted = record { limit = limit; before = before; last = last; wanted = wanted }

abbrev pub row : List (List ℕ) → List ℕ → Answer → Row
row = row_with 78

abbrev pub told : Row → Answer
told w = answer_to (start_with w.limit 0) w.before w.last

-- ---- Records, by short names

-- the ports, as masks
abbrev pub tp0 : ℕ
tp0 = 0b000000001

abbrev pub tp1 : ℕ
tp1 = 0b000000010

abbrev pub both : ℕ
both = 0b000000011

abbrev pub aui_port : ℕ
aui_port = 0b100000000

-- the flags
abbrev pub bad : ℕ
bad = 0b00001

abbrev pub mistimed : ℕ
mistimed = 0b00010

abbrev pub signal : ℕ
signal = 0b00100

abbrev pub unlooped : ℕ
unlooped = 0b01000

abbrev pub tested : ℕ
tested = 0b10000

abbrev pub someone : List ℕ
someone = 2 ∷ 0 ∷ 0 ∷ 7 ∷ 8 ∷ 9 ∷ []

-- a burst: mask, flags, d, n
abbrev pub burst : ℕ → ℕ → ℕ → ℕ → List ℕ
burst mask flags d n = burst_record mask flags d n 0 0 0 no_address

-- one with a collision: mask, flags, d, c, x
abbrev pub clash : ℕ → ℕ → ℕ → ℕ → ℕ → List ℕ
clash mask flags d c x = burst_record mask flags d 0 0 c x no_address

-- the links of TP0 and TP1 pass
abbrev pub up : List (List ℕ)
up = replicate 4 (pulse_record both)

-- P and R, and the commands through S and through G
abbrev pub select : ℕ → ℕ → List (List ℕ)
select p r = c_write_record p ∷ c_write_record (224 + r) ∷ []

abbrev pub through_s : ℕ → List (List ℕ)
through_s c = select 0 30 ++ (d_write_record c ∷ [])

abbrev pub through_g : ℕ → List (List ℕ)
through_g c = select 0 31 ++ (d_write_record c ∷ [])

-- what a Get gives, what a register of one byte holds, and the C read
abbrev pub gets : List (List ℕ) → ℕ → ℕ → Row
gets before c value = row (before ++ through_g c) d_read_record (Value value)

abbrev pub holds_with : ℕ → List (List ℕ) → ℕ → ℕ → ℕ → Row
holds_with limit before p r value = row_with limit (before ++ select p r) d_read_record (Value value)

abbrev pub holds : List (List ℕ) → ℕ → ℕ → ℕ → Row
holds = holds_with 78

abbrev pub shows : List (List ℕ) → ℕ → Row
shows before value = row before c_read_record (Value value)

-- ---- Sets

-- AUI is partitioned by one long collision
abbrev pub aui_parted : List (List ℕ)
aui_parted = clash aui_port signal 2000 0 1025 ∷ []

-- its own activity for 600 bit times, and data from TP0 for as long
abbrev pub own : List (List ℕ)
own = burst aui_port 0 600 0 ∷ []

abbrev pub sent : List (List ℕ)
sent = burst tp0 0 600 0 ∷ []

abbrev pub settings : List Row
settings =
    -- the algorithms, each by its own Set, until a reset
    gets aui_parted 0x89 0x00
    ∷ gets (aui_parted ++ own) 0x89 0x80
    ∷ gets (through_s 0x1f ++ aui_parted ++ own) 0x89 0x00
    ∷ gets (through_s 0x10 ++ aui_parted ++ own) 0x89 0x80
    ∷ gets (through_s 0x1f ++ up ++ aui_parted ++ sent) 0x89 0x80
    ∷ gets (through_s 0x1f ++ (reset_record ∷ []) ++ aui_parted ++ own) 0x89 0x80
    -- disabling and enabling
    ∷ row (up ++ through_s 0x2f) (burst aui_port 0 600 0) (Sent Nil 0x000)
    ∷ row (up ++ through_s 0x2f ++ through_s 0x3f) (burst aui_port 0 600 0) (Sent Rep 0x003)
    ∷ row (up ++ through_s 0x20) (burst tp0 0 600 0) (Sent Nil 0x000)
    ∷ row (up ++ through_s 0x21) (burst tp0 0 600 0) (Sent Rep 0x100)
    ∷ row (up ++ through_s 0x20) (burst tp1 0 600 0) (Sent Rep 0x100)
    ∷ row (up ++ through_s 0x20 ++ (reset_record ∷ []) ++ up) (burst tp0 0 600 0) (Sent Rep 0x102)
    ∷ []

-- ---- Links: of TP0, by deeds, the newest first

pub record Link : Type 0 where
  pub past : List Deed
  pub passes : Bool

abbrev pub link : List Deed → Bool → Link
link past passes = record { past = past; passes = passes }

abbrev pub found : Link → Bool
found w = passes_by 0 w.past

abbrev pub pulse : List Deed
pulse = pulses tp0 ∷ []

abbrev pub four : List Deed
four = replicate 4 (pulses tp0)

abbrev pub silence : ℕ → List Deed
silence n = replicate n ticks

abbrev pub ordered : ℕ → List Deed
ordered c = commands false c ∷ []

abbrev pub activity : List Deed
activity = deed_after [] (burst tp0 0 600 0) ∷ []

-- pulses, activity, switching, enabling and resets; rows on the hundredth tick alone, since others take long: the sheets of the chip compute 99 and 100
abbrev pub links : List Link
links =
    link (replicate 3 (pulses tp0)) false
    ∷ link four true
    ∷ link activity true
    -- the test off and on again
    ∷ link (ordered 0x40) true
    ∷ link (ordered 0x50 ++ ordered 0x40) true
    ∷ link (replicate 2 (pulses tp0) ++ ordered 0x50 ++ replicate 2 (pulses tp0)) true
    -- while it is disabled, and enabling it
    ∷ link (ordered 0x20 ++ four) true
    ∷ link (four ++ ordered 0x20) true
    ∷ link (ordered 0x30 ++ ordered 0x20 ++ four) false
    ∷ link (ordered 0x30 ++ four) true
    ∷ link (replicate 2 (pulses tp0) ++ ordered 0x30 ++ ordered 0x20 ++ replicate 2 (pulses tp0)) false
    ∷ link (ordered 0x30 ++ ordered 0x20 ++ ordered 0x40) true
    ∷ link (resets ∷ four) false
    ∷ link (replicate 2 (pulses tp0) ++ (resets ∷ replicate 2 (pulses tp0))) false
    -- a hundred ticks
    ∷ link (silence 100 ++ four) false
    ∷ link (silence 100 ++ ordered 0x50 ++ ordered 0x40) false
    ∷ link (silence 100 ++ ordered 0x20 ++ four) false
    ∷ []

-- ---- Partition: what the Get of the partition gives

abbrev pub crowd : ℕ → List (List ℕ)
crowd n = up ++ replicate n (clash both 0 600 100 300)

-- 31 and 32 collisions; between them a clean burst of 600 bit times, one of 512, one of 513 that is received by the alternate algorithm, and jam
abbrev pub crowds : List Row
crowds =
    gets (crowd 31) 0x80 0xff
    ∷ gets (crowd 32) 0x80 0xfc
    ∷ gets (crowd 31 ++ (burst tp0 0 600 0 ∷ clash both 0 600 100 300 ∷ [])) 0x80 0xff
    ∷ gets (crowd 31 ++ (burst aui_port 0 512 0 ∷ clash both 0 600 100 300 ∷ [])) 0x80 0xfc
    ∷ gets (through_s 0x10 ++ crowd 31 ++ (burst tp0 0 513 0 ∷ clash both 0 600 100 300 ∷ [])) 0x80 0xff
    ∷ gets (crowd 31 ++ (burst tp0 mistimed 600 0 ∷ clash both 0 600 100 300 ∷ [])) 0x80 0xfc
    ∷ []

abbrev pub partitions : List Row
partitions =
    gets (up ++ (clash both 0 2000 0 1024 ∷ [])) 0x80 0xff
    ∷ gets (up ++ (clash both 0 2000 0 1025 ∷ [])) 0x80 0xfc
    ∷ gets (up ++ (clash both 0 2000 0 1025 ∷ burst tp0 0 512 0 ∷ [])) 0x80 0xfc
    ∷ gets (up ++ (clash both 0 2000 0 1025 ∷ burst tp0 0 513 0 ∷ [])) 0x80 0xfd
    ∷ gets (up ++ (clash both 0 2000 0 1025 ∷ through_s 0x20)) 0x80 0xfd
    ∷ gets (up ++ (clash both 0 2000 0 1025 ∷ [])) 0xd0 0x03
    -- a partitioned port is sent to, and is not heard
    ∷ row (up ++ (clash both 0 2000 0 1025 ∷ [])) (burst aui_port 0 100 0) (Sent Rep 0x003)
    ∷ row (up ++ (clash both 0 2000 0 1025 ∷ [])) (burst tp0 0 100 0) (Sent Nil 0x000)
    ∷ []

-- ---- Words and outputs

abbrev pub words : List Row
words =
    row up (burst tp0 0 600 64) (Sent Rep 0x102)
    ∷ row up (burst tp0 mistimed 600 64) (Sent Jam 0x102)
    ∷ row up (clash both 0 600 100 300) (Sent Jam 0x103)
    ∷ row up (burst aui_port 0 600 64) (Sent Rep 0x003)
    ∷ row up (clash aui_port signal 600 100 300) (Sent Jam 0x003)
    ∷ row up (clash 0 signal 600 100 300) (Sent Jam 0x003)
    ∷ row up (burst 0b000000100 0 600 64) (Sent Nil 0x000)
    ∷ []

-- ---- Status bits: PBSL0000, the TP ports' rate errors, M

abbrev pub reports : List Row
reports =
    gets [] 0x89 0x80
    ∷ gets (burst aui_port tested 100 0 ∷ []) 0x89 0xa0
    ∷ gets (up ++ (burst tp0 unlooped 100 0 ∷ [])) 0x89 0x90
    ∷ gets (burst aui_port unlooped 100 0 ∷ []) 0x89 0x80
    ∷ gets (burst aui_port mistimed 100 0 ∷ []) 0x89 0xc0
    -- which Get clears which
    ∷ gets (burst aui_port tested 100 0 ∷ through_g 0x89) 0x89 0xa0
    ∷ gets (burst aui_port tested 100 0 ∷ through_g 0x8b) 0x89 0x80
    ∷ gets (burst aui_port tested 100 0 ∷ through_g 0x8d) 0x89 0xa0
    ∷ gets (burst aui_port tested 100 0 ∷ through_g 0x8f) 0x89 0x80
    ∷ gets (up ++ (burst tp0 unlooped 100 0 ∷ through_g 0x8b)) 0x89 0x80
    ∷ gets (burst aui_port mistimed 100 0 ∷ through_g 0x8b) 0x89 0xc0
    ∷ gets (burst aui_port mistimed 100 0 ∷ through_g 0x8d) 0x89 0x80
    ∷ gets (burst aui_port mistimed 100 0 ∷ through_g 0x8f) 0x89 0x80
    ∷ gets (burst aui_port mistimed 100 0 ∷ through_g 0xa0) 0x89 0xc0
    ∷ gets (burst aui_port tested 100 0 ∷ reset_record ∷ []) 0x89 0x80
    -- the TP ports' rate errors: of a single heard port alone
    ∷ gets (up ++ (burst tp1 mistimed 100 0 ∷ [])) 0xa0 0x02
    ∷ gets (up ++ (clash both mistimed 100 0 0 ∷ [])) 0xa0 0x00
    ∷ gets (up ++ (burst tp1 mistimed 100 0 ∷ through_g 0xa0)) 0xa0 0x00
    ∷ gets (up ++ (burst tp1 mistimed 100 0 ∷ through_g 0x8f)) 0xa0 0x02
    -- M: long enough, and something goes out
    ∷ gets (up ++ (burst tp0 0 65536 64 ∷ [])) 0xf0 0x00
    ∷ gets (up ++ (burst tp0 0 65537 64 ∷ [])) 0xf0 0x80
    ∷ gets (burst tp0 0 65537 64 ∷ []) 0xf0 0x00
    ∷ gets (up ++ (burst tp0 0 65537 64 ∷ through_g 0xf0)) 0xf0 0x00
    ∷ gets [] 0xff 0x01
    ∷ []

-- ---- G, the interface error, numbers of refusals

abbrev pub hosts : List Row
hosts =
    -- a Set leaves G, a Get through S fills it
    gets [] 0x80 0xff
    ∷ row (through_g 0xff ++ through_s 0x10 ++ (c_write_record 0xff ∷ [])) d_read_record (Value 0x01)
    ∷ row (through_s 0xff ++ (c_write_record 0xff ∷ [])) d_read_record (Value 0x01)
    ∷ row (through_g 0xff ++ (reset_record ∷ select 0 31)) d_read_record (Value 0x00)
    -- the error
    ∷ shows (through_s 0x10) 0x00
    ∷ shows (through_g 0xff) 0x00
    ∷ shows (through_s 0xff) 0x40
    ∷ shows (through_g 0x10) 0x40
    ∷ shows (through_g 0x10 ++ (c_read_record ∷ [])) 0x00
    ∷ shows (through_g 0x10 ++ (reset_record ∷ [])) 0x00
    -- what is turned away
    ∷ row (select 3 14) d_read_record (Refused 5)
    ∷ row (select 1 5) d_read_record (Refused 5)
    ∷ row (select 16 13) d_read_record (Refused 5)
    ∷ row (select 24 0) d_read_record (Refused 5)
    ∷ row (select 0 30) d_read_record (Refused 6)
    ∷ row (select 0 28) (d_write_record 0) (Refused 6)
    ∷ row (select 1 0) (d_write_record 0) (Refused 6)
    ∷ row (select 0 31) (d_write_record 0x00) (Refused 4)
    ∷ row (select 0 30) (d_write_record 0x28) (Refused 4)
    ∷ row [] (c_write_record 0x20) (Refused 7)
    ∷ row (select 0 28) d_read_record (Value 0x01)
    ∷ []

-- ---- Change bits, enables and the interrupt

abbrev pub enable : ℕ → ℕ → List (List ℕ)
enable r b = select 2 r ++ (d_write_record b ∷ [])

-- a frame of TP0 from somebody
abbrev pub frame : List (List ℕ)
frame = burst_record tp0 0 600 64 0 0 0 someone ∷ []

abbrev pub noticing : List Row
noticing =
    -- partition, of TP0 and TP1 and of AUI
    holds (up ++ (clash both 0 2000 0 1025 ∷ [])) 1 0 0x03
    ∷ holds (up ++ (clash both 0 2000 0 1025 ∷ [])) 1 1 0x00
    ∷ holds aui_parted 1 1 0x80
    ∷ holds (aui_parted ++ select 1 1 ++ (d_read_record ∷ own)) 1 1 0x80
    -- links
    ∷ holds up 1 2 0x03
    ∷ holds (up ++ select 1 2 ++ (d_read_record ∷ [])) 1 2 0x00
    ∷ holds (up ++ select 0 30 ++ (d_read_record ∷ [])) 1 2 0x03
    ∷ holds (up ++ select 2 2 ++ (d_read_record ∷ [])) 1 2 0x03
    ∷ holds (up ++ (reset_record ∷ [])) 1 2 0x00
    ∷ holds (through_s 0x40) 1 2 0x01
    -- loopback and SQE Test, and the source addresses
    ∷ holds (up ++ (burst tp0 unlooped 100 0 ∷ [])) 1 3 0x80
    ∷ holds (burst aui_port unlooped 100 0 ∷ []) 1 3 0x00
    ∷ holds (burst aui_port tested 100 0 ∷ []) 1 4 0x80
    ∷ holds (up ++ frame) 1 6 0x01
    ∷ holds (up ++ frame) 1 7 0x00
    ∷ holds (burst_record aui_port 0 600 64 0 0 0 someone ∷ []) 1 7 0x80
    ∷ holds (up ++ frame ++ select 1 6 ++ (d_read_record ∷ []) ++ frame) 1 6 0x00
    -- enables: as written, or bit 7 of it; a reset takes them away
    ∷ holds (enable 0 0x5a) 2 0 0x5a
    ∷ holds (enable 1 0xff) 2 1 0x80
    ∷ holds (enable 2 0x7f) 2 2 0x7f
    ∷ holds (enable 3 0x7f) 2 3 0x00
    ∷ holds (enable 4 0xff) 2 4 0x80
    ∷ holds (enable 6 0x41) 2 6 0x41
    ∷ holds (enable 7 0xff) 2 7 0x80
    ∷ holds (enable 0 0x5a ++ (reset_record ∷ [])) 2 0 0x00
    -- the interrupt: each bit by its own enable
    ∷ shows up 0x00
    ∷ shows (up ++ enable 2 0x02) 0x80
    ∷ shows (up ++ enable 2 0xfc) 0x00
    ∷ shows (up ++ enable 1 0xff) 0x00
    ∷ shows (up ++ (clash both 0 2000 0 1025 ∷ enable 0 0x01)) 0x80
    ∷ shows (up ++ (clash both 0 2000 0 1025 ∷ enable 1 0xff)) 0x00
    ∷ shows (aui_parted ++ enable 1 0x80) 0x80
    ∷ shows (aui_parted ++ enable 0 0xff) 0x00
    ∷ shows (up ++ enable 2 0x02 ++ select 1 2 ++ (d_read_record ∷ [])) 0x00
    ∷ []

-- ---- Counters: their lowest bytes; TP0 is P 16, TP1 is P 17, AUI is P 31

abbrev pub alone : ℕ → ℕ → ℕ → ℕ → List (List ℕ)
alone flags d n k = up ++ (burst_record tp0 flags d n k 0 0 no_address ∷ [])

abbrev pub credits : List Row
credits =
    -- the classes
    holds (alone 0 77 9 0) 16 5 1
    ∷ holds (alone 0 78 9 0) 16 5 0
    ∷ holds (alone 0 78 9 0) 16 6 1
    ∷ holds (alone 0 13000 63 0) 16 6 1
    ∷ holds (alone 0 13000 64 0) 16 0 1
    ∷ holds (alone 0 13000 64 0) 16 1 64
    ∷ holds (alone 0 13000 1518 0) 16 0 1
    ∷ holds (alone 0 13000 1519 0) 16 0 0
    ∷ holds (alone 0 13000 1519 0) 16 4 1
    ∷ holds (alone bad 13000 64 0) 16 2 1
    ∷ holds (alone bad 13000 64 0) 16 3 0
    ∷ holds (alone bad 13000 64 3) 16 3 1
    ∷ holds (alone bad 13000 64 3) 16 0 0
    ∷ holds (alone 0 13000 64 3) 16 0 1
    -- collisions, late ones, very long events: every heard port
    ∷ holds (up ++ (clash both 0 600 512 10 ∷ [])) 16 7 1
    ∷ holds (up ++ (clash both 0 600 512 10 ∷ [])) 17 7 1
    ∷ holds (up ++ (clash both 0 600 512 10 ∷ [])) 17 8 0
    ∷ holds (up ++ (clash both 0 600 513 10 ∷ [])) 17 8 1
    ∷ holds (clash aui_port signal 600 513 10 ∷ []) 31 7 1
    ∷ holds (clash aui_port signal 600 513 10 ∷ []) 31 8 1
    ∷ holds (clash aui_port signal 600 64 0 ∷ []) 31 6 0
    ∷ holds (up ++ (clash both 0 65537 0 0 ∷ [])) 16 9 1
    ∷ holds (up ++ (clash both 0 65537 0 0 ∷ [])) 17 9 1
    ∷ holds (alone 0 65536 64 0) 16 9 0
    ∷ holds (alone 0 65537 64 0) 16 9 1
    -- rate mismatches, auto partitions, address changes
    ∷ holds (alone mistimed 552 64 0) 16 10 0
    ∷ holds (alone mistimed 553 64 0) 16 10 1
    ∷ holds (alone mistimed 553 64 0) 16 0 1
    ∷ holds (up ++ (clash both mistimed 600 0 0 ∷ [])) 16 10 0
    ∷ holds (up ++ (clash both 0 2000 0 1025 ∷ [])) 17 11 1
    ∷ holds (up ++ frame) 16 12 1
    ∷ holds (up ++ frame ++ frame) 16 12 1
    ∷ holds (up ++ (burst tp0 0 600 64 ∷ [])) 16 12 0
    ∷ holds (up ++ (burst_record tp0 mistimed 600 64 0 0 0 someone ∷ [])) 16 12 1
    -- the two totals, and what a reset leaves
    ∷ holds (up ++ (clash both 0 600 0 0 ∷ [])) 0 12 1
    ∷ holds (clash aui_port signal 600 0 0 ∷ []) 0 12 0
    ∷ holds (alone 0 600 64 0) 0 13 64
    ∷ holds (alone 0 600 63 0) 0 13 0
    ∷ holds (alone 0 600 64 0 ++ (reset_record ∷ [])) 16 1 64
    ∷ []

-- ---- The limit of short events

-- with that limit, what TP0's Short Events and Runts hold after these records
abbrev pub parted : ℕ → List (List ℕ) → ℕ → ℕ → List Row
parted limit before shorts runts = holds_with limit before 16 5 shorts ∷ holds_with limit before 16 6 runts ∷ []

-- of TP0, heard alone for so many bit times: each of the seven limits, one bit time below it and at it; and two bursts at the limit with a reset between them
abbrev pub limits : List Row
limits =
    parted 75 (alone 0 74 9 0) 1 0
    ++ parted 75 (alone 0 75 9 0) 0 1
    ++ parted 76 (alone 0 75 9 0) 1 0
    ++ parted 76 (alone 0 76 9 0) 0 1
    ++ parted 77 (alone 0 76 9 0) 1 0
    ++ parted 77 (alone 0 77 9 0) 0 1
    ++ parted 78 (alone 0 77 9 0) 1 0
    ++ parted 78 (alone 0 78 9 0) 0 1
    ++ parted 79 (alone 0 78 9 0) 1 0
    ++ parted 79 (alone 0 79 9 0) 0 1
    ++ parted 80 (alone 0 79 9 0) 1 0
    ++ parted 80 (alone 0 80 9 0) 0 1
    ++ parted 81 (alone 0 80 9 0) 1 0
    ++ parted 81 (alone 0 81 9 0) 0 1
    ++ parted 77 (alone 0 77 9 0 ++ (reset_record ∷ []) ++ alone 0 77 9 0) 0 2

-- ---- Byte sequences and address writes

abbrev pub reads : ℕ → List (List ℕ)
reads n = replicate n d_read_record

abbrev pub writes : List ℕ → List (List ℕ)
writes [] = []
writes (b ∷ bs) = d_write_record b ∷ writes bs

-- 300 octets of TP0, which are 2C 01 00 00
abbrev pub octets : List (List ℕ)
octets = up ++ (burst tp0 0 13000 300 ∷ [])

abbrev pub sequences : List Row
sequences =
    row (octets ++ select 16 1) d_read_record (Value 0x2c)
    ∷ row (octets ++ select 16 1 ++ reads 1) d_read_record (Value 0x01)
    ∷ row (octets ++ select 16 1 ++ reads 4) d_read_record (Value 0x2c)
    -- a burst between the bytes, and a C write, a C read, a refused record between them
    ∷ row (octets ++ select 16 1 ++ reads 1 ++ (burst tp0 0 13000 300 ∷ [])) d_read_record (Value 0x01)
    ∷ row (octets ++ select 16 1 ++ (burst tp0 0 13000 300 ∷ reads 1)) d_read_record (Value 0x02)
    ∷ row (octets ++ select 16 1 ++ reads 1 ++ (c_write_record 0xe1 ∷ [])) d_read_record (Value 0x2c)
    ∷ row (octets ++ select 16 1 ++ reads 1 ++ (c_read_record ∷ c_write_record 0x20 ∷ [])) d_read_record (Value 0x01)
    ∷ row (octets ++ select 16 1 ++ reads 1 ++ (d_write_record 0 ∷ [])) d_read_record (Value 0x01)
    -- the sixth byte completes an address, and none before; a turn begins anew
    ∷ row (select 16 14 ++ writes someone) d_read_record (Value 2)
    ∷ row (select 16 14 ++ writes someone ++ reads 5) d_read_record (Value 9)
    ∷ row (select 16 14 ++ writes (2 ∷ 0 ∷ 0 ∷ 7 ∷ 8 ∷ [])) d_read_record (Value 0)
    ∷ row (select 16 14 ++ writes (2 ∷ 0 ∷ 0 ∷ []) ++ reads 1 ++ writes someone) d_read_record (Value 2)
    ∷ holds (select 16 14 ++ writes someone) 16 12 0
    ∷ holds (up ++ select 16 14 ++ writes someone ++ frame) 16 12 0
    ∷ row (up ++ frame ++ select 16 14 ++ reads 3) d_read_record (Value 7)
    ∷ row (select 31 14 ++ writes someone ++ select 16 14) d_read_record (Value 0)
    ∷ []

abbrev pub sample : List (List ℕ)
sample =
    replicate 4 (pulse_record 3)
    ++ (burst_record 1 0 1000 64 0 0 0 no_address
    ∷ c_write_record 0x10
    ∷ c_write_record 0xe0
    ∷ d_read_record
    ∷ burst_record 3 0 600 0 0 100 300 no_address
    ∷ set tick_record 2 1
    ∷ [])

abbrev pub sample_answers : List Answer
sample_answers = replicate 4 Done ++ (Sent Rep 0x102 ∷ Done ∷ Done ∷ Value 0x01 ∷ Sent Jam 0x103 ∷ Refused 8 ∷ [])
