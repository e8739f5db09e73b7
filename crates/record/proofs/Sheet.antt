-- Document 01's record and its refusals at chosen bytes: each number, each kind, each limit from both sides, and the order of
-- the rows. The expected answers are read off the paper.
--     numbers_listed        the number of each refusal
--     zero_places           the bytes that must be zero, kind by kind
--     burst                 the bytes of a burst from a chosen address
--     sheet, sheet_holds    bytes with what they ask for, and that they do
--     raw, as_written       the same with every byte that is not zero written out: the number of each kind, each flag, each field
-- Assumes nothing.
use Prim.Native.Nat.{ℕ}
use mathlib.Core.Path.{◌≡◌, refl}
use mathlib.Core.List.{List, [], ◌∷◌, ◌++◌, map}
use mathlib.Core.Bool.{Bool, true, false}
use lib.ListN.{set, replicate}
use Rattle.ports.specs.declared.Quiet.{Quiet}
use Rattle.record.specs.Record.{tick_kind, c_read_kind, bytes_from, Kind, kinds, find, used, unused, must_be_zero, all_zero, stray}
use Rattle.record.specs.Numbers.{number_of}
use Rattle.record.specs.Refusals.{bad_numbers, nothing_active, selects_neither, refusals, first_of, answer, refused, record_of}
use Rattle.record.specs.Records.{from, burst_record, plain_record, pulse_record, tick_record, c_write_record, d_write_record, c_read_record, d_read_record, reset_record}
use Rattle.record.specs.declared.Access.{Access}
use Rattle.record.specs.declared.Asked.{Asked}
use Rattle.record.specs.declared.Refusal.TheVariants as refusal

pub numbers_listed :
    map number_of
    (refusal.NothingActive
    ∷ refusal.BadNumbers
    ∷ refusal.BadMask
    ∷ refusal.UnlistedCommand
    ∷ refusal.UnlistedRegister
    ∷ refusal.WrongDirection
    ∷ refusal.SelectsNeither
    ∷ refusal.StrayBytes
    ∷ refusal.WrongLength
    ∷ [])
    ≡ 1 ∷ 2 ∷ 3 ∷ 4 ∷ 5 ∷ 6 ∷ 7 ∷ 8 ∷ 9 ∷ []
numbers_listed = refl

pub zero_places :
    map (λ (e : Kind). must_be_zero e.uses) kinds
    ≡ (13 ∷ 14 ∷ 15 ∷ 30 ∷ 31 ∷ [])
    ∷ (1 ∷ from 4 28)
    ∷ from 1 31
    ∷ (from 1 12 ++ from 14 18)
    ∷ (from 1 12 ++ from 14 18)
    ∷ from 1 31
    ∷ from 1 31
    ∷ from 1 31
    ∷ []
unfolding unused used
zero_places = refl

abbrev pub address : List ℕ
address = 0xa1 ∷ 0xb2 ∷ 0xc3 ∷ 0xd4 ∷ 0xe5 ∷ 0xf6 ∷ []

abbrev pub burst : (flags mask d n k c x : ℕ) → List ℕ
burst flags mask d n k c x = burst_record mask flags d n k c x address

-- a burst without flags
abbrev plain : (mask d n k c x : ℕ) → Asked
plain mask d n k c x =
    Asked.Burst
    (record {
      mask = mask;
      fcs_bad = false;
      rate_error = false;
      collision_signal = false;
      loopback_missing = false;
      sqe_test = false;
      d = d;
      n = n;
      k = k;
      c = c;
      x = x;
    })

pub record Line : Type 0 where
  pub bytes : List ℕ
  pub asked : Asked

abbrev line : List ℕ → Asked → Line
line s a = record { bytes = s; asked = a }

abbrev kind_lines : List Line
kind_lines =
    line (burst 0 1 1000 64 0 0 0) (plain 1 1000 64 0 0 0)
    ∷ line (pulse_record 3) (Asked.Quiet (Quiet.Pulse 3))
    ∷ line tick_record (Asked.Quiet Quiet.Tick)
    ∷ line (c_write_record 0x10) (Asked.Access (Access.WriteC 0x10))
    ∷ line (d_write_record 0xff) (Asked.Access (Access.WriteD 0xff))
    ∷ line c_read_record (Asked.Access Access.ReadC)
    ∷ line d_read_record (Asked.Access Access.ReadD)
    ∷ line reset_record Asked.Reset
    ∷ []

-- 9: no bytes, one too few, one too many, and before 8
abbrev length_lines : List Line
length_lines =
    line [] (Asked.Refused 9)
    ∷ line (tick_kind ∷ replicate 30 0) (Asked.Refused 9)
    ∷ line (tick_kind ∷ replicate 32 0) (Asked.Refused 9)
    ∷ line (9 ∷ replicate 30 0) (Asked.Refused 9)
    ∷ []

-- 8: kinds 0 and 9; byte 13 of a burst, before 3; its bytes 14, 15, 30, 31 and flag bit 5; a tick's flags and mask; byte 13 of
-- a pulse, before 3; the mask of a C write, before 7; the source address of a D write; byte 13 of a C read
abbrev stray_lines : List Line
stray_lines =
    line (plain_record 0 0 0) (Asked.Refused 8)
    ∷ line (plain_record 9 0 0) (Asked.Refused 8)
    ∷ line (set (burst 0 512 1000 64 0 0 0) 13 1) (Asked.Refused 8)
    ∷ line (set (burst 0 1 1000 64 0 0 0) 14 1) (Asked.Refused 8)
    ∷ line (set (burst 0 1 1000 64 0 0 0) 15 1) (Asked.Refused 8)
    ∷ line (set (burst 0 1 1000 64 0 0 0) 30 1) (Asked.Refused 8)
    ∷ line (set (burst 0 1 1000 64 0 0 0) 31 128) (Asked.Refused 8)
    ∷ line (burst 32 1 1000 64 0 0 0) (Asked.Refused 8)
    ∷ line (set tick_record 1 4) (Asked.Refused 8)
    ∷ line (set tick_record 2 1) (Asked.Refused 8)
    ∷ line (set (pulse_record 256) 13 1) (Asked.Refused 8)
    ∷ line (set (c_write_record 0x20) 3 1) (Asked.Refused 8)
    ∷ line (set (d_write_record 0) 29 1) (Asked.Refused 8)
    ∷ line (plain_record c_read_kind 0 1) (Asked.Refused 8)
    ∷ []

-- 3: bit 9 of a burst's mask, before 2, and bit 8 of a pulse's; not the bits below. A pulse's mask may be 0
abbrev mask_lines : List Line
mask_lines =
    line (burst 0 512 0 0 0 0 0) (Asked.Refused 3)
    ∷ line (burst 0 32768 1000 64 0 0 0) (Asked.Refused 3)
    ∷ line (burst 0 511 1000 64 0 0 0) (plain 511 1000 64 0 0 0)
    ∷ line (pulse_record 256) (Asked.Refused 3)
    ∷ line (pulse_record 255) (Asked.Quiet (Quiet.Pulse 255))
    ∷ line (pulse_record 0) (Asked.Quiet (Quiet.Pulse 0))
    ∷ []

-- 2: d, k, 8n + k and c + x on either side of their limits; sums beyond 2 ^ 32; before 1, and with mask 0 and flag bit 2
abbrev number_lines : List Line
number_lines =
    line (burst 0 1 0 0 0 0 0) (Asked.Refused 2)
    ∷ line (burst 0 1 1 0 0 0 0) (plain 1 1 0 0 0 0)
    ∷ line (burst 0 1 1000000 0 0 0 0) (plain 1 1000000 0 0 0 0)
    ∷ line (burst 0 1 1000001 0 0 0 0) (Asked.Refused 2)
    ∷ line (burst 0 1 1000 0 7 0 0) (plain 1 1000 0 7 0 0)
    ∷ line (burst 0 1 1000 0 8 0 0) (Asked.Refused 2)
    ∷ line (burst 0 1 515 64 3 0 0) (plain 1 515 64 3 0 0)
    ∷ line (burst 0 1 514 64 3 0 0) (Asked.Refused 2)
    ∷ line (burst 0 1 1000 536870912 0 0 0) (Asked.Refused 2)
    ∷ line (burst 0 3 600 0 0 300 300) (plain 3 600 0 0 300 300)
    ∷ line (burst 0 3 600 0 0 300 301) (Asked.Refused 2)
    ∷ line (burst 0 3 600 0 0 4294967295 1) (Asked.Refused 2)
    ∷ line (burst 0 0 0 0 0 0 0) (Asked.Refused 2)
    ∷ line (burst 4 0 0 0 0 0 0) (Asked.Refused 2)
    ∷ []

-- 1: mask 0, unless flag bit 2 is set, whatever the other flags
abbrev port_lines : List Line
port_lines =
    line (burst 0 0 1000 64 0 0 0) (Asked.Refused 1)
    ∷ line (burst 27 0 1000 64 0 0 0) (Asked.Refused 1)
    ∷ line (burst 31 0 1000 64 0 0 0)
    (Asked.Burst
    (record {
      mask = 0;
      fcs_bad = true;
      rate_error = true;
      collision_signal = true;
      loopback_missing = true;
      sqe_test = true;
      d = 1000;
      n = 64;
      k = 0;
      c = 0;
      x = 0;
    }))
    ∷ []

-- 7: the first and the last byte that selects nothing, and their neighbours. It is no refusal of a D write
abbrev select_lines : List Line
select_lines =
    line (c_write_record 0x1f) (Asked.Access (Access.WriteC 0x1f))
    ∷ line (c_write_record 0x20) (Asked.Refused 7)
    ∷ line (c_write_record 0xdf) (Asked.Refused 7)
    ∷ line (c_write_record 0xe0) (Asked.Access (Access.WriteC 0xe0))
    ∷ line (d_write_record 0x20) (Asked.Access (Access.WriteD 0x20))
    ∷ []

abbrev pub sheet : List Line
sheet = kind_lines ++ length_lines ++ stray_lines ++ mask_lines ++ number_lines ++ port_lines ++ select_lines

pub sheet_holds : map (λ (l : Line). (record_of l.bytes).asked) sheet ≡ map (λ (l : Line). l.asked) sheet
unfolding record_of answer first_of refusals selects_neither nothing_active bad_numbers stray all_zero unused used find bytes_from
sheet_holds = refl

-- 32 zeros but for these bytes, by their place
abbrev raw : List (ℕ × ℕ) → List ℕ
raw [] = replicate 32 0
raw (b ∷ bs) = set (raw bs) b.0 b.1

-- a burst of TP0 for 2 bit times, with this flag byte
abbrev flags : ℕ → List ℕ
flags f = raw ((0, 1) ∷ (1, f) ∷ (2, 1) ∷ (4, 2) ∷ [])

-- the same, with its five flags
abbrev marked : (fcs rate signal loopback sqe : Bool) → Asked
marked fcs rate signal loopback sqe =
    Asked.Burst
    (record {
      mask = 1;
      fcs_bad = fcs;
      rate_error = rate;
      collision_signal = signal;
      loopback_missing = loopback;
      sqe_test = sqe;
      d = 2;
      n = 0;
      k = 0;
      c = 0;
      x = 0;
    })

-- kinds 1 to 8 in order, the first with a number in every field, and 9; then each flag by itself
abbrev raw_lines : List Line
raw_lines =
    line (raw ((0, 1) ∷ (2, 2) ∷ (3, 1) ∷ (4, 8) ∷ (5, 9) ∷ (6, 10) ∷ (8, 3) ∷ (9, 2) ∷ (10, 1) ∷ (12, 5) ∷ (16, 7) ∷ (17, 6) ∷ (18, 4) ∷ (20, 3) ∷ (21, 2) ∷ (22, 1) ∷ []))
    (plain 0x0102 0x0a0908 0x010203 5 0x040607 0x010203)
    ∷ line (raw ((0, 2) ∷ (2, 0xa5) ∷ [])) (Asked.Quiet (Quiet.Pulse 0xa5))
    ∷ line (raw ((0, 3) ∷ [])) (Asked.Quiet Quiet.Tick)
    ∷ line (raw ((0, 4) ∷ (13, 0xe3) ∷ [])) (Asked.Access (Access.WriteC 0xe3))
    ∷ line (raw ((0, 5) ∷ (13, 0xe3) ∷ [])) (Asked.Access (Access.WriteD 0xe3))
    ∷ line (raw ((0, 6) ∷ [])) (Asked.Access Access.ReadC)
    ∷ line (raw ((0, 7) ∷ [])) (Asked.Access Access.ReadD)
    ∷ line (raw ((0, 8) ∷ [])) Asked.Reset
    ∷ line (raw ((0, 9) ∷ [])) (Asked.Refused 8)
    ∷ line (flags 0b00001) (marked true false false false false)
    ∷ line (flags 0b00010) (marked false true false false false)
    ∷ line (flags 0b00100) (marked false false true false false)
    ∷ line (flags 0b01000) (marked false false false true false)
    ∷ line (flags 0b10000) (marked false false false false true)
    ∷ []

pub as_written : map (λ (l : Line). l.asked) raw_lines ≡ map (λ (l : Line). (record_of l.bytes).asked) raw_lines
unfolding record_of answer first_of refusals selects_neither nothing_active bad_numbers stray all_zero unused used find bytes_from
as_written = refl

-- the source address, bytes 24 to 29 in order, and beside a refusal
pub source_in_order : (record_of (burst 0 1 1000 64 0 0 0)).source ≡ address
unfolding record_of answer first_of refusals selects_neither nothing_active bad_numbers stray all_zero unused used find bytes_from
source_in_order = refl

pub source_refused : record_of (burst 0 1 0 64 0 0 0) ≡ refused 2
unfolding record_of answer first_of refusals selects_neither nothing_active bad_numbers stray all_zero unused used find bytes_from
source_refused = refl
