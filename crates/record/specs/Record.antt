-- Document 01, section 'Record': where each field stands, what each kind uses, and what must be zero.
-- The contracts of src/ and the table of refusals cite it.
--     record_length        how many bytes a record has
--     place f             the first and the last byte of the field f
--     byte_at s i          byte i of the bytes s; 0 where s ends before it
--     bytes_in s f         the bytes of the field f, in order
--     number_in s f        the number in the field f
--     byte_in s f          the number in a field of one byte
--     bit number i        bit i of the number is one
--     bit_above i number   some bit of the number above bit i is one
--     last_flag            the highest bit of the flags that means something
--     burst_of s           the fields of a burst
--     burst_kind, ..       the number of each kind
--     kinds               the table of kinds: number, fields used, what is asked for
--     find es number      the kind with that number, if the table es has one
--     must_be_zero fs       the places of a record that are in none of the fields fs
--     all_zero s is        the bytes of s at the places is are all zero
--     stray number s      it is no kind's number, or a part of s that must be zero in that kind is not
-- Assumes nothing.
use Rattle.std.specs.Prelude.{ℕ, zero, suc, ◌+◌, ◌-◌, ◌/◌, ◌%◌, ◌^◌, List, [], ◌∷◌, Bool, true, false, ◌||◌, ◌&&◌, not, cond, leb, eqb, get_or}
use Rattle.std.proofs.Math.Option.{Option, none, some}
use Rattle.spelling.specs.Spelling.{spelt}
use Rattle.ports.specs.declared.Quiet.{Quiet}
use Rattle.record.specs.declared.Burst.{Burst}
use Rattle.record.specs.declared.Access.{Access}
use Rattle.record.specs.declared.Asked.{Asked}

abbrev pub record_length : ℕ
record_length = 32

pub data Field : Type 0 where
  kind flags mask duration octets dribble written collision_start collision_length source : Field

abbrev pub place : Field → ℕ × ℕ
place kind = (0, 0)
place flags = (1, 1)
place mask = (2, 3)
place duration = (4, 7)
place octets = (8, 11)
place dribble = (12, 12)
place written = (13, 13)
place collision_start = (16, 19)
place collision_length = (20, 23)
place source = (24, 29)

abbrev pub byte_at : List ℕ → ℕ → ℕ
byte_at s i = get_or s i 0

-- byte i and the n bytes after it
unfoldable pub bytes_from : List ℕ → ℕ → ℕ → List ℕ
bytes_from s i zero = byte_at s i ∷ []
bytes_from s i (suc n) = byte_at s i ∷ bytes_from s (i + 1) n

abbrev pub bytes_in : List ℕ → Field → List ℕ
bytes_in s f = bytes_from s (place f).0 ((place f).1 - (place f).0)

abbrev pub number_in : List ℕ → Field → ℕ
number_in s f = spelt (bytes_in s f)

abbrev pub byte_in : List ℕ → Field → ℕ
byte_in s f = byte_at s (place f).0

abbrev pub bit : ℕ → ℕ → Bool
bit number i = eqb (number / 2 ^ i % 2) 1

-- bits 0 to i alone make less than 2 ^ (i + 1); a higher one makes at least that
abbrev pub bit_above : ℕ → ℕ → Bool
bit_above i number = leb (2 ^ (i + 1)) number

abbrev pub last_flag : ℕ
last_flag = 4

abbrev pub burst_of : List ℕ → Burst
burst_of s =
    record {
      mask = number_in s mask;
      fcs_bad = bit (byte_in s flags) 0;
      rate_error = bit (byte_in s flags) 1;
      collision_signal = bit (byte_in s flags) 2;
      loopback_missing = bit (byte_in s flags) 3;
      sqe_test = bit (byte_in s flags) last_flag;
      d = number_in s duration;
      n = number_in s octets;
      k = byte_in s dribble;
      c = number_in s collision_start;
      x = number_in s collision_length;
    }

abbrev pub burst_kind : ℕ
burst_kind = 1

abbrev pub pulse_kind : ℕ
pulse_kind = 2

abbrev pub tick_kind : ℕ
tick_kind = 3

abbrev pub c_write_kind : ℕ
c_write_kind = 4

abbrev pub d_write_kind : ℕ
d_write_kind = 5

abbrev pub c_read_kind : ℕ
c_read_kind = 6

abbrev pub d_read_kind : ℕ
d_read_kind = 7

abbrev pub reset_kind : ℕ
reset_kind = 8

pub record Kind : Type 0 where
  pub number : ℕ
  pub uses : List Field
  pub asks : List ℕ → Asked

abbrev entry : ℕ → List Field → (List ℕ → Asked) → Kind
entry number uses asks = record { number = number; uses = uses; asks = asks }

abbrev burst_fields : List Field
burst_fields = kind ∷ flags ∷ mask ∷ duration ∷ octets ∷ dribble ∷ collision_start ∷ collision_length ∷ source ∷ []

abbrev pub kinds : List Kind
kinds =
    entry burst_kind burst_fields (λ s. Asked.Burst (burst_of s))
    ∷ entry pulse_kind (kind ∷ mask ∷ []) (λ s. Asked.Quiet (Quiet.Pulse (number_in s mask)))
    ∷ entry tick_kind (kind ∷ []) (λ s. Asked.Quiet Quiet.Tick)
    ∷ entry c_write_kind (kind ∷ written ∷ []) (λ s. Asked.Access (Access.WriteC (byte_in s written)))
    ∷ entry d_write_kind (kind ∷ written ∷ []) (λ s. Asked.Access (Access.WriteD (byte_in s written)))
    ∷ entry c_read_kind (kind ∷ []) (λ s. Asked.Access Access.ReadC)
    ∷ entry d_read_kind (kind ∷ []) (λ s. Asked.Access Access.ReadD)
    ∷ entry reset_kind (kind ∷ []) (λ s. Asked.Reset)
    ∷ []

unfoldable pub find : List Kind → ℕ → Option Kind
find [] number = none
find (e ∷ es) number = cond (eqb number e.number) (some e) (find es number)

-- place i is in one of the fields
unfoldable pub used : List Field → ℕ → Bool
used [] i = false
used (f ∷ fs) i = leb (place f).0 i && leb i (place f).1 || used fs i

abbrev pub unless : Bool → ℕ → List ℕ → List ℕ
unless true i is = is
unless false i is = i ∷ is

-- of the n places from i on, those that are in none of the fields
unfoldable pub unused : List Field → ℕ → ℕ → List ℕ
unused fs i zero = []
unused fs i (suc n) = unless (used fs i) i (unused fs (i + 1) n)

abbrev pub must_be_zero : List Field → List ℕ
must_be_zero fs = unused fs 0 record_length

unfoldable pub all_zero : List ℕ → List ℕ → Bool
all_zero s [] = true
all_zero s (i ∷ is) = eqb (byte_at s i) 0 && all_zero s is

-- where the flags are used, those above the last must be zero too
abbrev pub stray_for : Option Kind → List ℕ → Bool
stray_for none s = true
stray_for (some e) s = not (all_zero s (must_be_zero e.uses)) || bit_above last_flag (byte_in s flags)

unfoldable pub stray : ℕ → List ℕ → Bool
stray number s = stray_for (find kinds number) s
