-- Document 01, 'Host registers': the record may be lent in any state, and a byte place past the register's last byte counts as the first. Assumes nothing.
--   far                     == AUI's address is selected, its bytes are read, and the place is 200
--   two_hundred             == a read and a write of it take the first byte, and so does a read of one byte at place 1
--   past_is_first           == the place that an access takes
--   reads_first, writes_first == a read, and a write, of a register of n bytes: what they do where the sequence stands at its first byte
use Prim.Native.Nat.{ℕ, ◌≤◌}
use mathlib.Core.Path.{◌≡◌, refl, sym, ◌∙◌, ap}
use mathlib.Core.Bool.{Bool, true, false, cond, beq}
use mathlib.Core.List.{List, [], ◌∷◌}
use borrow.Author.Tests.{le-ltb}
use lib.Dec.{ltb}
use Rattle.host.specs.declared.Host.{Host}
use Rattle.host.specs.declared.Reading.{Reading}
use Rattle.host.specs.declared.Writing.{Writing}
use Rattle.host.specs.Sequence.{restarted, with_sequence, read_at, wrote_at, place_for, is_last, next_place, copied, read_byte, wrote_byte}

abbrev far : Bool → Host
far writing = record { page = 31; register = 14; bytes = 1 ∷ 2 ∷ 3 ∷ 4 ∷ 5 ∷ 6 ∷ []; place = 200; writing = writing }

abbrev value : List ℕ
value = 21 ∷ 22 ∷ 23 ∷ 24 ∷ 25 ∷ 26 ∷ []

two_hundred : (read_byte 6 value (far false) ≡ record { host = with_sequence (far false) value 1 false; byte = 21 })
    × (wrote_byte 6 9 (far true) ≡ record { host = with_sequence (far true) (9 ∷ 2 ∷ 3 ∷ 4 ∷ 5 ∷ 6 ∷ []) 1 true; complete = false })
    × ((read_byte 1 value (with_sequence (far false) (1 ∷ 2 ∷ 3 ∷ 4 ∷ 5 ∷ 6 ∷ []) 1 false)).byte ≡ 21)
unfolding place_for is_last next_place copied read_byte wrote_byte
two_hundred = (refl, refl, refl {a = 21})

pub either_first : (b : Bool) → ◌≡◌ {A = ℕ} (cond b 0 0) 0
either_first true = refl
either_first false = refl

module _ (n : ℕ) (h : Host) where
  pub past_is_first : (w : Bool) → n ≤ h.place → place_for w n h ≡ 0
  unfolding place_for
  past_is_first w l = rw (le-ltb h.place n l) (either_first (beq h.writing w))

  restarted_first : (w : Bool) → place_for w n (restarted h) ≡ 0
  unfolding place_for
  restarted_first w = go (beq h.writing w) (ltb 0 n)
    where
      go : (a b : Bool) → ◌≡◌ {A = ℕ} (cond a (cond b 0 0) 0) 0
      go true b = either_first b
      go false b = refl

  pub reads_first : (v : List ℕ) → n ≤ h.place → read_byte n v h ≡ read_byte n v (restarted h)
  unfolding read_byte
  reads_first v l = ap (λ (i : ℕ). read_at i n v h) (past_is_first false l ∙ sym (restarted_first false))

  pub writes_first : (b : ℕ) → n ≤ h.place → wrote_byte n b h ≡ wrote_byte n b (restarted h)
  unfolding wrote_byte
  writes_first b l = ap (λ (i : ℕ). wrote_at i n b h) (past_is_first true l ∙ sym (restarted_first true))
