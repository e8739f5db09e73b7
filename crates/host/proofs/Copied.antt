-- Document 01, 'Host registers': bytes come from a copy made at the first. Assumes nothing.
use Prim.Native.Nat.{ℕ, suc, ◌+◌, ◌^◌, ◌≤◌, ◌<◌}
use mathlib.Core.Path.{◌≡◌, refl, ◌∙◌, ap}
use mathlib.Core.Bool.{false}
use mathlib.Core.List.{List, [], ◌∷◌}
use native.Mathlib.Omega.{arith}
use native.Mathlib.Numerals.{one-add}
use native.Mathlib.Nat.{add-zero}
use borrow.Author.Tests.{ne_eqb}
use lib.ListN.{length, get_or, take, drop, replicate}
use lib.Seq.{drop-cons}
use Rattle.host.specs.declared.Host.{Host}
use Rattle.host.specs.declared.Reading.{Reading}
use Rattle.spelling.specs.Spelling.{spelt}
use Rattle.host.specs.Bytes.{spread_of}
use Rattle.host.specs.Sequence.{power_up, with_sequence, place_for, is_last, next_place, copied, read_byte}
use Rattle.host.specs.InARow.{read_bytes, after_reads}
use Rattle.host.proofs.Places.{next_on, next_over, goes_on}

-- two reads of four, the second of a register that has changed
two_of_four : (place_for false 4 power_up ≡ 0)
    × (read_bytes 4 (spread_of 0x04030201 ∷ spread_of 0 ∷ []) power_up ≡ 1 ∷ 2 ∷ [])
    × ((after_reads 4 (spread_of 0x04030201 ∷ spread_of 0 ∷ []) power_up).place ≡ 2)
unfolding read_bytes after_reads read_byte place_for copied next_place is_last
two_of_four = (refl, refl, refl)

-- a read at the first byte, and one further on
abbrev gives : ℕ → List ℕ → Host → ℕ → Reading
gives n bs h i = record { host = with_sequence h bs (next_place n i) false; byte = get_or bs i 0 }

pub read_first : (n : ℕ) (v : List ℕ) (h : Host) → place_for false n h ≡ 0 → read_byte n v h ≡ gives n v h 0
unfolding read_byte copied
read_first n v h e = rw e

pub read_on : (n : ℕ) (v bs : List ℕ) (h : Host) (i : ℕ) → 0 < i → i < n → read_byte n v (with_sequence h bs i false) ≡ gives n bs h i
unfolding read_byte copied
read_on n v bs h i l u = simp (goes_on n h bs false i u, ne_eqb i 0 (λ e. omega arith))

-- reads that go on in a sequence, from a place that is not the first
module _ (n : ℕ) (bs : List ℕ) (h : Host) where
  on_bytes : (i : ℕ) (v : List ℕ) (vs : List (List ℕ)) → n ≤ length bs → 0 < i → i + length vs < n
      → read_bytes n (v ∷ vs) (with_sequence h bs i false) ≡ take (suc (length vs)) (drop i bs)
  unfolding read_bytes
  on_bytes i v [] f l u = rw (read_on n v bs h i l (omega arith), drop-cons bs i 0 (omega arith))
  on_bytes i v (w ∷ vs) f l u =
      rw (read_on n v bs h i l (omega arith), next_on n i (omega arith), drop-cons bs i 0 (omega arith))
      (ap (λ (t : List ℕ). get_or bs i 0 ∷ t) (on_bytes (suc i) w vs f (omega arith) (omega arith)))

  on_host : (i : ℕ) (v : List ℕ) (vs : List (List ℕ)) → 0 < i → i + length vs < n
      → after_reads n (v ∷ vs) (with_sequence h bs i false) ≡ with_sequence h bs (next_place n (i + length vs)) false
  unfolding after_reads
  on_host i v [] l u = rw (add-zero i) (ap (λ (x : Reading). x.host) (read_on n v bs h i l (omega arith)))
  on_host i v (w ∷ vs) l u =
      let e : suc i + length vs ≡ i + suc (length vs) = omega arith in
      rw (read_on n v bs h i l (omega arith), next_on n i (omega arith), ← e)
      (on_host (suc i) w vs (omega arith) (omega arith))

-- Reads in a row from the first byte on, no more than the register has bytes: they give the bytes of the value that it held
-- at the first of them, whatever it held at the later ones.
pub record Copied (n : ℕ) (v : List ℕ) (vs : List (List ℕ)) (h : Host) : Type 0 where
  pub bytes : read_bytes n (v ∷ vs) h ≡ take (suc (length vs)) v
  pub host : after_reads n (v ∷ vs) h ≡ with_sequence h v (next_place n (length vs)) false

pub copied_at_the_first : (n : ℕ) (v : List ℕ) (vs : List (List ℕ)) (h : Host) → place_for false n h ≡ 0 → n ≤ length v → length vs < n
    → Copied n v vs h
unfolding read_bytes after_reads
copied_at_the_first n [] vs h e f u = absurd (omega arith)
copied_at_the_first n (b ∷ v) [] h e f u =
    record { bytes = rw (read_first n (b ∷ v) h e); host = ap (λ (x : Reading). x.host) (read_first n (b ∷ v) h e) }
copied_at_the_first n (b ∷ v) (w ∷ vs) h e f u =
    record {
      bytes =
          rw (read_first n (b ∷ v) h e, next_on n 0 (omega arith))
          (ap (λ (t : List ℕ). b ∷ t) (on_bytes n (b ∷ v) h 1 w vs f (omega arith) (omega arith)));
      host =
          rw (read_first n (b ∷ v) h e, next_on n 0 (omega arith), ← (one-add (length vs)))
          (on_host n (b ∷ v) h 1 w vs (omega arith) (omega arith));
    }

-- As many reads as the register has bytes give the whole of that value, and the sequence is at its first byte again.
pub record Whole (n : ℕ) (v : List ℕ) (vs : List (List ℕ)) (h : Host) : Type 0 where
  pub bytes : read_bytes n (v ∷ vs) h ≡ take n v
  pub host : after_reads n (v ∷ vs) h ≡ with_sequence h v 0 false

-- the four bytes of a counter, and the six of an address, each of a register that has changed after the first
a_counter : (read_bytes 4 (spread_of 0x04030201 ∷ replicate 3 (spread_of 0)) power_up ≡ 1 ∷ 2 ∷ 3 ∷ 4 ∷ [])
    × ((after_reads 4 (spread_of 0x04030201 ∷ replicate 3 (spread_of 0)) power_up).place ≡ 0)
unfolding read_bytes after_reads read_byte place_for copied next_place is_last
a_counter = (refl, refl)

an_address : read_bytes 6 ((2 ∷ 0 ∷ 0 ∷ 7 ∷ 8 ∷ 9 ∷ []) ∷ replicate 5 (spread_of 0)) power_up ≡ 2 ∷ 0 ∷ 0 ∷ 7 ∷ 8 ∷ 9 ∷ []
unfolding read_bytes read_byte place_for copied next_place is_last
an_address = refl

pub whole_value : (n : ℕ) (v : List ℕ) (vs : List (List ℕ)) (h : Host) → place_for false n h ≡ 0 → n ≤ length v → n ≡ suc (length vs)
    → Whole n v vs h
whole_value n v vs h e f s =
    let k = copied_at_the_first n v vs h e f (omega arith) in
    record {
      bytes = rw s (rw s at k.bytes);
      host = k.host ∙ rw (next_over n (length vs) (omega arith));
    }

-- The four bytes of a register that held v spell v.
spells_a_counter : spelt (read_bytes 4 (spread_of 0xfedcba98 ∷ replicate 3 (spread_of 0)) power_up) ≡ 0xfedcba98
unfolding read_bytes read_byte place_for copied next_place is_last
spells_a_counter = refl

pub four_bytes : (v : ℕ) (vs : List (List ℕ)) (h : Host) → place_for false 4 h ≡ 0 → length vs ≡ 3 → v < 2 ^ 32
    → spelt (read_bytes 4 (spread_of v ∷ vs) h) ≡ v
four_bytes v vs h e s b = rw (whole_value 4 (spread_of v) vs h e (omega arith) (omega arith)).bytes (omega arith)
