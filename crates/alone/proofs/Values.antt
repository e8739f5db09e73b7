-- What a register holds is what the past says of it, byte by byte. Assumes nothing.
--   value_seen == of every register that can be selected
use Prim.Native.Nat.{ℕ, zero, suc, ◌<◌}
use mathlib.Core.Path.{◌≡◌, refl, ap, ◌∙◌}
use mathlib.Core.Bool.{Bool, true, false, ◌&&◌, ◌||◌, false≢true}
use mathlib.Core.List.{List}
use native.Mathlib.Omega.{arith}
use borrow.Author.Tests.{ltb-true, leb-true, leb-false, lt-leb}
use lib.Dec.{leb, ltb}
use lib.ListN.{get_or}
use Rattle.ports.specs.Sets.{port_count}
use Rattle.ports.proofs.Sets.{is_gather, and_first, and_second}
use Rattle.host.specs.declared.Register.{Register}
use Rattle.host.specs.declared.Register.TheVariants as reg
use Rattle.host.specs.Bytes.{spread_of, single_of}
use Rattle.host.specs.Map.{table, within, bit_registers, last_counter}
use Rattle.host.specs.Stands.{proper, row_of}
use Rattle.access.specs.Access.{value_of}
use Rattle.himib.specs.Runs.{Point}
use Rattle.past.specs.Deeds.{Deed}
use Rattle.past.specs.Changes.{change_by}
use Rattle.past.specs.Reads.{Start, byte_of, byte_by}
use Rattle.alone.specs.Seen.{Counted, Noticed}

-- the bytes of a number, and of a single byte
spread : (n i : ℕ) → i < 4 → get_or (spread_of n) i 0 ≡ byte_of n i
spread n zero l = omega arith
spread n (suc zero) l = refl
spread n (suc (suc zero)) l = omega arith
spread n (suc (suc (suc zero))) l = omega arith
spread n (suc (suc (suc (suc i)))) l = absurd (omega arith)

single : (b i : ℕ) → i < 1 → get_or (single_of b) i 0 ≡ b
single b zero l = refl
single b (suc i) l = absurd (omega arith)

-- the registers of bits are below 8
neither_range : (a b : Bool) → ((a && false) || ((b && false) || false)) ≡ true → ⊥
neither_range true true e = false≢true e
neither_range true false e = false≢true e
neither_range false true e = false≢true e
neither_range false false e = false≢true e

bits_below : (r : ℕ) → within bit_registers r ≡ true → r < 8
bits_below r e = go (leb r 7) refl
  where
    go : (t : Bool) → leb r 7 ≡ t → r < 8
    go true l = let m = leb-true r 7 l in omega arith
    go false l = let m = leb-false r 7 l in absurd (neither_range (leb 0 r) (leb 6 r) (rw (lt-leb r 4 (omega arith), l) at e))

module _ (start : Start) (past : List Deed) (p : Point) (counted : Counted start past p) (noticed : Noticed start past p) where
  bits_seen : (r : ℕ) → within bit_registers r ≡ true → get_or p.chip.core.changes r 0 ≡ byte_by start past (reg.Change r) 0
  unfolding byte_by
  bits_seen r e =
      let l = bits_below r e in
      is_gather 8 (get_or p.chip.core.changes r 0) (change_by start.addresses past r) (noticed.low r l) (λ j m. noticed.changes r j l m)

  pub value_seen : (register : Register) → proper register ≡ true → (i : ℕ) → i < (row_of register).size
      → get_or (value_of p.chip.core p.chip.attributes register) i 0 ≡ byte_by start past register i
  unfolding row_of table value_of byte_by
  value_seen reg.Unlisted k i l = absurd (omega arith)
  value_seen reg.TransmitCollisions k i l = spread _ i l ∙ ap (λ (n : ℕ). byte_of n i) counted.collisions
  value_seen reg.TotalOctets k i l = spread _ i l ∙ ap (λ (n : ℕ). byte_of n i) counted.octets
  value_seen reg.Version k i l = single 1 i l
  value_seen reg.SetPort k i l = single 0 i l
  value_seen reg.GetPort k i l = single _ i l ∙ noticed.g
  value_seen (reg.Change r) k i l = single _ i l ∙ bits_seen r k
  value_seen (reg.Enable r) k i l = single _ i l ∙ noticed.enables r (bits_below r k)
  value_seen (reg.Counter q r) k i l =
      let m = ltb-true q port_count (and_first (ltb q port_count) (leb r last_counter) k) in
      let o = leb-true r last_counter (and_second (ltb q port_count) (leb r last_counter) k) in
      spread _ i l ∙ ap (λ (n : ℕ). byte_of n i) (counted.counters q r m (omega arith))
  value_seen (reg.Address q) k i l = ap (λ (a : List ℕ). get_or a i 0) (counted.addresses q (ltb-true q port_count k))
