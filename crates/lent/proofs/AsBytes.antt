-- The four accesses and the record of document 01 say the same: the bytes of an access make the request that the access makes. Assumes nothing.
use Prim.Native.Nat.{ℕ}
use mathlib.Core.Path.{◌≡◌, refl, ap}
use mathlib.Core.Bool.{Bool, true, false}
use mathlib.Core.List.{List}
use Rattle.record.specs.declared.Record.{Record}
use Rattle.record.specs.Records.{c_write_record, d_write_record, c_read_record, d_read_record}
use Rattle.record.specs.Refusals.{selects_neither, record_of}
use Rattle.record.proofs.Computing.{reading}
use Rattle.host.specs.declared.Host.{Host}
use Rattle.chip.specs.declared.Chip.{Chip}
use Rattle.himib.specs.Step.{step_of}
use Rattle.lent.specs.Lent.{requested, c_write, d_write, c_read, d_read}

-- a byte that selects P 16, one that is turned away
selecting : (record_of (c_write_record 0x10) ≡ c_write 0x10) × (record_of (c_write_record 0x40) ≡ c_write 0x40)
unfolding reading
selecting = (refl, refl)

pub c_write_bytes : (byte : ℕ) → record_of (c_write_record byte) ≡ c_write byte
unfolding reading
c_write_bytes byte = go (selects_neither byte) refl
  where
    go : (t : Bool) → selects_neither byte ≡ t → record_of (c_write_record byte) ≡ c_write byte
    go true e = rw e
    go false e = rw e

pub d_write_bytes : (byte : ℕ) → record_of (d_write_record byte) ≡ d_write byte
unfolding reading
d_write_bytes byte = refl

pub read_bytes_lem : (record_of c_read_record ≡ c_read) × (record_of d_read_record ≡ d_read)
unfolding reading
read_bytes_lem = (refl, refl)

-- So an access and a step with its bytes do the same, on any chip and any record.
pub step_bytes : (bs : List ℕ) (q : Record) (c : Chip) (h : Host) → record_of bs ≡ q → step_of c h bs ≡ requested q c h
unfolding step_of
step_bytes bs q c h e = ap (λ (r : Record). requested r c h) e
