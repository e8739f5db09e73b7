-- The bytes written to an address in a row: the host's record holds those of the past, and a write completes where the past completes. Assumes nothing.
--   Rowed past h    == where a register of six bytes is selected, the next byte written goes to the place after the row, and the record holds the row's bytes
--   rowed_up, rowed_next == at power-up, and after a deed
--   whole_seen      == a byte written to an address completes it exactly if it does so in the past
--   bytes_seen      == and then the record holds the last six bytes of the row
use Prim.Native.Nat.{ℕ}
use mathlib.Core.Path.{◌≡◌, refl, sym, ap, ◌∙◌}
use mathlib.Core.Bool.{Bool, true, false, ◌&&◌}
use mathlib.Core.List.{List, [], ◌∷◌}
use native.Mathlib.Omega.{arith}
use lib.Dec.{eqb}
use lib.ListN.{length, length-set}
use Rattle.host.specs.declared.Host.{Host}
use Rattle.host.specs.declared.Writing.{Writing}
use Rattle.host.specs.Sequence.{power_up, with_selection, place_for, read_byte, wrote_byte}
use Rattle.host.proofs.Places.{at_first}
use Rattle.host.proofs.Afresh.{turned_to_writing}
use Rattle.access.specs.Access.{value_of, selected_by}
use Rattle.access.proofs.Values.{value_six}
use Rattle.himib.specs.Runs.{Point}
use Rattle.pass.proofs.HostPast.{Row, begun, up_first, written_on, Sixes, copied_six, whole_at, bytes_at_lem}
use Rattle.past.specs.Deeds.{Deed, bursts, pulses, ticks, commands, uses, resets, refused, selects_p, selects_r, allows, addresses, asks, reads}
use Rattle.past.specs.Addresses.{in_a_row, completes, last_six}
use Rattle.alone.specs.Doing.{used_at, doing, next, Proper}
use Rattle.alone.specs.Selected.{StandsOn}

abbrev pub Rowed : List Deed → Host → Type 0
Rowed past h = Row h (in_a_row past)

pub rowed_up : Rowed [] power_up
unfolding in_a_row
rowed_up = begun power_up refl up_first

-- a byte written to a register of one leaves no row of six
passed_by : (h : Host) (w : List ℕ) (b : ℕ) → (selected_by h).size ≡ 1 → Row h w → Row (wrote_byte 1 b h).host w
unfolding wrote_byte
passed_by h w b one row = record {
  six = length-set h.bytes _ b ∙ row.six;
  place = λ z. absurd (omega arith);
  held = λ z. absurd (omega arith);
}

pub rowed_next : (past : List Deed) (d : Deed) (p : Point) → Proper d → StandsOn (selected_by p.host) d → Sixes p.chip.attributes → Rowed past p.host
    → Rowed (d ∷ past) (next d p).host
unfolding in_a_row doing used_at read_byte
rowed_next past (bursts b source) p proper sized sixes row = row
rowed_next past (pulses mask) p proper sized sixes row = row
rowed_next past ticks p proper sized sixes row = row
rowed_next past (commands through_g c) p proper sized sixes row = passed_by p.host (in_a_row past) c sized row
rowed_next past (uses (selects_p n)) p proper sized sixes row =
    begun _ row.six (at_first 6 (with_selection p.host n p.host.register) p.host.bytes true p.host.writing)
rowed_next past (uses (selects_r n)) p proper sized sixes row =
    begun _ row.six (at_first 6 (with_selection p.host p.host.page n) p.host.bytes true p.host.writing)
rowed_next past (uses (allows k b)) p proper sized sixes row = passed_by p.host (in_a_row past) b sized row
rowed_next past (uses (addresses i b)) p proper sized sixes row =
    rw sized at (written_on p.host (in_a_row past) b row)
rowed_next past (uses asks) p proper sized sixes row = row
rowed_next past (uses (reads register size)) p proper sized sixes row =
    let v : List ℕ = value_of p.chip.core p.chip.attributes register in
    let l : length v ≡ 6 = value_six p.chip.core p.chip.attributes sixes register proper.0 in
    begun _ (copied_six (place_for false size p.host) v p.host.bytes l row.six) (turned_to_writing 6 size v p.host)
rowed_next past resets p proper sized sixes row = begun power_up refl up_first
rowed_next past (refused k) p proper sized sixes row = row

module _ (past : List Deed) (h : Host) (i b : ℕ) (row : Rowed past h) (size : (selected_by h).size ≡ 6) where
  -- as it is selected
  as_selected : wrote_byte 6 b h ≡ wrote_byte (selected_by h).size b h
  as_selected = ap (λ (n : ℕ). wrote_byte n b h) (sym size)

  pub whole_seen : (k : ℕ) → (eqb i k && (wrote_byte 6 b h).complete) ≡ completes past (uses (addresses i b)) k
  unfolding completes in_a_row
  whole_seen k = ap (λ (t : Bool). eqb i k && t) (ap (λ (w : Writing). w.complete) as_selected ∙ whole_at h (in_a_row past) b row size)

  pub bytes_seen : (wrote_byte 6 b h).complete ≡ true → (wrote_byte 6 b h).host.bytes ≡ last_six (in_a_row (uses (addresses i b) ∷ past))
  unfolding in_a_row
  bytes_seen e =
      ap (λ (w : Writing). w.host.bytes) as_selected
      ∙ bytes_at_lem h (in_a_row past) b row size (sym (ap (λ (w : Writing). w.complete) as_selected) ∙ e)
