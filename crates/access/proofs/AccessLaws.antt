-- The cases of the accesses' definitions, as the code asks them. The computed rows stand in front of these laws, so that a wrong rule is refused at a value
-- first.
-- Assumes nothing.
use Prim.Native.Nat.{ℕ, ◌≤◌}
use mathlib.Core.Path.{◌≡◌, sym, ap, ◌∙◌}
use mathlib.Core.Bool.{Bool, true, false}
use native.Mathlib.Omega.{arith}
use borrow.Author.Tests.{eq-eqb, ne_eqb}
use Rattle.host.specs.declared.Host.{Host}
use Rattle.host.specs.declared.Row.{Row}
use Rattle.attributes.specs.declared.Nine.{Nine}
use Rattle.changes.specs.Changes.{bit7}
use Rattle.chip.specs.declared.Core.{Core}
use Rattle.access.specs.Access.{turned_away, selected_by, read_of, d_read_of, d_write_of}
use Rattle.access.proofs.Sheet

pub bit7_le : (b : Bool) → bit7 b ≤ 128
bit7_le true = omega arith
bit7_le false = omega arith

-- w is the selected row
module _ (h : Host) (w : Row) (s : w ≡ selected_by h) where
  none : w.size ≡ 0 → (selected_by h).size ≡ 0
  none e = ap (λ (v : Row). v.size) (sym s) ∙ e

  some : (w.size ≡ 0 → ⊥) → (selected_by h).size ≡ 0 → ⊥
  some e k = e (ap (λ (v : Row). v.size) s ∙ k)

  module _ (c : Core) (nine : Nine) where
    pub read_unlisted : w.size ≡ 0 → turned_away c h 5 ≡ d_read_of c nine h
    unfolding d_read_of
    read_unlisted e = rw (eq-eqb (selected_by h).size 0 (none e))

    pub read_barred : (w.size ≡ 0 → ⊥) → w.readable ≡ false → turned_away c h 6 ≡ d_read_of c nine h
    unfolding d_read_of
    read_barred e r = rw (ne_eqb (selected_by h).size 0 (some e), rw s at r)

    pub read_done : (w.size ≡ 0 → ⊥) → w.readable ≡ true → read_of w c nine h ≡ d_read_of c nine h
    unfolding d_read_of
    read_done e r = rw (s, ne_eqb (selected_by h).size 0 (some e), rw s at r)

  module _ (c : Core) (b : ℕ) where
    pub write_unlisted : w.size ≡ 0 → turned_away c h 5 ≡ d_write_of c h b
    unfolding d_write_of
    write_unlisted e = rw (eq-eqb (selected_by h).size 0 (none e))

    pub write_barred : (w.size ≡ 0 → ⊥) → w.writable ≡ false → turned_away c h 6 ≡ d_write_of c h b
    unfolding d_write_of
    write_barred e r = rw (ne_eqb (selected_by h).size 0 (some e), rw s at r)
