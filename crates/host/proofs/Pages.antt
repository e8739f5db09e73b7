-- The table page by page: what is left of the lookup once P is known. Assumes nothing.
use Prim.Native.Nat.{ℕ, ◌-◌, ◌≤◌, ◌<◌}
use mathlib.Core.Path.{◌≡◌, refl, sym, ◌∙◌, ap}
use mathlib.Core.Bool.{Bool, true, false, ◌&&◌, or-false}
use mathlib.Core.List.{[], ◌∷◌}
use native.Mathlib.Omega.{arith}
use borrow.Author.Tests.{le-leb, leb-true, ne_eqb, eqb-true, eqb-false}
use lib.Dec.{leb, eqb, leb-zero}
use Rattle.ports.specs.Sets.{aui}
use Rattle.host.specs.declared.Register.TheVariants.{Unlisted, Change, Enable, Counter, Address}
use Rattle.host.specs.Map.{◌to◌, only, within, Line, table, line_at, port_pages, port_of}
use Rattle.host.specs.Map.{bit_registers, last_counter, address_register, row_on, no_row, row_at, register_at}
use Rattle.host.specs.Stands.{row_of}
use Rattle.host.specs.Parts.{port_row}

-- Some places of the map: the first counter and the last, AUI's address, and neighbours that are not listed.
some_places : (register_at 16 0 ≡ Counter 0 0)
    × (register_at 31 12 ≡ Counter 8 12)
    × (register_at 31 14 ≡ Address 8)
    × (register_at 1 7 ≡ Change 7)
    × (register_at 16 13 ≡ Unlisted)
    × (register_at 24 0 ≡ Unlisted)
    × (register_at 1 5 ≡ Unlisted)
unfolding row_at table
some_places = (refl, refl, refl, refl, refl, refl, refl)

neither : (x y : Bool) → (x ≡ true → y ≡ true → ⊥) → (x && y) ≡ false
neither true true h = absurd (h refl refl)
neither true false h = refl
neither false y h = refl

-- one range
module _ (a b n : ℕ) where
  pub in_range : a ≤ n → n ≤ b → (leb a n && leb n b) ≡ true
  in_range p q = rw (le-leb a n p, le-leb n b q)

  pub off_range : (a ≤ n → n ≤ b → ⊥) → (leb a n && leb n b) ≡ false
  off_range h = neither (leb a n) (leb n b) (λ p q. h (leb-true a n p) (leb-true n b q))

pub off_only : (k n : ℕ) → (n ≡ k → ⊥) → within (only k) n ≡ false
off_only k n h = rw (off_range k k n (λ p q. h (omega arith)))

pub only_eqb : (k n : ℕ) → within (only k) n ≡ eqb n k
only_eqb k n = go (eqb n k) refl
  where
    go : (b : Bool) → eqb n k ≡ b → within (only k) n ≡ eqb n k
    go true e = let q = eqb-true n k e in rw (e, in_range k k n (omega arith) (omega arith))
    go false e = off_only k n (eqb-false n k e) ∙ sym e

pub up_to : (b n : ℕ) → within (0 to b ∷ []) n ≡ leb n b
up_to b n = rw (leb-zero n) (or-false (leb n b))

-- pages 1 and 2
module _ (r : ℕ) where
  pub change_listed : within bit_registers r ≡ true → row_at 1 r ≡ row_of (Change r)
  unfolding row_at table row_of
  change_listed e = rw e

  pub change_unlisted : within bit_registers r ≡ false → row_at 1 r ≡ no_row
  unfolding row_at table
  change_unlisted e = rw e

  pub enable_listed : within bit_registers r ≡ true → row_at 2 r ≡ row_of (Enable r)
  unfolding row_at table row_of
  enable_listed e = rw e

  pub enable_unlisted : within bit_registers r ≡ false → row_at 2 r ≡ no_row
  unfolding row_at table
  enable_unlisted e = rw e

-- a port's page, by the port
module _ (i r : ℕ) where
  pub port_counter : r ≤ last_counter → port_row i r ≡ row_of (Counter i r)
  unfolding port_row table row_of
  port_counter l = rw (le-leb r last_counter l, leb-zero r)

  pub port_address : r ≡ address_register → port_row i r ≡ row_of (Address i)
  unfolding port_row table row_of
  port_address e = rw e

-- every port's page
same_line : (p r : ℕ) → within port_pages p ≡ true → (p ≡ 0 → ⊥) → (p ≡ 1 → ⊥) → (p ≡ 2 → ⊥) → line_at p r ≡ line_at 16 r
unfolding table
same_line p r h a b c = simp (off_only 0 p a, off_only 1 p b, off_only 2 p c, h)

on_port : (p r : ℕ) → within port_pages p ≡ true → (p ≡ 0 → ⊥) → (p ≡ 1 → ⊥) → (p ≡ 2 → ⊥) → row_at p r ≡ port_row (port_of p) r
unfolding row_at port_row
on_port p r h a b c = ap (λ (l : Line). row_on l (port_of p) r) (same_line p r h a b c)

pub tp_page : (p r : ℕ) → 16 ≤ p → p < 24 → row_at p r ≡ port_row (p - 16) r
tp_page p r l u =
    on_port p r (rw (in_range 16 23 p l (omega arith))) (λ e. omega arith) (λ e. omega arith) (λ e. omega arith)
    ∙ rw (ne_eqb p 31 (λ e. omega arith))

pub aui_page_lem : (r : ℕ) → row_at 31 r ≡ port_row aui r
aui_page_lem r = on_port 31 r refl (λ e. omega arith) (λ e. omega arith) (λ e. omega arith)
