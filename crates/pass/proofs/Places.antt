-- Which read is one of change register R, and which write is one of a port's address: by P and R as the host selected them, and not by the row.
-- Assumes nothing.
--   changes_read == the seven places computed, and two neighbours
--   other_page   == on no page but P 1 is there a change register
--   reads_by_place == a listed register is change register k exactly at P 1 R k
--   addresses_taken == the nine places computed, and their neighbours
--   addresses_by_place == the address of port k stands at its page, R 14, and nowhere else
use Prim.Native.Nat.{ℕ, ◌+◌}
use mathlib.Core.Path.{◌≡◌, refl, sym, ◌∙◌, ap}
use mathlib.Core.Bool.{Bool, true, false, not, ◌&&◌, ◌||◌, cond, true≢false}
use mathlib.Core.List.{List, [], ◌∷◌, map}
use native.Mathlib.Omega.{arith}
use borrow.Author.Tests.{eqb-true, eqb-false, eq-eqb, ne_eqb, ltb-true, lt-ltb, le-ltb}
use lib.Dec.{eqb, ltb}
use Rattle.ports.specs.Sets.{port_count}
use Rattle.ports.proofs.Sets.{and_first, and_second}
use Rattle.host.specs.declared.Register.{Register}
use Rattle.host.specs.declared.Register.TheVariants.{Address}
use Rattle.host.specs.declared.Role.{Role}
use Rattle.host.specs.declared.Role.TheVariants as role
use Rattle.host.specs.declared.Row.{Row}
use Rattle.host.specs.Map.{within, bit_registers, table, row_at, register_at}
use Rattle.host.specs.Stands.{place_of, listed, proper, port_page, page_of, register_of, row_of, meant}
use Rattle.host.proofs.Listed.{every_row, one_place, register_of_role, proper_register, selectable}
use Rattle.host.proofs.Pages.{change_listed, change_unlisted}
use Rattle.pass.specs.Pass.{is_change, ReadsByPlace, is_address, address_stands, AddressesByPlace}

changes_read : map (λ (k : ℕ). is_change k (row_at 1 k).role) (0 ∷ 1 ∷ 2 ∷ 3 ∷ 4 ∷ 5 ∷ 6 ∷ 7 ∷ []) ≡ true ∷ true ∷ true ∷ true ∷ true ∷ false ∷ true ∷ true ∷ []
unfolding row_at table
changes_read = refl

-- the sixth line of the table, and P 1
abbrev on_page1 : Row → Bool
on_page1 w = eqb (place_of w.register).line 6 && eqb (place_of w.register).page 1

module _ (p r k : ℕ) where
  shown : is_change k (row_at p r).role ≡ (on_page1 (row_at p r) && is_change k (row_at p r).role)
  unfolding table
  shown = every_row (λ w. is_change k w.role) (λ w. on_page1 w && is_change k w.role) p r (λ i q. refl)

  other_page : (p ≡ 1 → ⊥) → is_change k (row_at p r).role ≡ false
  other_page ne = go (is_change k (row_at p r).role) refl
    where
      go : (b : Bool) → is_change k (row_at p r).role ≡ b → is_change k (row_at p r).role ≡ false
      go false e = e
      go true e =
          let on = and_first (on_page1 (row_at p r)) (is_change k (row_at p r).role) (sym shown ∙ e) in
          let line = and_first (eqb (place_of (register_at p r)).line 6) (eqb (place_of (register_at p r)).page 1) on in
          let page = and_second (eqb (place_of (register_at p r)).line 6) (eqb (place_of (register_at p r)).page 1) on in
          let there = ap (λ (n : ℕ). not (eqb n 0)) (eqb-true (place_of (register_at p r)).line 6 line) in
          absurd (ne (sym (one_place p r there).0 ∙ eqb-true (place_of (register_at p r)).page 1 page))

on_page : (r k : ℕ) → ((row_at 1 r).size ≡ 0 → ⊥) → is_change k (row_at 1 r).role ≡ eqb r k
unfolding row_of table
on_page r k s = go (within bit_registers r) refl
  where
    go : (b : Bool) → within bit_registers r ≡ b → is_change k (row_at 1 r).role ≡ eqb r k
    go true e = ap (λ (w : Row). is_change k w.role) (change_listed r e)
    go false e = absurd (s (ap (λ (w : Row). w.size) (change_unlisted r e)))

pub reads_by_place : ReadsByPlace
reads_by_place p r k s = go (eqb p 1) refl
  where
    go : (b : Bool) → eqb p 1 ≡ b → is_change k (row_at p r).role ≡ (eqb p 1 && eqb r k)
    go false e = rw e (other_page p r k (eqb-false p 1 e))
    go true e =
        let q = eqb-true p 1 e in
        rw e (ap (λ (n : ℕ). is_change k (row_at n r).role) q ∙ on_page r k (λ z. s (ap (λ (n : ℕ). (row_at n r).size) q ∙ z)))

-- ADDRESSES

-- nine pages from TP0's on at R 14: TP0 to TP7, and AUI not there; then AUI's own page, and two neighbours
abbrev nine : List ℕ
nine = 0 ∷ 1 ∷ 2 ∷ 3 ∷ 4 ∷ 5 ∷ 6 ∷ 7 ∷ 8 ∷ []

abbrev eight : List Bool
eight = true ∷ true ∷ true ∷ true ∷ true ∷ true ∷ true ∷ true ∷ false ∷ []

addresses_taken : (map (λ (k : ℕ). address_stands (16 + k) 14 k) nine ≡ eight) × (map (λ (k : ℕ). is_address k (row_at (16 + k) 14).role) nine ≡ eight)
unfolding row_at table
addresses_taken = (refl, refl)

aui_taken : (address_stands 31 14 8 ≡ true)
    × (is_address 8 (row_at 31 14).role ≡ true)
    × (is_address 0 (row_at 16 13).role ≡ false)
    × (is_address 0 (row_at 17 14).role ≡ false)
unfolding row_at table
aui_taken = (refl, refl, refl, refl)

-- the register with the role of an address of port k
whose : (ro : Role) (x : Register) (k : ℕ) → is_address k ro ≡ true → meant ro x ≡ x → x ≡ Address k
whose role.Plain x k e m = absurd (true≢false (sym e))
whose (role.Cleared j) x k e m = absurd (true≢false (sym e))
whose (role.Commands g) x k e m = absurd (true≢false (sym e))
whose (role.Enables j) x k e m = absurd (true≢false (sym e))
whose (role.Address j) x k e m = sym m ∙ ap Address (eqb-true j k e)

-- the page of port k, by the figures
module _ (p k : ℕ) where
  tp_there : eqb k 8 ≡ false → port_page k ≡ k + 16
  tp_there e = ap (λ (b : Bool). cond b 31 (k + 16)) e

  aui_there : eqb k 8 ≡ true → port_page k ≡ 31
  aui_there e = ap (λ (b : Bool). cond b 31 (k + 16)) e

  stands : ltb k port_count ≡ true → port_page k ≡ p → address_stands p 14 k ≡ true
  stands l q = go (eqb k 8) refl
    where
      go : (b : Bool) → eqb k 8 ≡ b → address_stands p 14 k ≡ true
      go true e =
          let is8 = eqb-true k 8 e in
          let at = sym q ∙ aui_there e in
          rw (le-ltb k 8 (omega arith), e, eq-eqb p 31 at)
      go false e =
          let ne = eqb-false k 8 e in
          let below = ltb-true k port_count l in
          let at = sym q ∙ tp_there e in
          rw (lt-ltb k 8 (omega arith), eq-eqb p (16 + k) (omega arith))

  by_figures : address_stands p 14 k ≡ true → (p ≡ port_page k) × (ltb k port_count ≡ true)
  by_figures e = go (ltb k 8 && eqb p (16 + k)) refl e
    where
      go : (b : Bool) → (ltb k 8 && eqb p (16 + k)) ≡ b → (b || (eqb k 8 && eqb p 31)) ≡ true → (p ≡ port_page k) × (ltb k port_count ≡ true)
      go true t f =
          let below = ltb-true k 8 (and_first (ltb k 8) (eqb p (16 + k)) t) in
          let at = eqb-true p (16 + k) (and_second (ltb k 8) (eqb p (16 + k)) t) in
          let turned : p ≡ k + 16 = omega arith in
          (turned ∙ sym (tp_there (ne_eqb k 8 (λ q. omega arith))), lt-ltb k port_count (omega arith))
      go false t f =
          let is8 = and_first (eqb k 8) (eqb p 31) f in
          let q = eqb-true k 8 is8 in
          (eqb-true p 31 (and_second (eqb k 8) (eqb p 31) f) ∙ sym (aui_there is8), lt-ltb k port_count (omega arith))

same : (a b : Bool) → (a ≡ true → b ≡ true) → (b ≡ true → a ≡ true) → a ≡ b
same true b f g = sym (f refl)
same false true f g = g refl
same false false f g = refl

module _ (p r k : ℕ) where
  by_register : is_address k (row_at p r).role ≡ (eqb (place_of (register_at p r)).line 9 && eqb (place_of (register_at p r)).port k)
  unfolding table
  by_register =
      every_row (λ w. is_address k w.role) (λ w. eqb (place_of w.register).line 9 && eqb (place_of w.register).port k) p r (λ i q. refl)

  taken : is_address k (row_at p r).role ≡ true → address_stands p r k ≡ true
  taken e =
      let x = whose (row_at p r).role (register_at p r) k e (register_of_role p r) in
      let placed = one_place p r (ap listed x) in
      let fourteen = sym (ap register_of x) ∙ placed.1 in
      let low = sym (ap proper x) ∙ proper_register p r in
      ap (λ (n : ℕ). address_stands p n k) (sym fourteen) ∙ stands p k low (sym (ap page_of x) ∙ placed.0)

  takes : address_stands p r k ≡ true → is_address k (row_at p r).role ≡ true
  takes e =
      let fourteen = eqb-true r 14 (and_first (eqb r 14) ((ltb k 8 && eqb p (16 + k)) || (eqb k 8 && eqb p 31)) e) in
      let at = by_figures p k (and_second (eqb r 14) ((ltb k 8 && eqb p (16 + k)) || (eqb k 8 && eqb p 31)) e) in
      let x = ap (λ (n : ℕ). register_at p n) fourteen ∙ ap (λ (n : ℕ). register_at n 14) at.0 ∙ selectable (Address k) at.1 in
      by_register ∙ ap (λ (y : Register). eqb (place_of y).line 9 && eqb (place_of y).port k) x ∙ eq-eqb k k refl

pub addresses_by_place : AddressesByPlace
addresses_by_place p r k = same (is_address k (row_at p r).role) (address_stands p r k) (taken p r k) (takes p r k)
