-- Document 01, 'Host registers': what the table of registers amounts to. Each theorem is one rule that every row meets.
-- Assumes nothing.
use Prim.Native.Nat.{ℕ, ◌+◌, ◌-◌, ◌≤◌, ◌<◌}
use mathlib.Core.Path.{◌≡◌, refl, sym, ◌∙◌, ap}
use mathlib.Core.Bool.{Bool, true, false, not, ◌&&◌, ◌||◌, cond, true≢false}
use mathlib.Core.List.{List, [], ◌∷◌, map}
use mathlib.Core.Logic.{◌⊎◌, inl, inr, ⊎_elim}
use native.Mathlib.Omega.{arith}
use borrow.Author.Tests.{le-leb, leb-true, lt-ltb, ltb-true, eq-eqb, ne_eqb, eqb-true, eqb-false}
use lib.Dec.{leb, ltb, eqb}
use Rattle.ports.specs.Sets.{aui, port_count}
use Rattle.host.specs.declared.Register.{Register}
use Rattle.host.specs.declared.Register.TheVariants.{Unlisted, TransmitCollisions, TotalOctets, Version, SetPort}
use Rattle.host.specs.declared.Register.TheVariants.{GetPort, Change, Enable, Counter, Address}
use Rattle.host.specs.declared.Role.TheVariants.{Cleared, Commands}
use Rattle.host.specs.declared.Row.{Row}
use Rattle.host.specs.Map.{Range, ◌to◌, only, within, read, write, Line, no_line, lists, found, table}
use Rattle.host.specs.Map.{port_pages, port_of, bit_registers, last_counter, address_register, row, row_on, no_row, row_at, register_at}
use Rattle.host.specs.Stands.{listed, proper, port_page, page_of, register_of, rows, row_of, fits, meant}
use Rattle.host.specs.Parts.{port_row}
use Rattle.host.specs.Sequence.{selected_below}
use Rattle.host.proofs.Pages.{only_eqb, up_to, change_listed, enable_listed, port_counter, port_address, tp_page, aui_page_lem}

-- what a line's test says of P and R
first_of : (a b : Bool) → (a && b) ≡ true → a ≡ true
first_of true b e = refl
first_of false b e = e

second_of : (a b : Bool) → (a && b) ≡ true → b ≡ true
second_of true b e = e
second_of false b e = absurd (true≢false (sym e))

either_of : (a b : Bool) → (a || b) ≡ true → (a ≡ true) ⊎ (b ≡ true)
either_of true b e = inl refl
either_of false b e = inr e

is_only : (k n : ℕ) → within (only k) n ≡ true → n ≡ k
is_only k n e = eqb-true n k (sym (only_eqb k n) ∙ e)

at_most : (b n : ℕ) → within (0 to b ∷ []) n ≡ true → n ≤ b
at_most b n e = leb-true n b (sym (up_to b n) ∙ e)

module _ (ps rs : List Range) (p r : ℕ) (e : (within ps p && within rs r) ≡ true) where
  its_page : within ps p ≡ true
  its_page = first_of (within ps p) (within rs r) e

  its_register : within rs r ≡ true
  its_register = second_of (within ps p) (within rs r) e

-- a port's page: TP0 to TP7, or AUI
port_cases : (p : ℕ) → within port_pages p ≡ true → ((16 ≤ p) × (p ≤ 23)) ⊎ (p ≡ 31)
port_cases p e =
    ⊎_elim
    (λ h. inl (leb-true 16 p (first_of (leb 16 p) (leb p 23) h), leb-true p 23 (second_of (leb 16 p) (leb p 23) h)))
    (λ h. inr (is_only 31 p h))
    (either_of (leb 16 p && leb p 23) (within (only 31) p) e)

port_below : (p : ℕ) → within port_pages p ≡ true → port_of p < port_count
port_below p e =
    ⊎_elim
    (λ h. rw (ne_eqb p 31 (λ q. omega arith)) (omega arith))
    (λ h. rw (eq-eqb p 31 h) (omega arith))
    (port_cases p e)

port_back : (p : ℕ) → within port_pages p ≡ true → port_page (port_of p) ≡ p
port_back p e =
    ⊎_elim
    (λ h. rw (ne_eqb p 31 (λ q. omega arith), ne_eqb (p - 16) 8 (λ q. omega arith)) (omega arith))
    (λ h. rw (eq-eqb p 31 h) (sym h))
    (port_cases p e)

-- LAWS OF EVERY ROW

-- Two readings of a row that agree on every line of the table, whatever port and R it is asked about, agree on the row at P and R.
-- Where both compute, `refl` is the test: crates above prove their own laws of rows with it.
abbrev head_of : {A : Type 0} → A → List A → A
head_of a [] = a
head_of a (x ∷ xs) = x

abbrev tail_of_lem : {A : Type 0} → List A → List A
tail_of_lem [] = []
tail_of_lem (x ∷ xs) = xs

module _ {A : Type 0} (f g : Row → A) (p r : ℕ) where
  alike_found : (ls : List Line) → f (row_on no_line (port_of p) r) ≡ g (row_on no_line (port_of p) r)
      → map f (map (λ l. row_on l (port_of p) r) ls) ≡ map g (map (λ l. row_on l (port_of p) r) ls)
      → f (row_on (found ls p r) (port_of p) r) ≡ g (row_on (found ls p r) (port_of p) r)
  alike_found [] none e = none
  alike_found (l ∷ ls) none e =
      go (lists l p r)
      (ap (head_of (f no_row)) e)
      (alike_found ls none (ap tail_of_lem e))
    where
      go : (b : Bool) → f (row_on l (port_of p) r) ≡ g (row_on l (port_of p) r)
          → f (row_on (found ls p r) (port_of p) r) ≡ g (row_on (found ls p r) (port_of p) r)
          → f (row_on (cond b l (found ls p r)) (port_of p) r) ≡ g (row_on (cond b l (found ls p r)) (port_of p) r)
      go true here more = here
      go false here more = more

  pub every_row : ((i q : ℕ) → map f (rows i q) ≡ map g (rows i q)) → f (row_at p r) ≡ g (row_at p r)
  unfolding row_at
  every_row e = alike_found table (ap (head_of (f no_row)) (e (port_of p) r)) (ap tail_of_lem (e (port_of p) r))

-- A row goes by its register: `row_of` computes at each register.
six_of_an_address : ((row_of (Address 7)).size ≡ 6) × ((row_at 23 14).size ≡ 6) × ((row_at 23 14).register ≡ Address 7)
unfolding row_of row_at table
six_of_an_address = (refl, refl, refl)

pub row_of_register : (p r : ℕ) → row_of (register_at p r) ≡ row_at p r
unfolding row_of table
row_of_register p r = every_row (λ w. row_of w.register) (λ w. w) p r (λ i q. refl)

-- A role is that of one register, save that many are plain.
seventh_bits : ((row_at 1 7).role ≡ Cleared 7) × (meant (Cleared 7) Unlisted ≡ Change 7) × (row_at 1 7 ≡ row (Change 7) 1 read (Cleared 7))
unfolding row_at table
seventh_bits = (refl, refl, refl)

pub register_of_role : (p r : ℕ) → meant (row_at p r).role (register_at p r) ≡ register_at p r
unfolding table
register_of_role p r = every_row (λ w. meant w.role w.register) (λ w. w.register) p r (λ i q. refl)

pub row_of_role : (p r : ℕ) → row_of (meant (row_at p r).role (register_at p r)) ≡ row_at p r
row_of_role p r = ap row_of (register_of_role p r) ∙ row_of_register p r

-- The ways of a row are such as its role asks for.
set_port : (row_at 0 30 ≡ row SetPort 1 write (Commands false))
    × (fits (row SetPort 1 write (Commands false)) ≡ true)
    × (fits (row SetPort 1 read (Commands false)) ≡ false)
unfolding row_at table
set_port = (refl, refl, refl)

pub row_fits : (p r : ℕ) → fits (row_at p r) ≡ true
unfolding table
row_fits p r = every_row fits (λ w. true) p r (λ i q. refl)

-- What is listed has bytes and a way in which it may be accessed; what is not has neither.
fifth_bits : (listed (register_at 2 5) ≡ false) × ((row_at 2 5).size ≡ 0) × (listed (register_at 2 6) ≡ true) × ((row_at 2 6).size ≡ 1)
unfolding row_at table
fifth_bits = (refl, refl, refl, refl)

pub row_listed : (p r : ℕ) → eqb (row_at p r).size 0 ≡ not (listed (register_at p r))
unfolding table
row_listed p r = every_row (λ w. eqb w.size 0) (λ w. not (listed w.register)) p r (λ i q. refl)

pub some_way : (p r : ℕ) → ((row_at p r).readable || (row_at p r).writable) ≡ listed (register_at p r)
unfolding table
some_way p r = every_row (λ w. w.readable || w.writable) (λ w. listed w.register) p r (λ i q. refl)

-- No register has more than six bytes.
pub size_six : (p r : ℕ) → (row_at p r).size ≤ 6
unfolding table
size_six p r = leb-true (row_at p r).size 6 (every_row (λ w. leb w.size 6) (λ w. true) p r (λ i q. refl))

-- THE PLACES

-- a rule of the lines that list P and R, and of the line of what is not listed, is a rule of the line found
infixr 20 ◌also◌
data Each (P : Line → Type 0) : List Line → Type 0 where
  no_more : Each P []
  ◌also◌ : {l : Line} {ls : List Line} → P l → Each P ls → Each P (l ∷ ls)

found_meets : (P : Line → Type 0) (p r : ℕ) (ls : List Line) → Each (λ l. lists l p r ≡ true → P l) ls → P no_line → P (found ls p r)
found_meets P p r [] no_more none = none
found_meets P p r (l ∷ ls) (here also more) none = go (lists l p r) refl (found_meets P p r ls more none)
  where
    go : (b : Bool) → lists l p r ≡ b → P (found ls p r) → P (cond b l (found ls p r))
    go true e h = here e
    go false e h = h

-- The place of a register that P and R select: what it carries is in range, and if it is listed, it stands there.
record Placed (p r : ℕ) (x : Register) : Type 0 where
  is_proper : proper x ≡ true
  stands : listed x ≡ true → (page_of x ≡ p) × (register_of x ≡ r)

module _ (p r : ℕ) where
  alone : (a b : ℕ) → (within (only a) p && within (only b) r) ≡ true → (a ≡ p) × (b ≡ r)
  alone a b e =
      (sym (is_only a p (its_page (only a) (only b) p r e)), sym (is_only b r (its_register (only a) (only b) p r e)))

  bits_at : (a : ℕ) → (within (only a) p && within bit_registers r) ≡ true → (within bit_registers r ≡ true) × (a ≡ p)
  bits_at a e = (its_register (only a) bit_registers p r e, sym (is_only a p (its_page (only a) bit_registers p r e)))

  port_at_lem : (rs : List Range) → (within port_pages p && within rs r) ≡ true → (ltb (port_of p) port_count ≡ true) × (port_page (port_of p) ≡ p)
  port_at_lem rs e =
      let q = its_page port_pages rs p r e in
      (lt-ltb (port_of p) port_count (port_below p q), port_back p q)

  counter_at_lem : (within port_pages p && within (0 to last_counter ∷ []) r) ≡ true → leb r last_counter ≡ true
  counter_at_lem e = le-leb r last_counter (at_most last_counter r (its_register port_pages (0 to last_counter ∷ []) p r e))

  one_at : (k : ℕ) → (within port_pages p && within (only k) r) ≡ true → k ≡ r
  one_at k e = sym (is_only k r (its_register port_pages (only k) p r e))

  placed : Placed p r (register_at p r)
  unfolding row_at table
  placed =
      found_meets (λ l. Placed p r (l.what (port_of p) r)) p r table (
      (λ e. record { is_proper = refl; stands = λ l. alone 0 12 e })
      also (λ e. record { is_proper = refl; stands = λ l. alone 0 13 e })
      also (λ e. record { is_proper = refl; stands = λ l. alone 0 28 e })
      also (λ e. record { is_proper = refl; stands = λ l. alone 0 30 e })
      also (λ e. record { is_proper = refl; stands = λ l. alone 0 31 e })
      also (λ e. record { is_proper = (bits_at 1 e).0; stands = λ l. ((bits_at 1 e).1, refl) })
      also (λ e. record { is_proper = (bits_at 2 e).0; stands = λ l. ((bits_at 2 e).1, refl) })
      also (λ e. let k = port_at_lem (0 to last_counter ∷ []) e in
      record { is_proper = rw k.0 (counter_at_lem e); stands = λ l. (k.1, refl) })
      also (λ e. let k = port_at_lem (only address_register) e in
      record { is_proper = k.0; stands = λ l. (k.1, one_at address_register e) })
      also no_more
      )
      (record { is_proper = refl; stands = λ l. absurd (true≢false (sym l)) })

-- What a selected register carries is in range: ports 0 to 8, counters 0 to 12, the seven registers of bits.
a_proper_counter : proper (register_at 31 12) ≡ true
unfolding row_at table
a_proper_counter = refl

pub proper_register : (p r : ℕ) → proper (register_at p r) ≡ true
proper_register p r = (placed p r).is_proper

pub proper_role : (p r : ℕ) → proper (meant (row_at p r).role (register_at p r)) ≡ true
proper_role p r = ap proper (register_of_role p r) ∙ proper_register p r

-- A listed register stands at one P and one R only.
a_place : (listed (register_at 31 14) ≡ true) × (page_of (register_at 31 14) ≡ 31) × (register_of (register_at 31 14) ≡ 14)
unfolding row_at table
a_place = (refl, refl, refl)

pub one_place : (p r : ℕ) → listed (register_at p r) ≡ true → (page_of (register_at p r) ≡ p) × (register_of (register_at p r) ≡ r)
one_place p r = (placed p r).stands

-- Every register that there is can be selected.
port_page_lem : (i r : ℕ) → i < port_count → row_at (port_page i) r ≡ port_row i r
port_page_lem i r l = go (eqb i aui) refl
  where
    go : (b : Bool) → eqb i aui ≡ b → row_at (port_page i) r ≡ port_row i r
    go true e = rw (e, eqb-true i aui e) (aui_page_lem r)
    go false e =
        let d = eqb-false i aui e in
        let k : i + 16 - 16 ≡ i = omega arith in
        rw e (tp_page (i + 16) r (omega arith) (omega arith) ∙ rw k)

a_selected : register_at (page_of (Counter 8 11)) (register_of (Counter 8 11)) ≡ Counter 8 11
unfolding row_at table
a_selected = refl

of_row : {w v : Row} → w ≡ v → w.register ≡ v.register
of_row e = ap (λ (w : Row). w.register) e

pub selectable : (x : Register) → proper x ≡ true → register_at (page_of x) (register_of x) ≡ x
unfolding row_at table row_of
selectable Unlisted e = refl
selectable TransmitCollisions e = refl
selectable TotalOctets e = refl
selectable Version e = refl
selectable SetPort e = refl
selectable GetPort e = refl
selectable (Change r) e = of_row (change_listed r e)
selectable (Enable r) e = of_row (enable_listed r e)
selectable (Counter i r) e =
    let l = ltb-true i port_count (first_of (ltb i port_count) (leb r last_counter) e) in
    let k = leb-true r last_counter (second_of (ltb i port_count) (leb r last_counter) e) in
    of_row (port_page_lem i r l ∙ port_counter i r k)
selectable (Address i) e = of_row (port_page_lem i address_register (ltb-true i port_count e) ∙ port_address i address_register refl)

-- From P or R 32 on nothing is listed.
abbrev every : (Line → Bool) → List Line → Bool
every f [] = true
every f (l ∷ ls) = f l && every f ls

abbrev last_low : List Range → Bool
last_low [] = true
last_low (k ∷ ks) = ltb k.last selected_below && last_low ks

low : (ks : List Range) (n : ℕ) → last_low ks ≡ true → within ks n ≡ true → n < selected_below
low [] n t e = absurd (true≢false (sym e))
low (k ∷ ks) n t e =
    let l = ltb-true k.last selected_below (first_of (ltb k.last selected_below) (last_low ks) t) in
    ⊎_elim
    (λ h. let u = leb-true n k.last (second_of (leb k.first n) (leb n k.last) h) in omega arith)
    (λ h. low ks n (second_of (ltb k.last selected_below) (last_low ks) t) h)
    (either_of (leb k.first n && leb n k.last) (within ks n) e)

abbrev line_low : Line → Bool
line_low l = last_low l.pages && last_low l.registers

table_low : every line_low table ≡ true
unfolding table
table_low = refl

none_found : (p r : ℕ) (ls : List Line) → (p < selected_below → r < selected_below → ⊥) → every line_low ls ≡ true → found ls p r ≡ no_line
none_found p r [] h t = refl
none_found p r (l ∷ ls) h t = go (lists l p r) refl (none_found p r ls h (second_of (line_low l) (every line_low ls) t))
  where
    here : line_low l ≡ true
    here = first_of (line_low l) (every line_low ls) t

    go : (b : Bool) → lists l p r ≡ b → found ls p r ≡ no_line → cond b l (found ls p r) ≡ no_line
    go true e k =
        absurd
        (h
        (low l.pages p (first_of (last_low l.pages) (last_low l.registers) here) (its_page l.pages l.registers p r e))
        (low l.registers r (second_of (last_low l.pages) (last_low l.registers) here) (its_register l.pages l.registers p r e)))
    go false e k = k

thirty_two : (row_at 32 12 ≡ no_row) × (row_at 0 44 ≡ no_row) × (no_row.register ≡ Unlisted)
unfolding row_at table
thirty_two = (refl, refl, refl)

pub above_31 : (p r : ℕ) → (p < selected_below → r < selected_below → ⊥) → row_at p r ≡ no_row
unfolding row_at
above_31 p r h = ap (λ (l : Line). row_on l (port_of p) r) (none_found p r table h table_low)
