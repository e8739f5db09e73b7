-- Demand 3, the host's record by the past alone. Assumes nothing.
--   selection_by_past      == P and R
--   address_writes_by_past == the bytes of an address write
--   Row, written_on, whole_at, bytes_at_lem == what the host's record holds of bytes written in a row, for the crates above
use Prim.Native.Nat.{ℕ, suc, ◌+◌, ◌-◌, ◌/◌, ◌%◌, ◌≤◌, ◌<◌}
use mathlib.Core.Path.{◌≡◌, refl, sym, ap, ◌∙◌}
use mathlib.Core.Bool.{Bool, true, false, cond, ◌&&◌, ◌||◌, false≢true}
use mathlib.Core.List.{List, [], ◌∷◌, ◌++◌}
use mathlib.Core.Option.{Option, none, some}
use mathlib.Core.Logic.{◌⊎◌, ⊎_elim}
use native.Mathlib.Omega.{arith}
use borrow.Author.Tests.{eq-eqb, ne_eqb, eqb-true, leb-true, leb-false}
use lib.Dec.{eqb, leb}
use lib.ListN.{length, set, take, drop, length-set, length-append, drop_of_length-le}
use lib.Seq.{take-suc-set, drop-append-le, take_all}
use Rattle.ports.proofs.Sets.{and_first}
use Rattle.record.specs.declared.Access.TheVariants.{WriteC, WriteD, ReadC, ReadD}
use Rattle.record.specs.declared.Asked.{Asked}
use Rattle.record.specs.declared.Asked.TheVariants as ask
use Rattle.record.specs.Record.{bytes_from}
use Rattle.record.specs.Refusals.{record_of, answer, first_of, refusals}
use Rattle.record.specs.Accepted.{kind_number}
use Rattle.record.proofs.Accepted.{bounded_as}
use Rattle.host.specs.declared.Host.{Host}
use Rattle.host.specs.Map.{row_at, table}
use Rattle.host.specs.Sequence.{power_up, selected, restarted, with_selection, place_for, is_last, next_place, copied, read_byte, wrote_byte}
use Rattle.host.specs.Sequence as sequence
use Rattle.host.proofs.Listed.{every_row, proper_register}
use Rattle.host.proofs.Places.{next_on, next_over, goes_on}
use Rattle.host.proofs.Afresh.{restarted_by_a_selection, turned_to_writing}
use Rattle.attributes.specs.declared.Nine.{Nine}
use Rattle.attributes.specs.Nine.{address_of}
use Rattle.chip.specs.declared.Core.{Core}
use Rattle.access.specs.declared.Acted.{Acted}
use Rattle.access.specs.Access.{value_of, turned_away, selected_by, c_read_of, read_of, d_read_of, d_write_of, served}
use Rattle.access.proofs.Cases.{stored, read_cases, write_cases}
use Rattle.access.proofs.Values.{value_six}
use Rattle.himib.specs.Step.{taken, step_of}
use Rattle.himib.specs.Runs.{Point, Happening, happening, start, accepted, address_at, history_of, run_of}
use Rattle.pass.specs.Judged.{happens, history, run}
use Rattle.pass.specs.Pass.{credit, written_byte, is_address, completes, address_given, or_else}
use Rattle.pass.specs.HostPast.{page_after, register_after, page_by, register_by, SelectionByPast, row_after, in_a_row, EverySixth, AddressWritesByPast}
use Rattle.record.proofs.KindLaws.{quiet_is_no}
use Rattle.pass.proofs.Credited.{Fit, fit_after, fit_start}
use Rattle.pass.proofs.Addresses.{DWrite, it_is, it_is_not, d_write_lem, addressed}

-- WHAT IS SELECTED

-- an access leaves the selection alone
module _ (c : Core) (nine : Nine) (h : Host) where
  abbrev Kept : Acted → Type 0
  Kept t = (t.host.page ≡ h.page) × (t.host.register ≡ h.register)

  read_kept : Kept (d_read_of c nine h)
  unfolding read_of read_byte
  read_kept = read_cases Kept c h (λ k. (refl, refl)) nine (refl, refl)

  write_kept : (b : ℕ) → Kept (d_write_of c h b)
  unfolding wrote_byte
  write_kept b = write_cases Kept c h (λ k. (refl, refl)) b (refl, refl)

-- after a C write, by whether its top bits are those that select P, and those that select R
abbrev selected_as : Bool → Bool → ℕ → Host → Host
selected_as t u b h = cond t (restarted (with_selection h (b % 32) h.register)) (cond u (restarted (with_selection h h.page (b % 32))) h)

selected_page : (b : ℕ) (h : Host) → (selected b h).page ≡ cond (eqb (b / 32) 0b000) (b % 32) h.page
unfolding selected
selected_page b h = go (eqb (b / 32) 0b000) (eqb (b / 32) 0b111)
  where
    go : (t u : Bool) → (selected_as t u b h).page ≡ cond t (b % 32) h.page
    go true u = refl
    go false true = refl
    go false false = refl

selected_register : (b : ℕ) (h : Host) → (selected b h).register ≡ cond (eqb (b / 32) 0b111) (b % 32) h.register
unfolding selected
selected_register b h = go (eqb (b / 32) 0b000) (eqb (b / 32) 0b111) refl refl
  where
    go : (t u : Bool) → eqb (b / 32) 0b000 ≡ t → eqb (b / 32) 0b111 ≡ u → (selected_as t u b h).register ≡ cond u (b % 32) h.register
    go true true e f = absurd (omega (arith, eqb-true (b / 32) 0b000 e, eqb-true (b / 32) 0b111 f))
    go true false e f = refl
    go false true e f = refl
    go false false e f = refl

module _ (p : Point) (bs : List ℕ) where
  abbrev Selects : Type 0
  Selects =
      ((happens p bs).after.host.page ≡ page_after p.host.page (happens p bs))
      × ((happens p bs).after.host.register ≡ register_after p.host.register (happens p bs))

  selects_by : (a : Asked) → (record_of bs).asked ≡ a → Selects
  unfolding happening step_of taken served c_read_of written_byte
  selects_by (ask.Burst b) e = rw e (refl, refl)
  selects_by (ask.Quiet q) e = rw (e, quiet_is_no 8 refl q, quiet_is_no 4 refl q) (refl, refl)
  selects_by (ask.Access (WriteC b)) e = rw e (selected_page b p.host, selected_register b p.host)
  selects_by (ask.Access (WriteD b)) e = rw e (write_kept p.chip.core p.chip.attributes p.host b)
  selects_by (ask.Access ReadC) e = rw e (refl, refl)
  selects_by (ask.Access ReadD) e = rw e (read_kept p.chip.core p.chip.attributes p.host)
  selects_by ask.Reset e = rw e (refl, refl)
  selects_by (ask.Refused k) e = rw e (refl, refl)

selection_from : (p : Point) (rs : List (List ℕ))
    → ((run p rs).host.page ≡ page_by p.host.page (history p rs)) × ((run p rs).host.register ≡ register_by p.host.register (history p rs))
unfolding run_of history_of page_by register_by
selection_from p [] = (refl, refl)
selection_from p (r ∷ rs) =
    let now : Selects p r = selects_by p r (record_of r).asked refl in
    let later = selection_from (happens p r).after rs in
    let hs : List Happening = history (happens p r).after rs in
    (later.0 ∙ ap (λ (q : ℕ). page_by q hs) now.0, later.1 ∙ ap (λ (q : ℕ). register_by q hs) now.1)

-- its instance: selected_at of Instances
pub selection_by_past : SelectionByPast
selection_by_past given rs = selection_from (start given) rs

-- BYTES IN A ROW

-- the k-th byte of a row goes to place k % 6 of a register of six bytes
next_six : (k : ℕ) → next_place 6 (k % 6) ≡ (k + 1) % 6
next_six k = go (leb 6 (k % 6 + 1)) refl
  where
    go : (t : Bool) → leb 6 (k % 6 + 1) ≡ t → next_place 6 (k % 6) ≡ (k + 1) % 6
    go true e = let m = leb-true 6 (k % 6 + 1) e in next_over 6 (k % 6) m ∙ (omega arith)
    go false e = let m = leb-false 6 (k % 6 + 1) e in next_on 6 (k % 6) m ∙ (omega arith)

last_six_lem : (k : ℕ) → is_last 6 (k % 6) ≡ eqb ((k + 1) % 6) 0
unfolding is_last
last_six_lem k = go (leb 6 (k % 6 + 1)) refl
  where
    go : (t : Bool) → leb 6 (k % 6 + 1) ≡ t → leb 6 (k % 6 + 1) ≡ eqb ((k + 1) % 6) 0
    go true e = let m = leb-true 6 (k % 6 + 1) e in e ∙ sym (eq-eqb ((k + 1) % 6) 0 (omega arith))
    go false e = let m = leb-false 6 (k % 6 + 1) e in e ∙ sym (ne_eqb ((k + 1) % 6) 0 (λ z. omega arith))

-- the bytes that a register of six holds of a row, and one byte more
abbrev pub Held : List ℕ → List ℕ → Type 0
Held bytes w = take (length w % 6) bytes ≡ drop (length w - length w % 6) w

module _ (bytes w : List ℕ) (b : ℕ) (six : length bytes ≡ 6) (held : Held bytes w) where
  abbrev at : ℕ
  at = length w % 6

  abbrev more : List ℕ
  more = w ++ b ∷ []

  longer : length more ≡ length w + 1
  longer = length-append w (b ∷ [])

  one_further : take (suc at) (set bytes at b) ≡ drop (length w - at) more
  one_further =
      take-suc-set bytes at b (omega arith)
      ∙ ap (λ (l : List ℕ). l ++ (b ∷ [])) held
      ∙ sym (drop-append-le (length w - at) w (b ∷ []) (omega arith))

  held_more : Held (set bytes at b) more
  held_more = go (leb 6 (at + 1)) refl
    where
      go : (t : Bool) → leb 6 (at + 1) ≡ t → Held (set bytes at b) more
      go true e =
          let m = leb-true 6 (at + 1) e in
          let z : length more % 6 ≡ 0 = omega (arith, longer) in
          rw z (sym (drop_of_length-le more {i = length more - 0} (omega arith)))
      go false e =
          let m = leb-false 6 (at + 1) e in
          let z : length more % 6 ≡ suc at = omega (arith, longer) in
          let y : length more - suc at ≡ length w - at = omega (arith, longer) in
          rw (z, y) one_further

  -- at the sixth the register holds the last six
  last_of_six : at ≡ 5 → set bytes at b ≡ drop (length more - 6) more
  last_of_six z =
      let y : length more - 6 ≡ length w - at = omega (arith, longer) in
      sym (take_all (suc at) (set bytes at b) (omega (arith, length-set bytes at b))) ∙ rw y one_further

pub record Row (h : Host) (w : List ℕ) : Type 0 where
  pub six : length h.bytes ≡ 6
  pub place : (selected_by h).size ≡ 6 → place_for true 6 h ≡ length w % 6
  pub held : (selected_by h).size ≡ 6 → Held h.bytes w

-- a row begins where the next write takes the first byte
pub begun : (h : Host) → length h.bytes ≡ 6 → place_for true 6 h ≡ 0 → Row h []
begun h six first = record { six = six; place = λ z. first; held = λ z. refl }

pub up_first : place_for true 6 power_up ≡ 0
unfolding place_for
up_first = refl

pub written_on : (h : Host) (w : List ℕ) (b : ℕ) → Row h w → Row (wrote_byte (selected_by h).size b h).host (w ++ b ∷ [])
unfolding wrote_byte
written_on h w b r = record {
  six = length-set h.bytes _ b ∙ r.six;
  place = λ z.
      let n : next_place 6 (length w % 6) ≡ (length w + 1) % 6 = next_six (length w) in
      rw (z, r.place z, n, length-append w (b ∷ []))
      (goes_on 6 h (set h.bytes (length w % 6) b) true ((length w + 1) % 6) (omega arith));
  held = λ z. rw (z, r.place z) (held_more h.bytes w b r.six (r.held z));
}

-- a C write of a byte that is accepted
selecting : (b : ℕ) → (b < 32) ⊎ ((224 ≤ b) × (b < 256)) → sequence.selects b ≡ true
unfolding sequence.selects
selecting b h =
    ⊎_elim
    (λ l. let z : b / 32 ≡ 0 = omega arith in rw z)
    (λ l. let z : b / 32 ≡ 7 = omega arith in rw z)
    h

selected_six : (b : ℕ) (h : Host) → (selected b h).bytes ≡ h.bytes
unfolding selected
selected_six b h = go (eqb (b / 32) 0b000) (eqb (b / 32) 0b111)
  where
    go : (t u : Bool) → (selected_as t u b h).bytes ≡ h.bytes
    go true u = refl
    go false true = refl
    go false false = refl

-- every register's value is six bytes, if every port's address is
abbrev pub Sixes : Nine → Type 0
Sixes nine = (i : ℕ) → i < 9 → length (address_of nine i) ≡ 6

pub copied_six : (i : ℕ) (v bs : List ℕ) → length v ≡ 6 → length bs ≡ 6 → length (copied i v bs) ≡ 6
unfolding copied
copied_six i v bs l m = go (eqb i 0)
  where
    go : (t : Bool) → length (cond t v bs) ≡ 6
    go true = l
    go false = m

module _ (c : Core) (nine : Nine) (h : Host) (w : List ℕ) (row : Row h w) where
  -- a D read begins a row anew, a D write goes on, and what is turned away does neither
  abbrev Read : Acted → Type 0
  Read t = Row t.host (cond (accepted t.answer || false) [] w)

  read_row : Sixes nine → Read (d_read_of c nine h)
  unfolding read_of read_byte accepted
  read_row six =
      let v : List ℕ = value_of c nine (selected_by h).register in
      let l : length v ≡ 6 = value_six c nine six (selected_by h).register (proper_register h.page h.register) in
      read_cases Read c h (λ k. row) nine
      (begun _ (copied_six (place_for false (selected_by h).size h) v h.bytes l row.six) (turned_to_writing 6 (selected_by h).size v h))

  abbrev Wrote : ℕ → Acted → Type 0
  Wrote b t = Row t.host (cond (accepted t.answer) (w ++ b ∷ []) w)

  write_row : (b : ℕ) → Wrote b (d_write_of c h b)
  unfolding accepted
  write_row b = write_cases (Wrote b) c h (λ k. row) b (written_on h w b row)

-- ONE RECORD

pub source_six : (bs : List ℕ) → length (record_of bs).source ≡ 6
unfolding record_of answer bytes_from
source_six bs = go (first_of (refusals bs))
  where
    go : (o : Option ℕ) → length (answer o bs).source ≡ 6
    go (some k) = refl
    go none = refl

module _ (p : Point) (bs : List ℕ) (w : List ℕ) (sixes : Sixes p.chip.attributes) (row : Row p.host w) where
  row_by : (a : Asked) → (record_of bs).asked ≡ a → Row (happens p bs).after.host (row_after w (happens p bs))
  unfolding happening step_of taken served c_read_of written_byte
  row_by (ask.Burst b) e = rw e row
  row_by (ask.Quiet q) e = rw (e, quiet_is_no 4 refl q, quiet_is_no 7 refl q, quiet_is_no 8 refl q, quiet_is_no 5 refl q) row
  row_by (ask.Access (WriteC b)) e =
      let s : sequence.selects b ≡ true = selecting b (bounded_as bs refl e) in
      rw e (begun (selected b p.host) (ap length (selected_six b p.host) ∙ row.six) (restarted_by_a_selection true 6 b p.host s))
  row_by (ask.Access (WriteD b)) e = rw e (write_row p.chip.core p.chip.attributes p.host w row b)
  row_by (ask.Access ReadC) e = rw e row
  row_by (ask.Access ReadD) e = rw e (read_row p.chip.core p.chip.attributes p.host w row sixes)
  row_by ask.Reset e = rw e (begun power_up refl up_first)
  row_by (ask.Refused k) e = rw e row

  row_after_lem : Row (happens p bs).after.host (row_after w (happens p bs))
  row_after_lem = row_by (record_of bs).asked refl

  given_six : (i : ℕ) → i < 9 → length (or_else (address_given i (happens p bs)) (address_at i p)) ≡ 6
  unfolding address_given happening
  given_six i l = go (eqb (credit i 0 (happens p bs)) 1) (completes i (happens p bs))
    where
      go : (t u : Bool) → length (or_else (cond t (some (record_of bs).source) (cond u (some (happens p bs).after.host.bytes) none)) (address_at i p)) ≡ 6
      go true u = source_six bs
      go false true = row_after_lem.six
      go false false = sixes i l

  sixes_after : Fit p → Sixes (happens p bs).after.chip.attributes
  sixes_after fit i l = ap length (addressed p bs i l fit.attributes) ∙ given_six i l

-- what completes is the write of every sixth byte
address_size : (p r i : ℕ) → is_address i (row_at p r).role ≡ true → (row_at p r).size ≡ 6
unfolding table
address_size p r i e =
    let k = every_row (λ w. is_address i w.role) (λ w. eqb w.size 6 && is_address i w.role) p r (λ j q. refl) in
    eqb-true (row_at p r).size 6 (and_first (eqb (row_at p r).size 6) (is_address i (row_at p r).role) (sym k ∙ e))

-- a write to a register of six bytes completes at every sixth of the row, with the last six
module _ (h : Host) (w : List ℕ) (b : ℕ) (row : Row h w) (z : (selected_by h).size ≡ 6) where
  pub whole_at : (wrote_byte (selected_by h).size b h).complete ≡ eqb (length (w ++ b ∷ []) % 6) 0
  unfolding wrote_byte
  whole_at = rw (z, row.place z, length-append w (b ∷ [])) (last_six_lem (length w))

  pub bytes_at_lem : (wrote_byte (selected_by h).size b h).complete ≡ true
      → (wrote_byte (selected_by h).size b h).host.bytes ≡ drop (length (w ++ b ∷ []) - 6) (w ++ b ∷ [])
  unfolding wrote_byte
  bytes_at_lem e =
      let f = eqb-true (length (w ++ b ∷ []) % 6) 0 (sym whole_at ∙ e) in
      let g = length-append w (b ∷ []) in
      let five : length w % 6 ≡ 5 = omega arith in
      rw (z, row.place z) (last_of_six h.bytes w b row.six (row.held z) five)

module _ (c : Core) (h : Host) (w : List ℕ) (b i : ℕ) (row : Row h w) where
  abbrev size : ℕ
  size = (selected_by h).size

  abbrev here : Bool
  here = is_address i (selected_by h).role

  abbrev whole : Bool
  whole = (wrote_byte size b h).complete

  abbrev row_of_them : Acted → List ℕ
  row_of_them t = cond (accepted t.answer) (w ++ b ∷ []) w

  abbrev Sixth : Acted → Type 0
  Sixth t =
      ((accepted t.answer && here && whole) ≡ (accepted t.answer && here && eqb (length (row_of_them t) % 6) 0))
      × ((accepted t.answer && here && whole) ≡ true → t.host.bytes ≡ drop (length (row_of_them t) - 6) (row_of_them t))

  away : (k : ℕ) → Sixth (turned_away c h k)
  unfolding accepted
  away k = (refl, λ z. absurd (false≢true z))

  sixth_written : Sixth (stored (selected_by h) c h b)
  unfolding accepted
  sixth_written = go here refl
    where
      go : (t : Bool) → here ≡ t
          → ((t && whole) ≡ (t && eqb (length (w ++ b ∷ []) % 6) 0))
          × ((t && whole) ≡ true → (wrote_byte size b h).host.bytes ≡ drop (length (w ++ b ∷ []) - 6) (w ++ b ∷ []))
      go true e =
          let z : size ≡ 6 = address_size h.page h.register i e in
          (whole_at h w b row z, bytes_at_lem h w b row z)
      go false e = (refl, λ z. absurd (false≢true z))

  sixth : Sixth (d_write_of c h b)
  sixth = write_cases Sixth c h away b sixth_written

module _ (p : Point) (bs w : List ℕ) (i : ℕ) (row : Row p.host w) where
  abbrev Told : Type 0
  Told = EverySixth p (happens p bs) (row_after w (happens p bs)) i

  told_write : (b : ℕ) → (record_of bs).asked ≡ ask.Access (WriteD b) → Told
  unfolding happening step_of taken served written_byte
  told_write b e =
      let s = sixth p.chip.core p.host w b i row in
      record { exactly = rw e s.0; gives = rw e s.1 }

  told_other : eqb (kind_number (record_of bs).asked) 5 ≡ false → Told
  unfolding happening
  told_other k = record { exactly = rw k; gives = rw k (λ z. absurd (false≢true z)) }

  told : Told
  told = go (d_write_lem (record_of bs).asked)
    where
      go : DWrite (record_of bs).asked → Told
      go (it_is b e) = told_write b e
      go (it_is_not k) = told_other k

-- A RUN

record Standing (p : Point) (w : List ℕ) : Type 0 where
  fit : Fit p
  sixes : Sixes p.chip.attributes
  row : Row p.host w

stands : (p : Point) (w : List ℕ) (rs : List (List ℕ)) → Standing p w → Standing (run p rs) (in_a_row w (history p rs))
unfolding run_of history_of in_a_row
stands p w [] s = s
stands p w (r ∷ rs) s =
    stands (happens p r).after (row_after w (happens p r)) rs
    (record { fit = fit_after p r s.fit; sixes = sixes_after p r w s.sixes s.row s.fit; row = row_after_lem p r w s.sixes s.row })

-- its instance: brink_given, brink_six, row-at and broken_at of Instances
pub address_writes_by_past : AddressWritesByPast
address_writes_by_past given g six rs r i l =
    told (run up rs) r (in_a_row [] (history up rs)) i
    (stands up [] rs (record { fit = fit_start given g; sixes = six; row = begun power_up refl up_first })).row
  where
    up : Point
    up = start given
