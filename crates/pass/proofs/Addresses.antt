-- Demand 3, the last source addresses: the last one given, by a readable frame or by a completed write, else the one at the start. Assumes nothing.
--   DWrite a, d_write_lem == whether a record asks for a D write
--   Addressed p bs i  == the record bs, met at p, gives port i an address or leaves the one that it has; addressed == so does every record
--   addresses_by_past == demand 3
use Prim.Native.Nat.{ℕ, ◌<◌}
use mathlib.Core.Path.{◌≡◌, refl, sym, ap, ◌∙◌}
use mathlib.Core.Bool.{Bool, true, false, cond, ◌&&◌, and-false}
use mathlib.Core.List.{List, [], ◌∷◌}
use mathlib.Core.Option.{Option, none, some}
use lib.Dec.{eqb}
use Rattle.std.specs.Prelude.{None}
use Rattle.ports.specs.Sets.{is_at}
use Rattle.record.specs.declared.Burst.{Burst}
use Rattle.record.specs.declared.Access.{Access}
use Rattle.record.specs.declared.Access.TheVariants as access
use Rattle.record.specs.declared.Asked.{Asked}
use Rattle.record.specs.declared.Asked.TheVariants as ask
use Rattle.record.specs.Refusals.{record_of}
use Rattle.record.proofs.KindLaws.{quiet_is_no}
use Rattle.record.specs.Accepted.{kind_number}
use Rattle.host.specs.declared.Host.{Host}
use Rattle.host.specs.declared.Role.{Role}
use Rattle.host.specs.declared.Role.TheVariants as role
use Rattle.host.specs.Sequence.{wrote_byte}
use Rattle.attributes.specs.declared.Nine.{Nine}
use Rattle.attributes.specs.Nine.{address_of, Proper}
use Rattle.attributes.specs.Credits.{one, frame_at}
use Rattle.attributes.proofs.NineLaws.{address_credited, frame_credit}
use Rattle.chip.specs.declared.Core.{Core}
use Rattle.access.specs.declared.Acted.{Acted}
use Rattle.access.specs.Access.{written_by, turned_away, selected_by, c_read_of, d_write_of, served}
use Rattle.access.proofs.Cases.{stored, write_cases, read_nobody}
use Rattle.himib.specs.Step.{addressed_at, taken, step_of}
use Rattle.himib.proofs.StepLaws.{burst_consistent, eqb_turned, address_addressed}
use Rattle.himib.specs.Runs.{Point, happening, start, accepted, if_burst, address_at, history_of, run_of}
use Rattle.pass.specs.Judged.{happens, history, run}
use Rattle.pass.specs.Pass.{credit, written_byte, is_address, address_given, or_else, last_given, AddressesByPast}
use Rattle.pass.proofs.Credited.{due_in, attributes_burst, credit_burst, Fit, fit_after, fit_start}

-- A D WRITE

-- what completes the address of port i gives it the bytes; any other D write, and one that is turned away, gives nothing
module _ (c : Core) (nine : Nine) (h : Host) (w i : ℕ) (l : i < 9) (proper : Proper nine) where
  abbrev complete : Bool
  complete = (wrote_byte (selected_by h).size w h).complete

  abbrev Told : Acted → Type 0
  Told t =
      address_of (addressed_at t.port t.host.bytes nine) i
      ≡ or_else (cond (accepted t.answer && is_address i (selected_by h).role && complete) (some t.host.bytes) none) (address_of nine i)

  away : (k : ℕ) → Told (turned_away c h k)
  unfolding accepted addressed_at
  away k = refl

  -- a register of another role completes nothing
  named : (t : Bool) (role : Role) (s old : List ℕ)
      → cond (is_at (cond t (written_by role w c).port None) i) s old ≡ or_else (cond (is_address i role && t) (some s) none) old
  unfolding written_by
  named true role.Plain s old = refl
  named true (role.Cleared r) s old = refl
  named true (role.Commands g) s old = refl
  named true (role.Enables r) s old = refl
  named true (role.Address q) s old = rw (eqb_turned i q) (go (eqb q i))
    where
      go : (u : Bool) → cond u s old ≡ or_else (cond (u && true) (some s) none) old
      go true = refl
      go false = refl
  named false role s old = rw (and-false (is_address i role))

  taken_in_lem : Told (stored (selected_by h) c h w)
  unfolding accepted
  taken_in_lem =
      address_addressed _ _ nine proper i l ∙ named complete (selected_by h).role (wrote_byte (selected_by h).size w h).host.bytes (address_of nine i)

  told : Told (d_write_of c h w)
  told = write_cases Told c h away w taken_in_lem

pub data DWrite (a : Asked) : Type 0 where
  it_is : (w : ℕ) → a ≡ ask.Access (access.WriteD w) → DWrite a
  it_is_not : eqb (kind_number a) 5 ≡ false → DWrite a

pub d_write_lem : (a : Asked) → DWrite a
d_write_lem (ask.Burst b) = it_is_not refl
d_write_lem (ask.Quiet q) = it_is_not (quiet_is_no 5 refl q)
d_write_lem (ask.Access (access.WriteC w)) = it_is_not refl
d_write_lem (ask.Access (access.WriteD w)) = it_is w refl
d_write_lem (ask.Access access.ReadC) = it_is_not refl
d_write_lem (ask.Access access.ReadD) = it_is_not refl
d_write_lem ask.Reset = it_is_not refl
d_write_lem (ask.Refused k) = it_is_not refl

-- ONE RECORD

module _ (p : Point) (bs : List ℕ) (i : ℕ) where
  abbrev pub Addressed : Type 0
  Addressed = address_at i (happens p bs).after ≡ or_else (address_given i (happens p bs)) (address_at i p)

  -- by a readable frame
  framed : (t : Bool) (s old : List ℕ) → cond t s old ≡ or_else (cond (eqb (one t) 1) (some s) none) old
  framed true s old = refl
  framed false s old = refl

  given_burst : (b : Burst) → (record_of bs).asked ≡ ask.Burst b
      → address_given i (happens p bs) ≡ cond (eqb (one (frame_at (due_in p b (record_of bs).source) i)) 1) (some (record_of bs).source) none
  unfolding address_given happening
  given_burst b e = rw (credit_burst p bs b e i 0, frame_credit (due_in p b (record_of bs).source) b i, e)

  module _ (l : i < 9) (proper : Proper p.chip.attributes) where
    addressed_burst : (b : Burst) → (record_of bs).asked ≡ ask.Burst b → Addressed
    addressed_burst b e =
        let source = (record_of bs).source in
        let nine = p.chip.attributes in
        ap (λ (n : Nine). address_of n i) (attributes_burst p bs b e)
        ∙ address_credited (due_in p b source) b source nine proper (burst_consistent p.chip.core b nine source) i l
        ∙ framed (frame_at (due_in p b source) i) source (address_at i p)
        ∙ ap (λ (o : Option (List ℕ)). or_else o (address_at i p)) (sym (given_burst b e))

    pub addressed : Addressed
    unfolding address_given happening step_of taken served c_read_of addressed_at written_byte credit if_burst
    addressed = go (record_of bs).asked refl
      where
        go : (a : Asked) → (record_of bs).asked ≡ a → Addressed
        go (ask.Burst b) e = addressed_burst b e
        go (ask.Quiet q) e = rw (e, quiet_is_no 5 refl q)
        go (ask.Access (access.WriteC w)) e = rw e
        go (ask.Access (access.WriteD w)) e = rw e (told p.chip.core p.chip.attributes p.host w i l proper)
        go (ask.Access access.ReadC) e = rw e
        go (ask.Access access.ReadD) e = rw (e, read_nobody p.chip.core p.chip.attributes p.host)
        go ask.Reset e = rw e
        go (ask.Refused k) e = rw e

-- A RUN

from_here : (p : Point) → Fit p → (rs : List (List ℕ)) (i : ℕ) → i < 9 → address_at i (run p rs) ≡ last_given i (address_at i p) (history p rs)
unfolding run_of history_of last_given
from_here p fit [] i l = refl
from_here p fit (r ∷ rs) i l =
    from_here (happens p r).after (fit_after p r fit) rs i l
    ∙ ap (λ (a : List ℕ). last_given i a (history (happens p r).after rs)) (addressed p r i l fit.attributes)

-- its instance: brink_given, five_bytes, six_bytes_lem and then_a_frame of Instances
pub addresses_by_past : AddressesByPast
addresses_by_past given g rs i l = from_here (start given) (fit_start given g) rs i l
