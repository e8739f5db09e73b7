-- Document 01, 'Numbers turned away with', the rows of an access: it is turned away with the first of them that holds, and then nothing has changed; where
-- none holds it is not turned away. In every state of the core and of the host's record. Assumes nothing.
use Prim.Native.Nat.{ℕ}
use mathlib.Core.Path.{◌≡◌, refl}
use mathlib.Core.Bool.{Bool, true, false, cond, not}
use mathlib.Core.Option.{Option, none, some}
use lib.Dec.{eqb}
use Rattle.record.specs.declared.Access.{Access}
use Rattle.record.specs.declared.Access.TheVariants.{WriteC, WriteD, ReadC, ReadD}
use Rattle.record.specs.Refusals.{first_of}
use Rattle.host.specs.declared.Host.{Host}
use Rattle.host.specs.declared.Row.{Row}
use Rattle.host.specs.Map.{table}
use Rattle.host.proofs.Listed.{every_row}
use Rattle.attributes.specs.declared.Nine.{Nine}
use Rattle.chip.specs.declared.Core.{Core}
use Rattle.access.specs.declared.Acted.{Acted}
use Rattle.access.specs.Access.{strange, turned_away, selected_by, c_read_of, read_of, write_of, d_read_of, d_write_of, served}
use Rattle.access.specs.Refusals.{read_rows, write_rows, rows_of, is_refused, Left}
use Rattle.access.proofs.AccessLaws

-- the rows as the code asks them: no bytes, then not this way
abbrev asked : Bool → Row → Option ℕ → Option ℕ
asked way w o = cond (eqb w.size 0) (some 5) (cond (not way) (some 6) o)

strangeness : Bool → Option ℕ
strangeness b = cond b (some 4) none

module _ (h : Host) where
  read_rows_lem : first_of (read_rows (selected_by h)) ≡ asked (selected_by h).readable (selected_by h) none
  unfolding first_of table
  read_rows_lem = every_row (λ w. first_of (read_rows w)) (λ w. asked w.readable w none) h.page h.register (λ i q. refl)

  write_rows_lem : (b : ℕ) → first_of (write_rows (selected_by h) b) ≡ asked (selected_by h).writable (selected_by h) (strangeness (strange (selected_by h).role b))
  unfolding first_of table strangeness
  write_rows_lem b =
      every_row (λ w. first_of (write_rows w b)) (λ w. asked w.writable w (strangeness (strange w.role b))) h.page h.register (λ i q. refl)

module _ (c : Core) (nine : Nine) (h : Host) where
  left_read : Left (first_of (read_rows (selected_by h))) c h (d_read_of c nine h)
  unfolding d_read_of read_of
  left_read = rw (read_rows_lem h) (go (eqb (selected_by h).size 0) (selected_by h).readable)
    where
      go : (a b : Bool) → Left (cond a (some 5) (cond (not b) (some 6) none)) c h
          (cond a (turned_away c h 5) (cond (not b) (turned_away c h 6) (read_of (selected_by h) c nine h)))
      go true b = refl
      go false true = refl
      go false false = refl

  left_write : (b : ℕ) → Left (first_of (write_rows (selected_by h) b)) c h (d_write_of c h b)
  unfolding d_write_of write_of strangeness
  left_write b =
      rw (write_rows_lem h b)
      (go _ refl (eqb (selected_by h).size 0) (selected_by h).writable (strange (selected_by h).role b))
    where
      -- t is what an accepted write leaves
      go : (t : Acted) → is_refused t.answer ≡ false → (x y z : Bool)
          → Left (cond x (some 5) (cond (not y) (some 6) (cond z (some 4) none))) c h
          (cond x (turned_away c h 5) (cond (not y) (turned_away c h 6) (cond z (turned_away c h 4) t)))
      go t e true y z = refl
      go t e false true true = refl
      go t e false true false = e
      go t e false false z = refl

  pub left : (a : Access) → Left (first_of (rows_of a (selected_by h))) c h (served a c nine h)
  unfolding served first_of c_read_of
  left (WriteC b) = refl
  left (WriteD b) = left_write b
  left ReadC = refl
  left ReadD = left_read
