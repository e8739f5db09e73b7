-- Demand 1, access by access. Assumes nothing.
--   three_turned_away == 5, 6 and 4 with three bytes of an address written: nothing moves; and a C write of 40h
--   read_is_still, write_is_still, select_is_still, access_is_still == the statements
use Prim.Native.Nat.{ℕ}
use mathlib.Core.Path.{◌≡◌, refl, sym, ◌∙◌, ap}
use mathlib.Core.Bool.{true, true≢false}
use mathlib.Core.List.{[], ◌∷◌}
use mathlib.Core.Option.{Option, none, some}
use Rattle.record.specs.declared.Access.TheVariants.{WriteC, WriteD, ReadD}
use Rattle.record.specs.Refusals.{first_of}
use Rattle.host.specs.declared.Host.{Host}
use Rattle.host.proofs.Afresh.{kept_by_a_refusal}
use Rattle.attributes.specs.Nine.{nothing_counted}
use Rattle.answer.specs.declared.Answer.TheVariants.{Refused}
use Rattle.answer.specs.Answer.{number_of, outputs_of, byte_of}
use Rattle.chip.specs.declared.Core.{Core}
use Rattle.access.specs.declared.Acted.{Acted}
use Rattle.access.specs.Access.{turned_away, selected_by, d_read_of, d_write_of, served}
use Rattle.access.specs.Refusals.{rows_of, is_refused, Left}
use Rattle.access.specs.Sheet.{changed}
use Rattle.access.specs.Still.{Still, ReadIsStill, WriteIsStill, SelectIsStill, AccessIsStill}
use Rattle.access.proofs.Computing.{accessing}
use Rattle.access.proofs.Refused.{left}

-- three bytes written, with P and R somewhere
abbrev three : ℕ → ℕ → Host
three p r = record { page = p; register = r; bytes = 1 ∷ 2 ∷ 3 ∷ 0 ∷ 0 ∷ 0 ∷ []; place = 3; writing = true }

three_turned_away : (d_read_of changed nothing_counted (three 3 14) ≡ turned_away changed (three 3 14) 5)
    × (d_read_of changed nothing_counted (three 0 30) ≡ turned_away changed (three 0 30) 6)
    × (d_write_of changed (three 1 0) 255 ≡ turned_away changed (three 1 0) 6)
    × (d_write_of changed (three 0 31) 0 ≡ turned_away changed (three 0 31) 4)
    × ((served (WriteC 0x40) changed nothing_counted (three 31 14)).host ≡ three 31 14)
unfolding accessing
three_turned_away = (refl, refl, refl, refl, refl)

still : (o : Option ℕ) (c : Core) (h : Host) (t : Acted) (k : ℕ) → Left o c h t → t.answer ≡ Refused k → Still c h t k
still none c h t k w e = absurd (true≢false (sym (ap is_refused e) ∙ w))
still (some j) c h t k w e = record {
  core = ap (λ (x : Acted). x.core) w;
  host = ap (λ (x : Acted). x.host) w;
  port = ap (λ (x : Acted). x.port) w;
  number = ap number_of e;
  outputs = ap outputs_of e;
  value = ap byte_of e;
}

pub access_is_still : AccessIsStill
access_is_still a c nine h k e = still (first_of (rows_of a (selected_by h))) c h (served a c nine h) k (left c nine h a) e

pub read_is_still : ReadIsStill
unfolding served
read_is_still c nine h k e = access_is_still ReadD c nine h k e

pub write_is_still : WriteIsStill
unfolding served
write_is_still c h b k e = access_is_still (WriteD b) c nothing_counted h k e

pub select_is_still : SelectIsStill
unfolding served
select_is_still c nine h b e = (refl, kept_by_a_refusal b h e, refl)
