-- The tables of specs/Commands.antt, by computing; and that a Set does nothing where it is set already. Assumes nothing.
--   gets_answered, sets_hold == the tables
--   IsSet, set_already       == what a Set finds where it has been made, and that it then leaves the repeater as it was
use Prim.Native.Nat.{ℕ}
use mathlib.Core.Path.{◌≡◌, refl, sym, ap, ◌∙◌}
use mathlib.Core.Bool.{Bool, true, false, cond}
use mathlib.Core.List.{map}
use lib.Dec.{ltb}
use Rattle.ports.specs.Sets.{aui}
use Rattle.management.specs.declared.Setting.{Setting}
use Rattle.management.specs.declared.Setting.TheVariants.{AlternateAui, AlternateTp, DisableAui, EnableAui, DisableTp, EnableTp, LinkTestOff, LinkTestOn}
use Rattle.port.specs.declared.Port.{Port}
use Rattle.port.specs.declared.Change.{Change}
use Rattle.port.specs.declared.Change.TheVariants.{Disabling, EnablingTp, EnablingAui, StoppingTest, StartingTest}
use Rattle.port.proofs.Sheet as One
use Rattle.repeater.specs.declared.Repeater.{Repeater}
use Rattle.repeater.specs.Door.{with_alternate, port_at, put_at}
use Rattle.repeater.specs.Repeater.{changed_at, changed_tp, set_to}
use Rattle.repeater.specs.Sheet.{Row, found}
use Rattle.repeater.specs.Commands.{Asked, asked, gets, sets}
use Rattle.repeater.proofs.Computing.{repeating}
use Rattle.repeater.proofs.DoorLaws.{put_back}

pub gets_answered : map (λ (w : Asked). w.bytes) gets ≡ map asked gets
unfolding repeating
gets_answered = refl

pub sets_hold : map (λ (w : Row). w.wanted) sets ≡ map found sets
unfolding repeating
sets_hold = refl

module _ (how : Change) (i : ℕ) (r : Repeater) (h : One.Already how (port_at r i)) where
  at_already : changed_at how i r ≡ r
  unfolding changed_at
  at_already = ap (λ (p : Port). put_at i p r) (One.set_already how (port_at r i) h) ∙ put_back r i

  tp_already : changed_tp how i r ≡ r
  unfolding changed_tp
  tp_already = go (ltb i aui)
    where
      go : (b : Bool) → cond b (changed_at how i r) r ≡ r
      go true = at_already
      go false = refl

abbrev pub IsSet : Setting → Repeater → Type 0
IsSet AlternateAui r = r.alternate_aui ≡ true
IsSet AlternateTp r = r.alternate_tp ≡ true
IsSet DisableAui r = (port_at r aui).enabled ≡ false
IsSet EnableAui r = (port_at r aui).enabled ≡ true
IsSet (DisableTp i) r = (port_at r i).enabled ≡ false
IsSet (EnableTp i) r = (port_at r i).enabled ≡ true
IsSet (LinkTestOff i) r = (port_at r i).link_test ≡ false
IsSet (LinkTestOn i) r = (port_at r i).link_test ≡ true

pub set_already : (s : Setting) (r : Repeater) → IsSet s r → set_to s r ≡ r
unfolding set_to
set_already AlternateAui r e = ap (λ (b : Bool). with_alternate r b r.alternate_tp) (sym e)
set_already AlternateTp r e = ap (with_alternate r r.alternate_aui) (sym e)
set_already DisableAui r e = at_already Disabling aui r e
set_already EnableAui r e = at_already EnablingAui aui r e
set_already (DisableTp i) r e = tp_already Disabling i r e
set_already (EnableTp i) r e = tp_already EnablingTp i r e
set_already (LinkTestOff i) r e = tp_already StoppingTest i r e
set_already (LinkTestOn i) r e = tp_already StartingTest i r e
