-- The step over counters and addresses as they are kept. Assumes nothing.
--   addressed_any     == an access that completed an address, as `readdress` makes it
use Prim.Native.Nat.{ℕ}
use Rattle.std.specs.Prelude.{Some}
use mathlib.Core.Path.{◌≡◌, refl, sym}
use mathlib.Core.Bool.{Bool, true, false, cond}
use mathlib.Core.List.{List}
use borrow.Author.Tests.{ltb-false}
use lib.Dec.{ltb}
use Rattle.ports.specs.Sets.{port_count}
use Rattle.attributes.specs.declared.Flat.{Flat}
use Rattle.attributes.specs.Nine.{readdressed}
use Rattle.attributes.specs.Flat.{nine_in}
use Rattle.attributes.proofs.FlatLaws.{address_unstored}
use Rattle.himib.specs.Step.{addressed_at}

pub addressed_any : (i : ℕ) (source : List ℕ) (flat : Flat) → readdressed i source (nine_in flat) ≡ addressed_at (Some i) source (nine_in flat)
unfolding addressed_at
addressed_any i source flat = go (ltb i port_count) refl
  where
    go : (t : Bool) → ltb i port_count ≡ t → readdressed i source (nine_in flat) ≡ cond t (readdressed i source (nine_in flat)) (nine_in flat)
    go true e = refl
    go false e = sym (address_unstored i source flat.counters flat.addresses (ltb-false i port_count e))
