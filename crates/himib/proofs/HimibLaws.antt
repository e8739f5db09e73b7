-- The cases of the step's definitions. Assumes nothing.
use Prim.Native.Nat.{ℕ}
use mathlib.Core.Path.{◌≡◌, refl}
use mathlib.Core.List.{List}
use Rattle.std.specs.Prelude.{None}
use Rattle.attributes.specs.declared.Nine.{Nine}
use Rattle.himib.specs.Step.{addressed_at}

-- an access that completed no address
pub addressed_nobody : (source : List ℕ) (nine : Nine) → addressed_at None source nine ≡ nine
unfolding addressed_at
addressed_nobody source nine = refl
