-- Document 01, 'Host registers': the bytes of a register of four, by their weights. Assumes nothing.
use Prim.Native.Nat.{ℕ, ◌+◌, ◌*◌, ◌^◌, ◌<◌}
use mathlib.Core.Path.{◌≡◌, refl}
use mathlib.Core.List.{[], ◌∷◌}
use native.Mathlib.Omega.{arith}
use lib.ListN.{get_or}
use Rattle.host.specs.Bytes.{spread_of}

a_counter : spread_of 0x04030201 ≡ 1 ∷ 2 ∷ 3 ∷ 4 ∷ 0 ∷ 0 ∷ []
a_counter = refl

pub weighs : (v : ℕ) → v < 2 ^ 32
    → let bs = spread_of v in
    get_or bs 0 0 + 256 * get_or bs 1 0 + 65536 * get_or bs 2 0 + 16777216 * get_or bs 3 0 ≡ v
weighs v h = omega arith
