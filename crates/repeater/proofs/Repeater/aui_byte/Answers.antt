use Prim.Native.Nat.{ℕ, ◌<◌}
use mathlib.Core.Path.{◌≡◌, refl}
use mathlib.Core.Bool.{Bool, true, false}
use native.Mathlib.Omega.{arith}
use Rattle.std.specs.Int.{from_bool}
use Rattle.repeater.specs.Door.{port_at}
use Rattle.repeater.specs.Answers.{bit}
use Rattle.repeater.proofs.Repeater.aui_byte.Goals as goal

small : (b : Bool) (n : ℕ) → n ≡ from_bool b → n < 2
small true n e = omega arith
small false n e = omega arith

same : (b : Bool) → from_bool b ≡ bit b
same true = refl
same false = refl

pub overflow_mul-result-4 : goal.overflow_mul-result-4
overflow_mul-result-4 c = let a = small _ _ c.from-4.ensures in omega arith

pub overflow_add-result-3 : goal.overflow_add-result-3
overflow_add-result-3 c =
    let k = small _ _ c.from.ensures in
    let l = small _ _ c.from-2.ensures in
    let m = small _ _ c.from-3.ensures in
    let n = small _ _ c.from-4.ensures in
    omega arith

pub returns : goal.returns
unfolding port_at
returns c = simp (c.from.ensures, c.from-2.ensures, c.from-3.ensures, c.from-4.ensures, c.find-connected.ensures, same)
