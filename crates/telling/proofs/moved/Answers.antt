use Prim.Native.Nat.{ℕ, ◌<◌, ◌+◌, ◌*◌}
use mathlib.Core.Path.{ap, ◌∙◌}
use native.Mathlib.Omega.{arith}
use Rattle.ports.proofs.Sets.{from_none, from_turn, from_lt}
use Rattle.telling.specs.Telling.{differ, moved_of}
use Rattle.telling.proofs.TellingLaws.{as_word, cond_le, moved_made}
use Rattle.telling.proofs.moved.Goals as goal

pub loop-i-init : goal.loop-i-init
loop-i-init c = from_none 9 _

pub overflow_mul-mask : goal.overflow_mul-mask
overflow_mul-mask c = let h : c.loop-i.mask < 512 = rw c.loop-i.invariant (from_lt 9 _ _) in omega arith

pub overflow_add-mask : goal.overflow_add-mask
overflow_add-mask c =
    let h : c.loop-i.mask < 512 = rw c.loop-i.invariant (from_lt 9 _ _) in
    omega (arith, c.from.ensures ∙ as_word (differ c.counter.result c.counter-in-loop-i.result), cond_le (differ c.counter.result c.counter-in-loop-i.result))

pub loop-i-preserved : goal.loop-i-preserved
loop-i-preserved c =
    let l = c.loop-i in
    from_turn 9 _ l.i l.mask _ _ c.loop-i-test.true (omega arith) l.invariant
    (rw (← c.counter.ensures, ← c.counter-in-loop-i.ensures))
    (ap (λ (k : ℕ). 2 * l.mask + k) (c.from.ensures ∙ as_word _))

pub returns : goal.returns
unfolding moved_of
returns c = moved_made _ _ _ c.loop-i-test.false c.loop-i.invariant
