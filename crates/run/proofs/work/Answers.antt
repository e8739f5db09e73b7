use Prim.Native.Nat.{◌-◌, ◌≤◌}
use mathlib.Core.Path.{◌≡◌, refl, sym, ap, ◌∙◌}
use native.Mathlib.Omega.{arith}
use lib.ListN.{take}
use lib.Seq.{length-take-le}
use Rattle.run.proofs.Leaving.{moved_front, nothing_lost}
use Rattle.run.proofs.work.Goals as goal

pub returns : goal.returns
returns c =
    let a = c.args in
    let u = c.requires in
    let b = c.answer_block-b in
    let z : a.total - 0 ≡ a.total = omega arith in
    let l : b.result.at ≤ a.total = rw (length-take-le a.total a.buf.now u) at b.ensures.inside in
    nothing_lost a.state a.buf.now a.out.now _ _ a.total b.result.at _ u (c.told-buf ∙ sym c.told-out) refl (rw z b.ensures)
    (ap (take (a.total - b.result.at)) c.copy_within.ensures.after ∙ moved_front a.buf.now b.result.at a.total l u)
