use Rattle.std.proofs.Common.{arith}
use Rattle.attributes.proofs.Totals.{turned, over, ends}
use Rattle.attributes.proofs.octets.carried.Goals as goal

pub returns-then-total-more : goal.returns-then-total-more
returns-then-total-more c =
    over _ _ _ _ _ _ c.loop-reading.invariant c.loop-reading-test.true
    (omega (arith, c.loop-reading.invariant.low, c.if-total-more.true, c.from-more.ensures, c.difference.ensures))

pub loop-reading-preserved : goal.loop-reading-preserved
loop-reading-preserved c =
    turned _ _ _ _ _ _ c.loop-reading.invariant c.loop-reading-test.true _ (omega arith)
    (omega (arith, c.loop-reading.invariant.low, c.if-total-more.false, c.from-more.ensures, c.difference.ensures))

pub returns : goal.returns
returns c = ends _ _ _ _ _ _ c.loop-reading.invariant c.loop-reading-test.false
