use Rattle.std.proofs.Common.{sym, ap, ◌∙◌, arith}
use Rattle.attributes.specs.Octets.{total_on}
use Rattle.chain.specs.Chain.{readings_in}
use Rattle.chain.proofs.Loops.{nothing_on, turned, over, ends}
use Rattle.chain.proofs.carried.Goals as goal

pub returns-in_err-sum : goal.returns-in_err-sum
returns-in_err-sum c = c.from_residual.ensures ∙ nothing_on _ _ ∙ sym (ap (λ t. total_on t c.args.last (readings_in c.args.bytes.now)) c.in_err-sum.was)

pub returns-in_err-sum-2 : goal.returns-in_err-sum-2
returns-in_err-sum-2 c =
    let steps = c.in-Some.ensures.steps in
    let so_far = c.loop-piece.invariant in
    c.from_residual-in_err-sum-2.ensures
    ∙ over _ _ _ _ _ _ so_far.stands _ _ steps.1.0 (steps.1.1 ∙ so_far.whole) _ c.reading_of-reading.ensures c.in_err-sum-2.ensures
    ∙ sym (ap (λ t. total_on t c.args.last (readings_in c.args.bytes.now)) c.in_ok-sum.was)

pub loop-piece-preserved : goal.loop-piece-preserved
loop-piece-preserved c =
    let steps = c.in-Some.ensures.steps in
    let so_far = c.loop-piece.invariant in
    record {
      whole = steps.0 ∙ so_far.whole;
      stands = turned _ _ _ _ _ _ so_far.stands _ _ steps.1.0 (steps.1.1 ∙ so_far.whole) _ c.reading_of-reading.ensures _ (omega arith) c.in_ok-sum-2.ensures;
    }

pub returns : goal.returns
returns c =
    let so_far = c.loop-piece.invariant in
    ends _ _ _ _ _ _ so_far.stands (omega (arith, c.in-None.ensures.steps.1.0, so_far.whole))
    ∙ sym (ap (λ t. total_on t c.args.last (readings_in c.args.bytes.now)) c.in_ok-sum.was)
