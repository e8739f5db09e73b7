use Rattle.lent.proofs.ListLaws.{laid_out, laid_in}
use Rattle.lent.proofs.lists.lay.Goals as goal

pub returns-then-answers-i : goal.returns-then-answers-i
returns-then-answers-i c = laid_out _ _ _ c.if-answers-i.true

pub returns : goal.returns
returns c = laid_in _ _ _ c.from-told.result c.from-told.ensures c.if-answers-i.false
