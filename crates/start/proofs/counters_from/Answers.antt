use mathlib.Core.Path.{◌∙◌}
use native.Mathlib.Omega.{arith}
use Rattle.ports.proofs.Each.{done_none, done_more, done_all}
use Rattle.start.specs.Start.{counters_from}
use borrow.Author.Rules.{rules}
use Rattle.start.proofs.counters_from.Goals as goal

pub loop-r-init : goal.loop-r-init
loop-r-init c = (search rules, done_none _ _)

pub loop-r-preserved : goal.loop-r-preserved
loop-r-preserved c = let l = c.loop-r in (omega arith, done_more _ _ _ _ 0 _ l.invariant.1 c.number_from.ensures)

pub returns : goal.returns
unfolding counters_from
returns c = c.loop-r.invariant.1 ∙ done_all _ _ _ (omega arith)
