use Rattle.std.proofs.Common.{[], ◌∙◌}
use Rattle.attributes.proofs.FlatLaws.{counter_any}
use Rattle.attributes.proofs.Flat.counter.Goals as goal

pub returns : goal.returns
returns c = c.counter.ensures ∙ counter_any _ [] _ _ _
