use mathlib.Core.Path.{◌∙◌}
use Rattle.record.proofs.Cases.{wrong_length}
use Rattle.record.proofs.read_record.Goals as goal

pub returns-in_default : goal.returns-in_default
returns-in_default c = c.refused.ensures ∙ wrong_length _ c.in_default.ensures.cases
