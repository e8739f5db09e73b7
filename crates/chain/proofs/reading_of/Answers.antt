use Rattle.std.proofs.Common.{◌∷◌, [], ap, ◌∙◌, ℕ}
use Rattle.chain.proofs.Loops.{spelt_in}
use Rattle.chain.proofs.reading_of.Goals as goal

pub returns : goal.returns
returns c = ap (λ (r : ℕ). r ∷ []) c.four.ensures ∙ spelt_in _ c.requires
