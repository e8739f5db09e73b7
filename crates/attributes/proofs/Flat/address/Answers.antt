use Rattle.std.proofs.Common.{[], ◌∙◌}
use Rattle.attributes.proofs.FlatLaws.{address_any}
use Rattle.attributes.proofs.Flat.address.Goals as goal

pub returns : goal.returns
returns c = c.address.ensures ∙ address_any [] _ _ _
