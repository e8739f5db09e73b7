use Rattle.attributes.proofs.FlatLaws.{readdress_beside}
use Rattle.attributes.proofs.Flat.readdress.Goals as goal

pub returns : goal.returns
returns c = readdress_beside _ _ _ _ c.readdress.ensures
