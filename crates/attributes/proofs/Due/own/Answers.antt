use Rattle.ports.proofs.Sets.{set_empty}
use Rattle.attributes.proofs.Due.own.Goals as goal

pub returns-in-None : goal.returns-in-None
returns-in-None c = rw c.in-None.is set_empty
