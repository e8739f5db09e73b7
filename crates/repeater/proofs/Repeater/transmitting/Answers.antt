use Rattle.repeater.specs.Door.{port_at}
use Rattle.repeater.specs.Repeater.{among, those_of}
use Rattle.repeater.proofs.RepeaterLaws.{transmitting_made}
use Rattle.repeater.proofs.Repeater.transmitting.Goals as goal

pub returns : goal.returns
unfolding those_of among port_at
returns c = transmitting_made c.args.self.ports _ _ _ c.enabled.ensures c.passing.ensures c.only.ensures
