use Rattle.repeater.specs.Door.{port_at}
use Rattle.repeater.specs.Repeater.{among, those_of}
use Rattle.repeater.proofs.RepeaterLaws.{listening_made}
use Rattle.repeater.proofs.Repeater.listening.Goals as goal

pub returns : goal.returns
unfolding those_of among port_at
returns c = listening_made c.args.self.ports _ _ _ c.transmitting.ensures c.partitioned.ensures c.less.ensures
