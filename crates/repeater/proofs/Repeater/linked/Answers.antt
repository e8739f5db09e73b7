use Rattle.repeater.specs.Door.{port_at}
use Rattle.repeater.specs.Repeater.{among, those_of}
use Rattle.repeater.proofs.RepeaterLaws.{linked_made}
use Rattle.repeater.proofs.Repeater.linked.Goals as goal

pub returns : goal.returns
unfolding those_of among port_at
returns c = linked_made c.args.self.ports _ c.passing.ensures
