use Rattle.repeater.proofs.RepeaterLaws.{hearing_made}
use Rattle.repeater.proofs.Repeater.hear.Goals as goal

pub returns : goal.returns
returns c = hearing_made _ _ _ _ _ _ c.active-e.ensures c.transmitting.ensures c.listening.ensures c.count_heard.ensures
