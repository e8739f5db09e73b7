use Rattle.burst.proofs.MarkLaws.{mistimed_none, mistimed_away}
use Rattle.burst.proofs.Activity.mistimed.Goals as goal

pub returns-in_default : goal.returns-in_default
returns-in_default c = mistimed_none c.args.self c.args.single c.if-self.false

pub returns-in_default-2 : goal.returns-in_default-2
returns-in_default-2 c = mistimed_away c.args.self c.args.single c.in_default.is
