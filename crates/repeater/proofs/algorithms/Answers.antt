use native.Mathlib.Omega.{arith}
use Rattle.repeater.proofs.MeetingLaws.{algorithms_made}
use Rattle.repeater.proofs.algorithms.Goals as goal

pub returns : goal.returns
returns c = algorithms_made _ _ _ _ (omega arith) (omega arith) c.only-aui.ensures c.less.ensures
