use Rattle.attributes.proofs.Totals.{Going}
use Rattle.attributes.proofs.octets.carried.Given as goal

abbrev pub invariant-loop-reading : goal.invariant-loop-reading
invariant-loop-reading l = Going l.sum l.last l.readings l.total l.before l.reading-index
