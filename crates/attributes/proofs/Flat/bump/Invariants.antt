use Rattle.attributes.proofs.CountLaws.{Bumping}
use Rattle.attributes.proofs.Flat.bump.Given as goal

abbrev pub invariant-loop-i : goal.invariant-loop-i
invariant-loop-i l = Bumping l.register l.n l.mask l.i-iterator.left l.initial.self l.self
