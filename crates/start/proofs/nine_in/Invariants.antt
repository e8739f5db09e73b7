use mathlib.Core.Path.{◌≡◌}
use Rattle.attributes.specs.Flat.{nine_in}
use Rattle.start.specs.Start.{nine_up_to}
use Rattle.start.proofs.nine_in.Given as goal

abbrev pub invariant-loop-i : goal.invariant-loop-i
invariant-loop-i l = nine_in l.flat ≡ nine_up_to l.s l.i
