use mathlib.Core.Path.{◌≡◌}
use Rattle.ports.proofs.Sets.{gather_from}
use Rattle.attributes.specs.Nine.{counter_of}
use Rattle.attributes.specs.Flat.{nine_in}
use Rattle.telling.specs.Telling.{differ}
use Rattle.telling.proofs.moved.Given as goal

abbrev pub invariant-loop-i : goal.invariant-loop-i
invariant-loop-i l =
    l.mask ≡ gather_from 9 l.i (λ j. differ (counter_of (nine_in l.before) j l.register) (counter_of (nine_in l.after) j l.register))
