use Prim.Native.Nat.{◌≤◌, ◌-◌, ◌+◌, ◌*◌}
use mathlib.Core.Path.{◌≡◌}
use Rattle.ports.specs.Each.{done}
use Rattle.attributes.specs.Nine.{counter_count}
use Rattle.start.specs.Start.{number_from}
use Rattle.start.proofs.counters_from.Given as goal

abbrev pub invariant-loop-r : goal.invariant-loop-r
invariant-loop-r l = (l.r ≤ counter_count) × (l.out ≡ done (λ k none. number_from l.s (l.i + 4 * k)) l.r l.initial.out)

abbrev pub decreases-loop-r : goal.decreases-loop-r
decreases-loop-r l = counter_count - l.r
