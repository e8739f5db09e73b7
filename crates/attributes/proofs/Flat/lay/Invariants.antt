use Rattle.std.proofs.Common.{◌-◌, ◌≤◌}
use Rattle.attributes.specs.Nine.{counter_count}
use Rattle.attributes.proofs.CountLaws.{Lays}
use Rattle.attributes.proofs.Flat.lay.Given as goal

abbrev pub invariant-loop-r : goal.invariant-loop-r
invariant-loop-r l = (l.r ≤ counter_count) × Lays l.i l.fn.numbers l.initial.self l.r l.self

abbrev pub decreases-loop-r : goal.decreases-loop-r
decreases-loop-r l = counter_count - l.r
