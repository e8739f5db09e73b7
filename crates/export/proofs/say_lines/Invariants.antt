use Rattle.std.proofs.Common.{◌≤◌}
use Rattle.attributes.specs.Nine.{counter_count}
use Rattle.export.proofs.say_lines.Given as goal

abbrev pub invariant-loop-register : goal.invariant-loop-register
invariant-loop-register g l = l.register-iterator.end ≤ counter_count
