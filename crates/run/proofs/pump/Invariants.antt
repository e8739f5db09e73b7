use Rattle.std.proofs.Common.{◌<◌}
use Rattle.record.specs.Record.{record_length}
use Rattle.run.proofs.pump.Given as goal

abbrev pub invariant-loop : goal.invariant-loop
invariant-loop g l = l.have < record_length
