use native.Mathlib.Omega.{arith}
use mathlib.Core.Path.{sym, ◌∙◌}
use Rattle.port.proofs.PortLaws.{partitioning_not}
use Rattle.port.proofs.Port.meet.Goals as goal

pub overflow_add-result : goal.overflow_add-result
overflow_add-result c = let h = partitioning_not _ _ (sym c.partitions.ensures ∙ c.if-partitions.false) in omega arith
