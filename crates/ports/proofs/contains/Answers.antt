use borrow.Author.Tests.{le-ltb}
use mathlib.Core.Path.{sym, ◌∙◌}
use native.Mathlib.Omega.{arith}
use Rattle.ports.proofs.Sets.{has_shift, has_past}
use Rattle.ports.proofs.contains.Goals as goal

pub returns-then-i-lt16 : goal.returns-then-i-lt16
returns-then-i-lt16 c = has_shift _ _

pub returns-else-i-lt16 : goal.returns-else-i-lt16
returns-else-i-lt16 c = le-ltb _ _ c.if-i-lt16.false ∙ sym (has_past 16 _ _ (omega arith) (omega arith))
