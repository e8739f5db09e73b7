use native.Mathlib.Omega.{arith}
use Rattle.ports.proofs.Sets.{shifted_one, set_none}
use Rattle.ports.proofs.only.Goals as goal

pub returns-then-i-lt16 : goal.returns-then-i-lt16
returns-then-i-lt16 c = shifted_one _ (omega arith)

pub returns-else-i-lt16 : goal.returns-else-i-lt16
returns-else-i-lt16 c = set_none _ (omega arith)
