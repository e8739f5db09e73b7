use native.Mathlib.Omega.{arith}
use Rattle.std.proofs.Common.{rules}
use Rattle.std.proofs.lemmas.Grind.{common_steps}
use Rattle.changes.proofs.Registers.{all_noted}
use Rattle.changes.proofs.note.Goals as goal

pub returns : goal.returns
returns c = all_noted _ _ _ (search rules) (grind (arith, common_steps))
