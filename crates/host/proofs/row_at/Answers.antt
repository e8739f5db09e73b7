use Rattle.std.proofs.Common.{arith}
use Rattle.std.proofs.lemmas.Grind.{common_steps}
use Rattle.host.specs.Map.{row_at, table}
use Rattle.host.proofs.row_at.Goals as goal
use Rattle.host.proofs.row_at.Goals.{in_default-via-in-0+in_default, in_default-via-in-1+else-this-lt5+then-this-lt6, in_default-via-in-1+else-this-lt5+else-this-lt6+else-this-lt8, in_default-via-in-2+else-this-lt5-2+then-this-lt6-2, in_default-via-in-2+else-this-lt5-2+else-this-lt6-2+else-this-lt8-2, in_default-via-in_default+then-this-lt16, in_default-via-in_default+else-this-lt16+else-this-lt24, in_default-via-in_default+else-this-lt13}

pub returns-in_default : goal.returns-in_default
unfolding row_at table
returns-in_default c =
    elim c.in_default.branch [
      | in_default-via-in-0+in_default w ↦ grind (arith, common_steps)
      | in_default-via-in-1+else-this-lt5+then-this-lt6 w ↦ grind (arith, common_steps)
      | in_default-via-in-1+else-this-lt5+else-this-lt6+else-this-lt8 w ↦ grind (arith, common_steps)
      | in_default-via-in-2+else-this-lt5-2+then-this-lt6-2 w ↦ grind (arith, common_steps)
      | in_default-via-in-2+else-this-lt5-2+else-this-lt6-2+else-this-lt8-2 w ↦ grind (arith, common_steps)
      | in_default-via-in_default+then-this-lt16 w ↦ grind (arith, common_steps)
      | in_default-via-in_default+else-this-lt16+else-this-lt24 w ↦ grind (arith, common_steps)
      | in_default-via-in_default+else-this-lt13 w ↦ grind (arith, common_steps)
    ]
