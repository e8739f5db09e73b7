use native.Mathlib.Omega.{arith}
use mathlib.Core.Path.{ap}
use Prim.Native.Nat.{◌/◌}
use lib.ListN.{length}
use borrow.Author.Rules.{rules}
use Rattle.answer.proofs.Grows.{grown_then, grown_as}
use Rattle.answer.proofs.Digits.{decimal_length_le, decimal_group}
use Rattle.answer.proofs.Line.put_two_groups.Goals as goal

pub put-requires : goal.put-requires
put-requires c =
    (search rules, omega (arith, decimal_length_le 3 (c.args.number / 10000) (omega arith), ap length c.four_digits.ensures))

pub returns-else-number-lt10000 : goal.returns-else-number-lt10000
returns-else-number-lt10000 c =
    grown_as (decimal_group c.args.number c.if-number-lt10000.false)
    (grown_then c.put_group-else-number-lt10000.ensures (grown_as c.four_digits.ensures c.put.ensures))
