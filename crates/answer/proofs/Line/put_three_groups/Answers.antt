use native.Mathlib.Omega.{arith}
use Prim.Native.Nat.{◌/◌}
use borrow.Author.Rules.{rules}
use Rattle.answer.proofs.Grows.{grown_then, grown_as}
use Rattle.answer.proofs.Digits.{decimal_length_le, decimal_two_groups}
use Rattle.answer.proofs.Line.put_three_groups.Goals as goal

pub put_eight_digits-requires : goal.put_eight_digits-requires
put_eight_digits-requires c =
    (omega (arith, decimal_length_le 3 (c.args.number / 100_000_000) (omega arith)), search rules)

pub returns-else-number-lt100000000 : goal.returns-else-number-lt100000000
returns-else-number-lt100000000 c =
    grown_as (decimal_two_groups c.args.number c.if-number-lt100000000.false)
    (grown_then c.put_group.ensures c.put_eight_digits.ensures)
