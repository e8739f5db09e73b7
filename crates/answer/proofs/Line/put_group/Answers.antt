use mathlib.Core.Path.{sym, ◌∙◌}
use native.Mathlib.Omega.{arith}
use Rattle.answer.proofs.Grows.{grown_as}
use Rattle.answer.proofs.Digits.{decimal_small, decimal_padded, three_digits, four_digits}
use Rattle.answer.proofs.Line.put_group.Goals as goal

pub returns-then-number-lt10 : goal.returns-then-number-lt10
returns-then-number-lt10 c = grown_as (sym (decimal_small c.args.number c.if-number-lt10.true)) c.put.ensures

pub returns-then-number-lt100 : goal.returns-then-number-lt100
returns-then-number-lt100 c =
    grown_as (c.two_digits.ensures ∙ decimal_padded 1 c.args.number c.if-number-lt10.false c.if-number-lt100.true) c.put-then-number-lt100.ensures

pub returns-then-number-lt1000 : goal.returns-then-number-lt1000
returns-then-number-lt1000 c =
    grown_as (three_digits c.args.number c.four_digits.ensures c.if-number-lt100.false c.if-number-lt1000.true) c.put-then-number-lt1000.ensures

pub returns-else-number-lt1000 : goal.returns-else-number-lt1000
returns-else-number-lt1000 c =
    grown_as (four_digits c.args.number c.four_digits.ensures c.if-number-lt1000.false (omega arith)) c.put-else-number-lt1000.ensures
