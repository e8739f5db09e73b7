use native.Mathlib.Omega.{arith}
use mathlib.Core.Path.{ap}
use borrow.Author.Rules.{rules}
use Rattle.answer.specs.Line.{said_of, tail_of}
use Rattle.answer.specs.Numerals.{decimal}
use Rattle.answer.proofs.Grows.{grown_then, grown_as}
use Rattle.answer.proofs.Digits.{decimal_length_le}
use Rattle.answer.proofs.Line.put_tail.Goals as goal

pub put-requires-in-Refused-2 : goal.put-requires-in-Refused-2
put-requires-in-Refused-2 c = (search rules, omega (arith, decimal_length_le 2 c.from-in-Refused.result (omega arith)))

pub returns-in-Done : goal.returns-in-Done
unfolding said_of tail_of
returns-in-Done c = rw c.in-Done.is c.put.ensures

pub returns-in-Sent : goal.returns-in-Sent
unfolding said_of tail_of
returns-in-Sent c =
    rw c.in-Sent.is
    (grown_then (grown_then (grown_as c.said.ensures c.put-in-Sent.ensures) (grown_as c.three_digits.ensures c.put-in-Sent-2.ensures)) c.put-in-Sent-3.ensures)

pub returns-in-Value : goal.returns-in-Value
unfolding said_of tail_of
returns-in-Value c = rw c.in-Value.is (grown_then c.put-in-Value.ensures (grown_as (cc) c.put-in-Value-2.ensures))

pub returns-in-Refused : goal.returns-in-Refused
unfolding said_of tail_of
returns-in-Refused c =
    rw c.in-Refused.is
    (grown_then (grown_then c.put-in-Refused.ensures (grown_as (ap decimal c.from-in-Refused.ensures) c.put_group.ensures)) c.put-in-Refused-2.ensures)
