use Rattle.answer.proofs.Grows.{grown_then, grown_as}
use Rattle.answer.proofs.Digits.{padded_eight}
use Rattle.answer.proofs.Line.put_eight_digits.Goals as goal

pub returns : goal.returns
returns c =
    grown_as (padded_eight c.args.number)
    (grown_then (grown_as c.four_digits.ensures c.put.ensures) (grown_as c.four_digits-2.ensures c.put-2.ensures))
