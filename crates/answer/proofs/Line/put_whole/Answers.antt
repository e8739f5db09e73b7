use native.Mathlib.Omega.{arith}
use Rattle.answer.specs.Line.{line_of}
use Rattle.answer.proofs.Grows.{grown_then}
use Rattle.answer.proofs.Digits.{decimal_length_le}
use Rattle.answer.proofs.Line.put_whole.Goals as goal

pub put_decimal-requires : goal.put_decimal-requires
put_decimal-requires c = omega (arith, decimal_length_le 19 c.args.number (omega arith))

pub put_tail-requires : goal.put_tail-requires
put_tail-requires c = omega (arith, decimal_length_le 19 c.args.number (omega arith))

pub returns : goal.returns
unfolding line_of
returns c = grown_then c.put_decimal.ensures c.put_tail.ensures
