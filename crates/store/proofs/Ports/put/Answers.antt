use native.Mathlib.Omega.{arith}
use Rattle.store.proofs.VisitLaws.{put_made, put_none}
use Rattle.store.proofs.Ports.put.Goals as goal

pub returns-then-i-lt-COUNT : goal.returns-then-i-lt-COUNT
returns-then-i-lt-COUNT c =
    put_made c.args.self (omega arith) c.args.i c.args.p _ _ _ _ (omega arith) (omega arith) (omega arith) (omega arith) (omega arith)
    c.with_bit.ensures c.with_bit-then-i-lt-COUNT.ensures c.with_bit-then-i-lt-COUNT-2.ensures c.with_bit-then-i-lt-COUNT-3.ensures

pub returns-else-i-lt-COUNT : goal.returns-else-i-lt-COUNT
returns-else-i-lt-COUNT c = put_none c.args.self (omega arith) c.args.i c.args.p (omega arith)
