use native.Mathlib.Omega.{arith}
use Rattle.std.proofs.Common.{rules}
use lib.Bits.{and_le_r}
use Rattle.store.specs.Visits.{Tick, is_full, visited}
use Rattle.store.proofs.VisitLaws.{went, tick_made}
use Rattle.store.proofs.Ports.tick.Goals as goal

pub returns : goal.returns
returns c =
    let s = c.args.self in
    tick_made s (omega arith) (omega arith) _ _ _
    (went _ Tick _ _ _ (omega (arith, and_le_r s.tested 255)) (omega arith) (c.visit_all-failed.ensures (visited Tick) (is_full Tick) (λ x r y p. search rules)))
    c.less.ensures
