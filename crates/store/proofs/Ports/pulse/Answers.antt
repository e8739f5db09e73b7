use native.Mathlib.Omega.{arith}
use Rattle.std.proofs.Common.{rules}
use mathlib.Core.Path.{refl}
use Rattle.store.specs.Visits.{Hush, Pulse, is_full, visited}
use Rattle.store.proofs.VisitLaws.{went, reached_first, reached_rest, pulse_made}
use Rattle.store.proofs.Ports.pulse.Goals as goal

pub returns : goal.returns
returns c =
    let a = c.args in
    let f = c.less-failing.ensures in
    let v = went _ Hush _ _ _ (reached_first a.self a.mask) (omega arith) (c.visit_all.ensures (visited Hush) (is_full Hush) (λ x r y p. search rules)) in
    pulse_made a.self (omega arith) (omega arith) a.mask _ refl _ _ _ _ _ v f
    (went _ Pulse _ _ _ (rw f (reached_rest a.self a.mask)) (omega (arith, v.long))
    (c.visit_all-passed.ensures (visited Pulse) (is_full Pulse) (λ x r y p. search rules)))
