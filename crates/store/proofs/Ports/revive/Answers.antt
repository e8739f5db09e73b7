use native.Mathlib.Omega.{arith}
use Rattle.std.proofs.Common.{rules}
use mathlib.Core.Path.{refl}
use lib.Bits.{bit_and, and_le_r}
use Rattle.store.specs.Visits.{Revive, is_full, visited}
use Rattle.store.proofs.VisitLaws.{went, revive_made}
use Rattle.store.proofs.Ports.revive.Goals as goal

pub returns : goal.returns
returns c =
    let a = c.args in
    revive_made a.self (omega arith) (omega arith) a.mask _ refl _ _
    (went _ Revive _ _ _ (omega (arith, and_le_r (bit_and a.mask a.self.tested) 255)) (omega arith) (c.visit_all.ensures (visited Revive) (is_full Revive) (λ x r y p. search rules)))
