use native.Mathlib.Omega.{arith}
use mathlib.Core.Path.{refl}
use Rattle.port.specs.declared.Port.{Port}
use Rattle.store.proofs.DoorLaws.{standing}
use Rattle.store.proofs.VisitLaws.{set_in}
use Rattle.store.proofs.Ports.partitioned.Goals as goal

pub returns : goal.returns
unfolding standing
returns c = set_in c.args.self (omega arith) _ (λ (p : Port). p.partitioned) refl (λ i. refl)
