use native.Mathlib.Omega.{arith}
use mathlib.Core.Path.{◌≡◌}
use Rattle.store.specs.Door.{no_row}
use Rattle.store.proofs.DoorLaws.{nobody_made, more_made, alike_made}
use borrow.Author.Rules.{rules}
use Rattle.store.proofs.Ports.alike.Goals as goal

pub loop-i-init : goal.loop-i-init
loop-i-init c =
    let e : c.default.result ≡ no_row = search rules in
    (search rules, rw e (nobody_made _))

pub loop-i-preserved : goal.loop-i-preserved
loop-i-preserved c = (omega arith, more_made c.args.tp _ _ _ c.loop-i.invariant.1 c.put-out.ensures)

pub returns : goal.returns
returns c = alike_made c.args.tp c.args.last _ _ _ (omega arith) (omega arith) c.loop-i.invariant.1 c.put.ensures
