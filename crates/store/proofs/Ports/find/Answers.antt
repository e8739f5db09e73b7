use native.Mathlib.Omega.{arith}
use mathlib.Core.Path.{◌≡◌, ◌∙◌}
use Rattle.std.proofs.Common.{rules}
use Rattle.port.specs.Port.{no_port}
use Rattle.store.proofs.VisitLaws.{found_made, none_made}
use Rattle.store.proofs.Ports.find.Goals as goal

pub returns-then-i-ge-COUNT : goal.returns-then-i-ge-COUNT
returns-then-i-ge-COUNT c =
    let e : c.default.result ≡ no_port = search rules in
    e ∙ none_made c.args.self (omega arith) c.args.i (omega arith)

pub returns : goal.returns
returns c =
    found_made c.args.self (omega arith) c.args.i _ _ _ _ (omega arith)
    c.contains.ensures c.contains-2.ensures c.contains-3.ensures c.contains-4.ensures
