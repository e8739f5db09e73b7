use Rattle.attributes.proofs.FlatLaws.{port_stored, port_unstored}
use Rattle.std.proofs.Common.{rules}
use borrow.Author.Rules.{rules}
use Rattle.attributes.proofs.Flat.with_port.Goals as goal

pub returns-then-i-lt-COUNT : goal.returns-then-i-lt-COUNT
returns-then-i-lt-COUNT c = port_stored _ _ _ _ _ _ (search rules) (search rules) (search rules) (search rules) c.lay.ensures c.write_address.ensures

pub returns-else-i-lt-COUNT : goal.returns-else-i-lt-COUNT
returns-else-i-lt-COUNT c = port_unstored _ _ _ _ c.if-i-lt-COUNT.false
