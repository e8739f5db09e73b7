use Rattle.attributes.proofs.FlatLaws.{readdress_made, readdress_none}
use Rattle.std.proofs.Common.{rules}
use borrow.Author.Rules.{rules}
use Rattle.attributes.proofs.readdress.Goals as goal

pub returns-then-i-lt-COUNT : goal.returns-then-i-lt-COUNT
returns-then-i-lt-COUNT c = readdress_made _ _ _ _ (search rules) c.write_address.ensures

pub returns-else-i-lt-COUNT : goal.returns-else-i-lt-COUNT
returns-else-i-lt-COUNT c = readdress_none _ _ _ c.if-i-lt-COUNT.false
