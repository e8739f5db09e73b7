use Rattle.std.proofs.Common.{sym}
use Rattle.attributes.proofs.FlatLaws.{stretch_cut, stretch_none}
use Rattle.attributes.proofs.attribute.Goals as goal

pub returns-then-register-lt-COUNT : goal.returns-then-register-lt-COUNT
returns-then-register-lt-COUNT c =
    stretch_cut _ _ _ _ c.if-register-lt-COUNT.true (rw c.place.ensures at c.min-from.ensures) c.min-to.ensures

pub returns-else-register-lt-COUNT : goal.returns-else-register-lt-COUNT
returns-else-register-lt-COUNT c = sym (stretch_none _ _ c.if-register-lt-COUNT.false)
