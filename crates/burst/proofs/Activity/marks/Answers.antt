use Rattle.std.proofs.Common.{rules}
use Rattle.burst.proofs.MarkLaws.{marks_made}
use Rattle.burst.proofs.Activity.marks.Goals as goal
use Rattle.burst.proofs.Activity.marks.Goals.{then-self, else-self}

pub returns-then-self-gt-JABBER_ABOVE : goal.returns-then-self-gt-JABBER_ABOVE
returns-then-self-gt-JABBER_ABOVE c =
    marks_made c.args.effect c.args.self _ _ _ _ c.mistimed-rates.ensures c.contains.ensures
    (elim c.if-self.branch [ then-self w ↦ search rules | else-self w ↦ search rules ]) (search rules)

pub returns-else-self-gt-JABBER_ABOVE : goal.returns-else-self-gt-JABBER_ABOVE
returns-else-self-gt-JABBER_ABOVE c =
    marks_made c.args.effect c.args.self _ _ _ _ c.mistimed-rates.ensures c.contains.ensures
    (elim c.if-self.branch [ then-self w ↦ search rules | else-self w ↦ search rules ]) (search rules)
