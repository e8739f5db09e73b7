use Rattle.std.proofs.Common.{sym, ◌∙◌, rules}
use borrow.Author.Rules.{rules}
use Rattle.attributes.specs.Credits.{changed_by}
use Rattle.attributes.proofs.CountLaws.{address_compared}
use Rattle.attributes.proofs.Flat.changed.Goals.{else-frame-via-then-frame+else-ne, else-frame-via-else-frame}
use Rattle.attributes.proofs.Flat.changed.Goals as goal

pub returns-then-ne : goal.returns-then-ne
unfolding changed_by
returns-then-ne c =
    simp (c.in-Some.is, c.if-frame.true, ← c.address.ensures, ← address_compared c.args.source c.address.result (search rules) (search rules), sym c.ne.ensures ∙ c.if-ne.true) c.only.ensures

pub returns-else-frame : goal.returns-else-frame
unfolding changed_by
returns-else-frame c =
    elim c.else-frame.branch [
      | else-frame-via-then-frame+else-ne w ↦
          simp (c.in-Some.is, w.if-frame.true, ← w.address.ensures, ← address_compared c.args.source w.address.result (search rules) (search rules), sym w.ne.ensures ∙ w.if-ne.false)
      | else-frame-via-else-frame w ↦ rw (c.in-Some.is, w.if-frame.false)
    ]

pub returns-in-None : goal.returns-in-None
unfolding changed_by
returns-in-None c = rw c.in-None.is
