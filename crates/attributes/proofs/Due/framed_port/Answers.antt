use Rattle.std.proofs.Common.{true, false, sym, ◌∙◌, eq-eqb, ne_eqb}
use Rattle.ports.proofs.Sets.{has_or}
use Rattle.attributes.specs.Counts.{framed_port}
use Rattle.attributes.proofs.CountLaws.{framed_given}
use Rattle.attributes.proofs.Due.framed_port.Goals.{else-self-eq-READABLE_FRAMES-via-then-self-eq-READABLE_FRAMES+else-contains, else-self-eq-READABLE_FRAMES-via-else-self-eq-READABLE_FRAMES}
use Rattle.attributes.proofs.Due.framed_port.Goals as goal

pub returns-then-contains : goal.returns-then-contains
returns-then-contains c =
    let d = c.args.self in
    framed_given d c.in-Some.port true c.in-Some.is
    (simp (eq-eqb _ _ c.if-self-eq-READABLE_FRAMES.true, sym (has_or d.heard d.cut c.in-Some.port) ∙ sym c.contains.ensures ∙ c.if-contains.true))

pub returns-else-self-eq-READABLE_FRAMES : goal.returns-else-self-eq-READABLE_FRAMES
returns-else-self-eq-READABLE_FRAMES c =
    let d = c.args.self in
    framed_given d c.in-Some.port false c.in-Some.is
    (elim c.else-self-eq-READABLE_FRAMES.branch [
      | else-self-eq-READABLE_FRAMES-via-then-self-eq-READABLE_FRAMES+else-contains w ↦ simp (eq-eqb _ _ w.if-self-eq-READABLE_FRAMES.true, sym (has_or d.heard d.cut c.in-Some.port) ∙ sym w.contains.ensures ∙ w.if-contains.false)
      | else-self-eq-READABLE_FRAMES-via-else-self-eq-READABLE_FRAMES w ↦ simp (ne_eqb _ _ w.if-self-eq-READABLE_FRAMES.false)
    ])

pub returns-in-None : goal.returns-in-None
unfolding framed_port
returns-in-None c = rw c.in-None.is
