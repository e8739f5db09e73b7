use Rattle.attributes.specs.Credits.{due_of}
use Rattle.attributes.proofs.Flat.due_of.Goals as goal

pub returns-then-frame : goal.returns-then-frame
unfolding due_of
returns-then-frame c =
    rw (c.changed-changed.ensures, ← c.class_of-class.ensures, ← c.class_port-single.ensures, ← c.framed-frame.ensures, c.if-frame.true)

pub returns-else-frame : goal.returns-else-frame
unfolding due_of
returns-else-frame c =
    rw (c.changed-changed.ensures, ← c.class_of-class.ensures, ← c.class_port-single.ensures, ← c.framed-frame.ensures, c.if-frame.false)
