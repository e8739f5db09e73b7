use native.Mathlib.Omega.{arith}
use borrow.Author.Rules.{rules}
use Rattle.answer.proofs.Room.{past_end, short_of_room, written, unwritten}
use Rattle.answer.proofs.put_line.Goals as goal
use Rattle.answer.proofs.put_line.Goals.{else-at-out-via-then-at-out+else-out-at-ge-ROOM, else-at-out-via-else-at-out}

pub returns-then-out-at-ge-ROOM : goal.returns-then-out-at-ge-ROOM
returns-then-out-at-ge-ROOM c =
    written c.if-at-out.true c.if-out-at-ge-ROOM.true (omega arith) (search rules) c.put_whole.ensures.put (search rules)

pub returns : goal.returns
returns c =
    unwritten _ _ _ _
    (elim c.else-at-out.branch [
      | else-at-out-via-then-at-out+else-out-at-ge-ROOM w ↦ short_of_room _ _ w.if-at-out.true w.if-out-at-ge-ROOM.false
      | else-at-out-via-else-at-out w ↦ past_end _ _ w.if-at-out.false
    ])
