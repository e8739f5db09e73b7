use Rattle.telling.proofs.TellingLaws.{wrote_all, wrote_past, wrote_short}
use Rattle.telling.proofs.put_told.Goals as goal
use Rattle.telling.proofs.put_told.Goals.{else-at-out-via-then-at-out+else-out-at-ge-ROOM, else-at-out-via-else-at-out}

pub returns-then-out-at-ge-ROOM : goal.returns-then-out-at-ge-ROOM
returns-then-out-at-ge-ROOM c =
    wrote_all c.if-at-out.true c.if-out-at-ge-ROOM.true c.put_whole.ensures.put c.put_whole.ensures.upper_bound

pub returns : goal.returns
returns c =
    elim c.else-at-out.branch [
      | else-at-out-via-then-at-out+else-out-at-ge-ROOM w ↦ wrote_short _ _ _ w.if-at-out.true w.if-out-at-ge-ROOM.false
      | else-at-out-via-else-at-out w ↦ wrote_past _ _ _ w.if-at-out.false
    ]
