use borrow.Author.Tests.{le-leb, lt-leb}
use Rattle.record.proofs.Strays.{stray_burst}
use Rattle.record.proofs.stray_burst.Goals as goal

pub returns-then-bytes-ge-FLAGS_END : goal.returns-then-bytes-ge-FLAGS_END
returns-then-bytes-ge-FLAGS_END c = simp (stray_burst, le-leb _ _ c.if-bytes-ge-FLAGS_END.true)

pub returns-else-bytes-ge-FLAGS_END : goal.returns-else-bytes-ge-FLAGS_END
returns-else-bytes-ge-FLAGS_END c = simp (stray_burst, lt-leb _ _ c.if-bytes-ge-FLAGS_END.false)
