use Rattle.record.proofs.Strays.{stray_write}
use Rattle.record.proofs.stray_write.Goals as goal

pub returns : goal.returns
returns c = rw (stray_write, c.four-first.ensures, c.four-fourth.ensures, c.other_words.ensures)
