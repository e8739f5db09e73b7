use Rattle.record.proofs.Strays.{stray_bare}
use Rattle.record.proofs.stray_bare.Goals as goal

pub returns : goal.returns
returns c = rw (stray_bare, c.four-head.ensures, c.number32.ensures, c.other_words.ensures)
