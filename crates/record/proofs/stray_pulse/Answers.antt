use Rattle.record.proofs.Strays.{stray_pulse}
use Rattle.record.proofs.stray_pulse.Goals as goal

pub returns : goal.returns
returns c = rw (stray_pulse, c.four-first.ensures, c.number32.ensures, c.other_words.ensures)
