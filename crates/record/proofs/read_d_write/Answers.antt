use mathlib.Core.Path.{sym, ◌∙◌}
use Rattle.record.proofs.Cases.{d_write_lem}
use Rattle.record.proofs.read_d_write.Goals as goal

pub returns-then-stray_write : goal.returns-then-stray_write
returns-then-stray_write c = rw (sym c.stray_write.ensures ∙ c.if-stray_write.true) at (d_write_lem c.args.bytes.now c.told-bytes c.requires)

pub returns : goal.returns
returns c = rw (sym c.stray_write.ensures ∙ c.if-stray_write.false) at (d_write_lem c.args.bytes.now c.told-bytes c.requires)
