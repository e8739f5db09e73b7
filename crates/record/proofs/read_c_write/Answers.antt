use mathlib.Core.Path.{sym, ◌∙◌}
use Rattle.record.proofs.Cases.{c_write_stray, c_write_lost, c_write_taken}
use Rattle.record.proofs.read_c_write.Goals as goal

pub returns-then-stray_write : goal.returns-then-stray_write
returns-then-stray_write c = c_write_stray _ c.told-bytes c.requires (sym c.stray_write.ensures ∙ c.if-stray_write.true)

pub returns-then-selects_neither : goal.returns-then-selects_neither
returns-then-selects_neither c =
    c_write_lost _ c.told-bytes c.requires (sym c.stray_write.ensures ∙ c.if-stray_write.false)
    (sym c.selects_neither.ensures ∙ c.if-selects_neither.true)

pub returns : goal.returns
returns c =
    c_write_taken _ c.told-bytes c.requires (sym c.stray_write.ensures ∙ c.if-stray_write.false)
    (sym c.selects_neither.ensures ∙ c.if-selects_neither.false)
