use mathlib.Core.Path.{sym, ◌∙◌}
use borrow.Author.Tests.{le-leb, lt-leb}
use Rattle.record.specs.Record.{bytes_from}
use Rattle.record.proofs.Cases.{pulse_stray, pulse_high, pulse_taken}
use Rattle.record.proofs.read_pulse.Goals as goal

pub returns-then-stray_pulse : goal.returns-then-stray_pulse
returns-then-stray_pulse c = pulse_stray _ c.told-bytes c.requires (sym c.stray_pulse.ensures ∙ c.if-stray_pulse.true)

pub returns-then-mask-ge-PULSE_MASK_END : goal.returns-then-mask-ge-PULSE_MASK_END
unfolding bytes_from
returns-then-mask-ge-PULSE_MASK_END c =
    pulse_high _ c.told-bytes c.requires (sym c.stray_pulse.ensures ∙ c.if-stray_pulse.false) _ c.two-mask.ensures
    (le-leb _ _ c.if-mask-ge-PULSE_MASK_END.true)

pub returns : goal.returns
unfolding bytes_from
returns c =
    pulse_taken _ c.told-bytes c.requires (sym c.stray_pulse.ensures ∙ c.if-stray_pulse.false) _ c.two-mask.ensures
    (lt-leb _ _ c.if-mask-ge-PULSE_MASK_END.false)
