use mathlib.Core.Path.{sym, ◌∙◌}
use borrow.Author.Tests.{le-leb, lt-leb}
use Rattle.record.proofs.Cases.{burst_stray, burst_high, burst_bad, burst_still, burst_taken}
use Rattle.record.proofs.read_burst.Goals as goal

pub returns-then-stray_burst : goal.returns-then-stray_burst
returns-then-stray_burst c = burst_stray _ c.told-bytes c.requires (sym c.stray_burst.ensures ∙ c.if-stray_burst.true)

pub returns-then-burst-ge-MASK_END : goal.returns-then-burst-ge-MASK_END
returns-then-burst-ge-MASK_END c =
    burst_high _ c.told-bytes c.requires (sym c.stray_burst.ensures ∙ c.if-stray_burst.false) _ c.read-burst.ensures
    (le-leb _ _ c.if-burst-ge-MASK_END.true)

pub returns-then-bad_numbers : goal.returns-then-bad_numbers
returns-then-bad_numbers c =
    burst_bad _ c.told-bytes c.requires (sym c.stray_burst.ensures ∙ c.if-stray_burst.false) _ c.read-burst.ensures
    (lt-leb _ _ c.if-burst-ge-MASK_END.false)
    (sym c.bad_numbers.ensures ∙ c.if-bad_numbers.true)

pub returns-then-nothing_active : goal.returns-then-nothing_active
returns-then-nothing_active c =
    burst_still _ c.told-bytes c.requires (sym c.stray_burst.ensures ∙ c.if-stray_burst.false) _ c.read-burst.ensures
    (lt-leb _ _ c.if-burst-ge-MASK_END.false)
    (sym c.bad_numbers.ensures ∙ c.if-bad_numbers.false)
    (sym c.nothing_active.ensures ∙ c.if-nothing_active.true)

pub returns : goal.returns
returns c =
    burst_taken _ c.told-bytes c.requires (sym c.stray_burst.ensures ∙ c.if-stray_burst.false) _ c.read-burst.ensures
    (lt-leb _ _ c.if-burst-ge-MASK_END.false)
    (sym c.bad_numbers.ensures ∙ c.if-bad_numbers.false)
    (sym c.nothing_active.ensures ∙ c.if-nothing_active.false)
