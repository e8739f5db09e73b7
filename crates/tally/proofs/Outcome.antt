-- `take_all` has one outcome. Assumes nothing.
--   one_tally == the theorem
use mathlib.Core.Path.{◌≡◌, sym, ap, ap₂, ◌∙◌}
use Rattle.chip.specs.declared.FlatChip.{FlatChip}
use Rattle.chip.proofs.FlatLaws.{chip_one}
use Rattle.tally.specs.Tally.{Tally, came_to, OneTally}

pub one_tally : OneTally
one_tally p bs r s a b e d =
    let both : came_to r ≡ came_to s = e ∙ sym d in
    let chips : r.chip ≡ s.chip = chip_one r.chip s.chip a b (ap (λ (w : Tally). w.point.chip) both) in
    ap₂ (λ (c : FlatChip) (w : Tally). record { chip = c; host = w.point.host; refused = w.refused }) chips both
