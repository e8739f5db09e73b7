use mathlib.Core.List.{[], ◌∷◌}
use Rattle.std.proofs.Common.{rules, tests}
use Rattle.std.proofs.lemmas.Iterator.{YieldsList-from_slice}
use Rattle.std.proofs.lemmas.Iterator.Search.{any_from_yields_List}
use Rattle.changes.specs.Changes.{both}
use Rattle.changes.proofs.Registers.{any_held}
use Rattle.changes.proofs.is_pending.Goals as goal

pub returns : goal.returns
returns c =
    any_held _ _ _
    (any_from_yields_List (λ r. both c.args.changes c.args.enables r) _ _ _ c.any.ensures.ran (YieldsList-from_slice (0 ∷ 1 ∷ 2 ∷ 3 ∷ 4 ∷ 6 ∷ 7 ∷ []) cc)
    (λ x b q k. search (rules, tests)))
