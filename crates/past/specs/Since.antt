-- What came since something else came. A past is a list of deeds, the newest first; each of them is asked about with what came before it.
--   came_since e c past == some deed was e, itself none of c, and no c came after it
-- Assumes nothing.
use Rattle.std.specs.Prelude.{Bool, false, not, ◌&&◌, ◌||◌, List, [], ◌∷◌}
use Rattle.past.specs.Deeds.{Deed}

abbrev pub Asking : Type 0
Asking = List Deed → Deed → Bool

unfoldable pub came_since : Asking → Asking → List Deed → Bool
came_since e c [] = false
came_since e c (d ∷ past) = not (c past d) && (e past d || came_since e c past)
