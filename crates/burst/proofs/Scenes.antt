-- What follows from a burst, case by case: every row of the tables, computed as one equation for each table. Assumes nothing.
use mathlib.Core.Path.{◌≡◌, refl}
use mathlib.Core.Bool.{true, false}
use mathlib.Core.List.{[], ◌∷◌, map}
use lib.Count.{ones, count_trailing_zeros}
use Rattle.ports.specs.Sets.{has, gather}
use Rattle.burst.specs.Burst.{heard_of, effect_with, effect_of}
use Rattle.burst.specs.Clean.{data_to, clean_at, lasting_at, reconnecting_at}
use Rattle.burst.specs.Marks.{marks_of}
use Rattle.burst.specs.Scenes.{Scene, found, scenes, activity_of, collided_with, Report, reported, reports}

pub scenes_follow : map found scenes ≡ map (λ (row : Scene). row.wanted) scenes
unfolding has gather ones count_trailing_zeros heard_of effect_with effect_of data_to clean_at lasting_at reconnecting_at
scenes_follow = refl

-- AUI is not sent to, and carries its signal: nobody collides by it, alone, beside TP2 and beside TP0 and TP1, who collide with each other
pub aui_outside : map (λ mask. collided_with 0b000000111 (activity_of mask false true 2000 300)) (0b000000000 ∷ 0b100000100 ∷ 0b000000011 ∷ [])
    ≡ 0b000000000 ∷ 0b000000000 ∷ 0b000000011 ∷ []
unfolding has gather ones count_trailing_zeros heard_of effect_with effect_of
aui_outside = refl

pub reports_follow : map reported reports ≡ map (λ (row : Report). row.wanted) reports
unfolding has gather ones count_trailing_zeros heard_of effect_with effect_of marks_of
reports_follow = refl
