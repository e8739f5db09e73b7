-- Every row of specs/Told.antt, by computing. Assumes nothing.
use mathlib.Core.Path.{◌≡◌, refl}
use mathlib.Core.List.{map}
use Rattle.himib.specs.Runs.{happening, history_of, run_of}
use Rattle.himib.specs.Told.{Row, found, told}
use Rattle.himib.proofs.Computing.{computing}

pub told_so : map (λ (w : Row). w.answers) told ≡ map found told
unfolding computing happening history_of run_of told
told_so = refl
