-- What the past says of the rows with many collisions, by computing. They take longest, and are tried after the others. Assumes nothing.
use mathlib.Core.Path.{◌≡◌, refl}
use mathlib.Core.List.{map}
use Rattle.past.specs.Sheet.{Row, told, partitions, crowds}
use Rattle.past.proofs.Computing.{telling}
use Rattle.past.proofs.Sheet.{partitions_told}

-- one collision alone
once : map told partitions ≡ map (λ (w : Row). w.wanted) partitions
once = partitions_told

pub crowds_told : map told crowds ≡ map (λ (w : Row). w.wanted) crowds
unfolding telling
crowds_told = refl
