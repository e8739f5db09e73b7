use Rattle.std.proofs.Common.{refl}
use Rattle.ports.specs.Each.{each}
use Rattle.attributes.specs.Nine.{all_alike}
use Rattle.attributes.specs.Flat.{listed, record_at, nine_of}
use Rattle.attributes.proofs.Flat.zero.Goals as goal

pub returns : goal.returns
unfolding all_alike nine_of record_at listed each
returns c = refl
