-- Every row of specs/Sheet.antt, by computing; and a written address. Assumes nothing.
--   classes_credited, limits_credited, collisions_credited, others_credited == the tables
--   written            == a written address stands there, at no other port, and no counter moves
--   nothing_yet_lem        == what power-up is given by the program: zeros
use Rattle.std.proofs.Common.{◌≡◌, List, map, replicate, refl}
use Rattle.ports.specs.Sets.{has, gather}
use Rattle.ports.specs.Each.{each}
use Rattle.attributes.specs.Nine.{nothing_counted, port_of, readdressed}
use Rattle.attributes.specs.Sheet.{home, away, homes, Row, found, classes, limits, collided, others}
use Rattle.attributes.proofs.Computing.{crediting}

abbrev Holds : List Row → Type 0
Holds rows = map (λ (w : Row). w.wanted) rows ≡ map found rows

pub classes_credited : Holds classes
unfolding crediting has gather each
classes_credited = refl

pub limits_credited : Holds limits
unfolding crediting has gather each
limits_credited = refl

pub collisions_credited : Holds collided
unfolding crediting has gather each
collisions_credited = refl

pub others_credited : Holds others
unfolding crediting has gather each
others_credited = refl

pub written : (port_of (readdressed 8 away (homes 5)) 8 ≡ record { counters = replicate 13 5; address = away })
    × (port_of (readdressed 8 away (homes 5)) 7 ≡ record { counters = replicate 13 5; address = home })
    × (port_of (readdressed 9 away (homes 5)) 8 ≡ record { counters = replicate 13 5; address = home })
unfolding crediting
written = (refl, refl, refl)

pub nothing_yet_lem : port_of nothing_counted 8 ≡ record { counters = replicate 13 0; address = replicate 6 0 }
unfolding crediting
nothing_yet_lem = refl
