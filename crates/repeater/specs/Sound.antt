-- Document 01, 'Partition', 'Link (TP)' and 'Reset and power-up': what is true of every state that the repeater can come to. No function asks for it:
-- every state has an answer. proofs/Sound.antt proves that power-up is so and that whatever happens keeps it so.
--   Sound r        == nine ports, each of them in a state that it can come to
-- Assumes nothing.
use Rattle.std.specs.Prelude.{ℕ, ◌<◌, ◌≡◌}
use Rattle.ports.specs.Sets.{port_count}
use Rattle.port.specs.Sound.{SoundPort}
use Rattle.repeater.specs.declared.Repeater.{Repeater}
use Rattle.repeater.specs.Door.{places_of, port_at}

pub record Sound (r : Repeater) : Type 0 where
  pub nine : places_of r ≡ port_count
  pub port : (i : ℕ) → i < port_count → SoundPort i (port_at r i)
