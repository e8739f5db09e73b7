-- What a register holds: six bytes, and the bytes of its number where it has four. Assumes nothing.
use Prim.Native.Nat.{ℕ, ◌^◌, ◌<◌}
use mathlib.Core.Path.{◌≡◌, refl}
use mathlib.Core.Bool.{true}
use native.Mathlib.Omega.{arith}
use borrow.Author.Tests.{ltb-true, leb-true}
use lib.Dec.{leb, ltb}
use lib.ListN.{length}
use Rattle.ports.specs.Sets.{port_count}
use Rattle.ports.proofs.Sets.{and_first, and_second}
use Rattle.host.specs.declared.Register.{Register}
use Rattle.host.specs.declared.Register.TheVariants as reg
use Rattle.host.specs.Map.{table, last_counter}
use Rattle.host.specs.Stands.{proper, row_of}
use Rattle.host.specs.Bytes.{spread_of}
use Rattle.attributes.specs.declared.Nine.{Nine}
use Rattle.attributes.specs.Nine.{address_of, Proper}
use Rattle.chip.specs.declared.Core.{Core}
use Rattle.access.specs.Access.{value_of, number_of}

-- addresses have six bytes
pub value_six : (c : Core) (nine : Nine) → ((i : ℕ) → i < port_count → length (address_of nine i) ≡ 6) → (x : Register) → proper x ≡ true
    → length (value_of c nine x) ≡ 6
unfolding value_of
value_six c nine six reg.Unlisted k = refl
value_six c nine six reg.TransmitCollisions k = refl
value_six c nine six reg.TotalOctets k = refl
value_six c nine six reg.Version k = refl
value_six c nine six reg.SetPort k = refl
value_six c nine six reg.GetPort k = refl
value_six c nine six (reg.Change r) k = refl
value_six c nine six (reg.Enable r) k = refl
value_six c nine six (reg.Counter i r) k = refl
value_six c nine six (reg.Address i) k = six i (ltb-true i port_count k)

-- with such counters as there are
module _ (c : Core) (nine : Nine) (nine_proper : Proper nine) (collisions-low : c.kept.transmit_collisions < 2 ^ 32)
    (octets-low : c.kept.total_octets < 2 ^ 32) where
  pub value_number : (x : Register) → proper x ≡ true → (row_of x).size ≡ 4
      → (value_of c nine x ≡ spread_of (number_of c nine x)) × (number_of c nine x < 2 ^ 32)
  unfolding row_of table value_of number_of
  value_number reg.Unlisted k e = absurd (omega arith)
  value_number reg.TransmitCollisions k e = (refl, collisions-low)
  value_number reg.TotalOctets k e = (refl, octets-low)
  value_number reg.Version k e = absurd (omega arith)
  value_number reg.SetPort k e = absurd (omega arith)
  value_number reg.GetPort k e = absurd (omega arith)
  value_number (reg.Change r) k e = absurd (omega arith)
  value_number (reg.Enable r) k e = absurd (omega arith)
  value_number (reg.Counter i r) k e =
      let l = ltb-true i port_count (and_first (ltb i port_count) (leb r last_counter) k) in
      let m = leb-true r last_counter (and_second (ltb i port_count) (leb r last_counter) k) in
      (refl, nine_proper.low i r l (omega arith))
  value_number (reg.Address i) k e = absurd (omega arith)
