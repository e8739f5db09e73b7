-- What a record that was not turned away is sure to hold, for the crates above.
--     kind_number a    the number of the kind that asks for a; 0 for a refusal
--     is_quiet k       the kind k asks for something quiet
--     Bounded a       the bounds of what a carries
-- Assumes nothing.
use Rattle.std.specs.Prelude.{ℕ, ◌+◌, ◌*◌, ◌≤◌, ◌<◌, ◌≡◌, Bool, true, ◌||◌, ◌⊎◌, eqb}
use Rattle.ports.specs.declared.Quiet.TheVariants as quiet
use Rattle.record.specs.Record.{burst_kind, pulse_kind, tick_kind, c_write_kind, d_write_kind, c_read_kind, d_read_kind, reset_kind}
use Rattle.record.specs.Refusals.{burst_mask_end, pulse_mask_end, longest, most_dribble}
use Rattle.record.specs.declared.Burst.{Burst}
use Rattle.record.specs.declared.Access.TheVariants as access
use Rattle.record.specs.declared.Asked.{Asked}
use Rattle.record.specs.declared.Asked.TheVariants as asks

abbrev pub kind_number : Asked → ℕ
kind_number (asks.Burst burst) = burst_kind
kind_number (asks.Quiet (quiet.Pulse mask)) = pulse_kind
kind_number (asks.Quiet quiet.Tick) = tick_kind
kind_number (asks.Access (access.WriteC byte)) = c_write_kind
kind_number (asks.Access (access.WriteD byte)) = d_write_kind
kind_number (asks.Access access.ReadC) = c_read_kind
kind_number (asks.Access access.ReadD) = d_read_kind
kind_number asks.Reset = reset_kind
kind_number (asks.Refused number) = 0

-- the kinds that ask for something quiet
abbrev pub is_quiet : ℕ → Bool
is_quiet k = eqb pulse_kind k || eqb tick_kind k

pub record BurstBounds (b : Burst) : Type 0 where
  pub mask_below : b.mask < burst_mask_end
  pub active : b.mask ≡ 0 → b.collision_signal ≡ true
  pub d_above : 0 < b.d
  pub d_within : b.d ≤ longest
  pub k_within : b.k ≤ most_dribble
  pub octets_within : 8 * b.n + b.k ≤ b.d
  pub collision_within : b.c + b.x ≤ b.d

abbrev pub Bounded : Asked → Type 0
Bounded (asks.Burst burst) = BurstBounds burst
Bounded (asks.Quiet (quiet.Pulse mask)) = mask < pulse_mask_end
Bounded (asks.Quiet quiet.Tick) = Unit
Bounded (asks.Access (access.WriteC byte)) = (byte < 32) ⊎ ((224 ≤ byte) × (byte < 256))
Bounded (asks.Access (access.WriteD byte)) = Unit
Bounded (asks.Access access.ReadC) = Unit
Bounded (asks.Access access.ReadD) = Unit
Bounded asks.Reset = Unit
Bounded (asks.Refused number) = (0 < number) × (number < 10)
