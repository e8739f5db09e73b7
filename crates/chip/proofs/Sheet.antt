-- The core at power-up and after a reset, what a moved repeater notes, and the two counters, by computing. Assumes nothing.
--   core_up_lem, chip_up_lem, core_reset_lem == everything zero but the counters and the limit, which are given at power-up and kept by a reset
--   limits_hold         == seven limits stand, and any other is turned away with 13
--   changes_noted       == links that pass and fail, partitions and reconnections, each event, and bits that stay
--   rest_kept           == a move leaves enables, counters, interface error and G
--   totals              == Transmit Collisions by one, Total Octets by the octets, each by itself, and round at 2^32
use Rattle.std.proofs.Common.{◌≡◌, true, false, [], ◌∷◌, map, refl}
use Rattle.repeater.specs.Reset.{power_up}
use Rattle.repeater.proofs.Computing.{repeating}
use Rattle.changes.specs.Changes.{events_of, noted}
use Rattle.attributes.specs.Nine.{nothing_counted, all_counters}
use Rattle.chip.specs.Chip.{refusal_of, settled_of, core_up, chip_up, core_reset, moved, totalled}
use Rattle.chip.specs.Sheet.{kept, limits, given, up, linked, collided_aui, used, changing, at}

pub core_up_lem : core_up (kept 7 9)
    ≡ record {
      repeater = power_up;
      changes = 0 ∷ 0 ∷ 0 ∷ 0 ∷ 0 ∷ 0 ∷ 0 ∷ 0 ∷ [];
      enables = 0 ∷ 0 ∷ 0 ∷ 0 ∷ 0 ∷ 0 ∷ 0 ∷ 0 ∷ [];
      kept = kept 7 9;
      interface_error = false;
      g = 0;
    }
core_up_lem = refl

pub chip_up_lem : ((chip_up (record { attributes = nothing_counted; kept = kept 7 9 })).core ≡ core_up (kept 7 9))
    × ((chip_up (record { attributes = all_counters 5; kept = kept 7 9 })).attributes ≡ all_counters 5)
unfolding settled_of
chip_up_lem = (refl, refl)

pub limits_hold : limits ≡ map given limits
unfolding refusal_of settled_of
limits_hold = refl

pub core_reset_lem : core_reset used
    ≡ record {
      repeater = power_up;
      changes = 0 ∷ 0 ∷ 0 ∷ 0 ∷ 0 ∷ 0 ∷ 0 ∷ 0 ∷ [];
      enables = 0 ∷ 0 ∷ 0 ∷ 0 ∷ 0 ∷ 0 ∷ 0 ∷ 0 ∷ [];
      kept = kept 7 9;
      interface_error = false;
      g = 0;
    }
core_reset_lem = refl

pub changes_noted :
    (changing up power_up false false 0 ≡ 0 ∷ 0 ∷ 0 ∷ 0 ∷ 0 ∷ 0 ∷ 0 ∷ 0 ∷ [])
    × (changing up linked false false 0 ≡ 0 ∷ 0 ∷ 0b00000111 ∷ 0 ∷ 0 ∷ 0 ∷ 0 ∷ 0 ∷ [])
    × (changing (at linked) collided_aui false false 0 ≡ 0b00000011 ∷ 0b10000000 ∷ 0 ∷ 0 ∷ 0 ∷ 0 ∷ 0 ∷ 0 ∷ [])
    × (changing (at collided_aui) linked false false 0 ≡ 0b00000011 ∷ 0b10000000 ∷ 0 ∷ 0 ∷ 0 ∷ 0 ∷ 0 ∷ 0 ∷ [])
    × (changing (at collided_aui) power_up false false 0 ≡ 0b00000011 ∷ 0b10000000 ∷ 0b00000111 ∷ 0 ∷ 0 ∷ 0 ∷ 0 ∷ 0 ∷ [])
    × (changing up power_up true false 0 ≡ 0 ∷ 0 ∷ 0 ∷ 0b10000000 ∷ 0 ∷ 0 ∷ 0 ∷ 0 ∷ [])
    × (changing up power_up false true 0 ≡ 0 ∷ 0 ∷ 0 ∷ 0 ∷ 0b10000000 ∷ 0 ∷ 0 ∷ 0 ∷ [])
    × (changing up power_up false false 0b100000010 ≡ 0 ∷ 0 ∷ 0 ∷ 0 ∷ 0 ∷ 0 ∷ 0b00000010 ∷ 0b10000000 ∷ [])
    × (changing used collided_aui true true 0b000000001 ≡ 1 ∷ 128 ∷ 4 ∷ 128 ∷ 128 ∷ 0 ∷ 65 ∷ 128 ∷ [])
unfolding repeating events_of noted moved
changes_noted = (refl, refl, refl, refl, refl, refl, refl, refl, refl)

pub rest_kept : moved used collided_aui false false 0 ≡ used
unfolding repeating events_of noted moved
rest_kept = refl

pub totals :
    ((totalled up true 0).kept ≡ kept 1 0)
    × ((totalled up false 64).kept ≡ kept 0 64)
    × ((totalled up true 64).kept ≡ kept 1 64)
    × ((totalled (core_up (kept 4294967295 4294967295)) true 64).kept ≡ kept 0 63)
    × (totalled used false 0 ≡ used)
totals = (refl, refl, refl, refl, refl)
