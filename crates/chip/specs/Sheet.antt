-- Document 01, 'Host registers' (P 1, reset and power-up), the two counters of the chip, and what is chosen at power-up, on whole cores. proofs/Sheet.antt computes every row.
--   kept c o          == these two counters, and a short event limit of 77
--   used              == a core with nothing as at power-up: change bits, enables, counters, interface error, G, and links and partitions of the repeater
--   changing c r ..   == the change bits after the repeater has come to r, with these events
--   limits            == limits at power-up, each with its number and with the one that the chip goes by; given == what power-up makes of it
--   collided_aui       == TP0, TP1 and AUI partitioned, and the links of TP0 to TP2 pass
-- Assumes nothing.
use Rattle.std.specs.Prelude.{ℕ, Bool, true, List, [], ◌∷◌}
use Rattle.repeater.specs.declared.Repeater.{Repeater}
use Rattle.repeater.specs.Reset.{power_up}
use Rattle.repeater.specs.Events.{after_inputs}
use Rattle.repeater.specs.Sheet.{passing, aui_parted}
use Rattle.attributes.specs.Nine.{nothing_counted}
use Rattle.chip.specs.declared.Choices.{Choices}
use Rattle.chip.specs.declared.Kept.{Kept}
use Rattle.chip.specs.declared.Core.{Core}
use Rattle.chip.specs.declared.Powered.{Powered}
use Rattle.chip.specs.Chip.{core_up, powered_up, with_repeater, moved}

abbrev pub limit : ℕ → Choices
limit l = record { short_limit = l }

abbrev pub kept_with : ℕ → ℕ → ℕ → Kept
kept_with l collisions octets = record { transmit_collisions = collisions; total_octets = octets; choices = limit l }

abbrev pub kept : ℕ → ℕ → Kept
kept = kept_with 77

abbrev pub up : Core
up = core_up (kept 0 0)

abbrev pub linked : Repeater
linked = after_inputs power_up passing

abbrev pub collided_aui : Repeater
collided_aui = after_inputs power_up aui_parted

abbrev pub used : Core
used = record {
  repeater = collided_aui;
  changes = 1 ∷ 128 ∷ 4 ∷ 128 ∷ 128 ∷ 0 ∷ 64 ∷ 128 ∷ [];
  enables = 255 ∷ 128 ∷ 255 ∷ 128 ∷ 128 ∷ 0 ∷ 255 ∷ 128 ∷ [];
  kept = kept 7 9;
  interface_error = true;
  g = 0x55;
}

-- the limits that are asked for, and the number of each; the limit that the chip then goes by
pub record Asked : Type 0 where
  pub limit : ℕ
  pub number : ℕ
  pub then : ℕ

abbrev pub asked : ℕ → ℕ → ℕ → Asked
asked l number then = record { limit = l; number = number; then = then }

abbrev pub limits : List Asked
limits =
    asked 0 13 78
    ∷ asked 74 13 78
    ∷ asked 75 0 75
    ∷ asked 76 0 76
    ∷ asked 77 0 77
    ∷ asked 78 0 78
    ∷ asked 79 0 79
    ∷ asked 80 0 80
    ∷ asked 81 0 81
    ∷ asked 82 13 78
    ∷ asked 334 13 78
    ∷ asked 4294967295 13 78
    ∷ []

-- what power-up makes of a limit
abbrev pub powered : ℕ → Powered
powered l = powered_up (record { attributes = nothing_counted; kept = kept_with l 7 9 })

abbrev pub given : Asked → Asked
given a = asked a.limit (powered a.limit).number (powered a.limit).chip.core.kept.choices.short_limit

abbrev pub changing : Core → Repeater → Bool → Bool → ℕ → List ℕ
changing c r loopback sqe address = (moved c r loopback sqe address).changes

-- a core whose repeater stands there
abbrev pub at : Repeater → Core
at r = with_repeater up r up.changes
