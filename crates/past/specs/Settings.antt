-- Document 01, 'Commands', the Sets: what they leave each port with. A port is enabled unless its disabling came after its last enabling and after the last reset;
-- likewise its link test; and an algorithm is the standard one unless its Set came after the last reset.
--   disabling i, enabling i, stopping i, starting i == the command bytes: port i off and on, its link test off and on
--   alternating i           == the byte that sets the alternate algorithm of port i
--   commanded c d           == the deed d is the command c
--   enabled_by i, tested_by i, alternate_by i == the settings after a past; AUI has no link test
-- Assumes nothing.
use Rattle.std.specs.Prelude.{ℕ, ◌+◌, Bool, cond, not, ◌&&◌, ◌||◌, List, eqb, ltb}
use Rattle.ports.specs.Sets.{aui, port_count}
use Rattle.past.specs.Deeds.{Deed, is_reset, command_in}
use Rattle.past.specs.Since.{came_since}

abbrev pub disabling : ℕ → ℕ
disabling i = cond (eqb i aui) 0b00101111 (0b00100000 + i)

abbrev pub enabling : ℕ → ℕ
enabling i = cond (eqb i aui) 0b00111111 (0b00110000 + i)

abbrev pub stopping : ℕ → ℕ
stopping i = 0b01000000 + i

abbrev pub starting : ℕ → ℕ
starting i = 0b01010000 + i

abbrev pub alternating : ℕ → ℕ
alternating i = cond (eqb i aui) 0b00011111 0b00010000

abbrev pub commanded : ℕ → Deed → Bool
commanded c d = eqb (command_in d) c

unfoldable pub enabled_by : ℕ → List Deed → Bool
enabled_by i past = ltb i port_count && not (came_since (λ before d. commanded (disabling i) d) (λ before d. commanded (enabling i) d || is_reset d) past)

unfoldable pub tested_by : ℕ → List Deed → Bool
tested_by i past = ltb i aui && not (came_since (λ before d. commanded (stopping i) d) (λ before d. commanded (starting i) d || is_reset d) past)

unfoldable pub alternate_by : ℕ → List Deed → Bool
alternate_by i past = came_since (λ before d. commanded (alternating i) d) (λ before d. is_reset d) past
