-- Document 01, 'Reset and power-up': the caller gives the attributes at power-up. Here they come as a start file: for each port, TP0 to TP7 and then
-- AUI, its counters in the order of their registers and its address; then Transmit Collisions and Total Octets. What is chosen may stand behind them: the short
-- event limit, and a byte that is 0. Numbers are little-endian.
--   counters_size, port_size     == the bytes of a port's counters, and of all that is kept of a port
--   collisions_from, octets_from == where the chip's own two counters stand; start_size == how many bytes the file has without choices
--   limit_from, spare_at         == where the limit stands, and the byte that is 0; chosen_size == how many bytes the file has with choices
--   fits_in s                   == the file has one of the two sizes, and is 0 where it has to be
--   choices_in s                == what the file chooses, or what is usual where it chooses nothing
--   number_from s i             == the number in the four bytes from byte i on
--   port_from s i               == the attributes in the bytes from byte i on
--   nine_up_to s n               == the first n ports' attributes; nothing is counted at the others
--   supply_in s                 == what the file gives at power-up; nothing_given == zeros
--   started_with fits given     == the limit that is asked for, the number that power-up answers, and the chip
--   started_of s                == the same with what the file gives, if it fits; else with zeros, and it does not fit
-- Assumes nothing.
use Rattle.std.specs.Prelude.{ℕ, zero, suc, ◌+◌, ◌*◌, Bool, true, false, cond, ◌&&◌, ◌||◌, List, [], ◌∷◌, eqb, length, get_or, replicate}
use Rattle.spelling.specs.Spelling.{spelt}
use Rattle.ports.specs.Each.{each}
use Rattle.ports.specs.Sets.{port_count}
use Rattle.attributes.specs.declared.Attributes.{Attributes}
use Rattle.attributes.specs.declared.Nine.{Nine}
use Rattle.attributes.specs.Nine.{counter_count, nothing_counted, with_port}
use Rattle.chip.specs.declared.Choices.{Choices}
use Rattle.chip.specs.declared.Supply.{Supply}
use Rattle.chip.specs.Chip.{usual, powered_up}
use Rattle.start.specs.declared.Started.{Started}

abbrev pub counters_size : ℕ
counters_size = 4 * counter_count

-- an address has six bytes
abbrev pub port_size : ℕ
port_size = counters_size + 6

abbrev pub collisions_from : ℕ
collisions_from = port_size * port_count

abbrev pub octets_from : ℕ
octets_from = collisions_from + 4

abbrev pub start_size : ℕ
start_size = octets_from + 4

abbrev pub limit_from : ℕ
limit_from = start_size

abbrev pub spare_at : ℕ
spare_at = limit_from + 4

abbrev pub chosen_size : ℕ
chosen_size = spare_at + 1

unfoldable pub fits_in : List ℕ → Bool
fits_in s = eqb (length s) start_size || (eqb (length s) chosen_size && eqb (get_or s spare_at 0) 0)

abbrev pub number_from : List ℕ → ℕ → ℕ
number_from s i = spelt (get_or s i 0 ∷ get_or s (i + 1) 0 ∷ get_or s (i + 2) 0 ∷ get_or s (i + 3) 0 ∷ [])

abbrev pub zeros : ℕ → List ℕ
zeros n = replicate n 0

unfoldable pub counters_from : List ℕ → ℕ → List ℕ
counters_from s i = each (λ r none. number_from s (i + 4 * r)) (zeros counter_count)

unfoldable pub address_from : List ℕ → ℕ → List ℕ
address_from s i = each (λ j none. get_or s (i + j) 0) (zeros 6)

unfoldable pub port_from : List ℕ → ℕ → Attributes
port_from s i = record { counters = counters_from s i; address = address_from s (i + counters_size) }

unfoldable pub nine_up_to : List ℕ → ℕ → Nine
nine_up_to s zero = nothing_counted
nine_up_to s (suc i) = with_port (nine_up_to s i) i (port_from s (port_size * i))

unfoldable pub choices_in : List ℕ → Choices
choices_in s = cond (eqb (length s) chosen_size) (record { short_limit = number_from s limit_from }) usual

unfoldable pub supply_in : List ℕ → Supply
supply_in s = record {
  attributes = nine_up_to s port_count;
  kept = record { transmit_collisions = number_from s collisions_from; total_octets = number_from s octets_from; choices = choices_in s };
}

abbrev pub nothing_given : Supply
nothing_given = record { attributes = nothing_counted; kept = record { transmit_collisions = 0; total_octets = 0; choices = usual } }

unfoldable pub started_with : Bool → Supply → Started
started_with fits given = record {
  fits = fits;
  limit = given.kept.choices.short_limit;
  number = (powered_up given).number;
  chip = (powered_up given).chip;
}

unfoldable pub started_of : List ℕ → Started
started_of s = cond (fits_in s) (started_with true (supply_in s)) (started_with false nothing_given)
