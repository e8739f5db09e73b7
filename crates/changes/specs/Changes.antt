-- Document 01, 'Host registers', P 1 and P 2: the change bits and their interrupt enables, each as the bytes of registers R 0 to R 7.
-- R 5 is not there and stays 0.
--   bit7 one                 == bit 7 of a byte, where a register has one bit alone
--   tp_byte mask, aui_bit mask == the TP ports of a set as a byte; AUI of a set as bit 7
--   events_of ..              == the bits that one record's events set, register by register
--   noted events changes     == the change bits with these events: a bit is set, already one or not
--   kept_bits register byte   == what a write of a byte to these enables keeps: a single AUI bit is bit 7, the rest is dropped
--   pending changes enables  == some change bit and its enable are both one
-- Assumes nothing.
use Rattle.std.specs.Prelude.{ℕ, ◌%◌, Bool, true, cond, not, ◌||◌, List, [], ◌∷◌, eqb, get_or}
use Rattle.std.specs.Int.Bits.{bit_and, bit_or}
use Rattle.ports.specs.Sets.{aui, has}
use Rattle.ports.specs.Each.{each}

abbrev pub bit7 : Bool → ℕ
bit7 one = cond one 128 0

abbrev pub tp_byte : ℕ → ℕ
tp_byte mask = mask % 256

abbrev pub aui_bit : ℕ → ℕ
aui_bit mask = bit7 (has mask aui)

-- of the ports whose partition state changed, those whose link state changed, a loopback error, an SQE Test, and the ports whose source address changed
unfoldable pub events_of : ℕ → ℕ → Bool → Bool → ℕ → List ℕ
events_of partition link loopback sqe address =
    tp_byte partition ∷ aui_bit partition ∷ tp_byte link ∷ bit7 loopback ∷ bit7 sqe ∷ 0 ∷ tp_byte address ∷ aui_bit address ∷ []

unfoldable pub noted : List ℕ → List ℕ → List ℕ
noted events changes = each (λ register bits. bit_or bits (get_or events register 0)) changes

unfoldable pub kept_bits : ℕ → ℕ → ℕ
kept_bits register byte = cond (eqb register 1 || eqb register 3 || eqb register 4 || eqb register 7) (bit_and byte (bit7 true)) byte

-- at one register
abbrev pub both : List ℕ → List ℕ → ℕ → Bool
both changes enables register = not (eqb (bit_and (get_or changes register 0) (get_or enables register 0)) 0)

unfoldable pub pending : List ℕ → List ℕ → Bool
pending changes enables =
    both changes enables 0 || both changes enables 1 || both changes enables 2 || both changes enables 3 || both changes enables 4 || both changes enables 6
    || both changes enables 7
