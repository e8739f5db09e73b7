-- Document 01, 'Host registers': the map read from the register to its row and its place, for the theorems of `proofs/Listed.antt`.
--     place_of register    == where a register stands: one clause for each
--     listed register     == it is in the table
--     proper register     == the port and the R that it carries are such as there are
--     page_of register     == the P at which it stands
--     register_of register == the R at which it stands
--     row_of register      == its row, by its line in the table
--     rows i r            == what every line says of port i and R r
--     fits row            == the ways of a row are such as its role asks for
--     meant role register == the one register that has the role; the given one where many have it
-- Assumes nothing.
use Rattle.std.specs.Prelude.{ℕ, ◌+◌, Bool, true, false, ◌&&◌, not, cond, List, ◌∷◌, map, leb, ltb, eqb, get_or}
use Rattle.ports.specs.Sets.{aui, port_count}
use Rattle.host.specs.declared.Register.{Register}
use Rattle.host.specs.declared.Register.TheVariants.{Unlisted, TransmitCollisions, TotalOctets, Version, SetPort}
use Rattle.host.specs.declared.Register.TheVariants.{GetPort, Change, Enable, Counter, Address}
use Rattle.host.specs.declared.Role.{Role}
use Rattle.host.specs.declared.Role.TheVariants as role
use Rattle.host.specs.declared.Row.{Row}
use Rattle.host.specs.Map.{within, bit_registers, tp0_page, aui_page, last_counter, address_register, Line, table, no_line, row_on}

-- the line of the table on which a register stands, from 1, or 0 for what is not listed; its page; its port, 0 where it has none;
-- its R; and whether the port and the R that it carries are such as there are
pub record Place : Type 0 where
  pub line : ℕ
  pub page : ℕ
  pub port : ℕ
  pub register : ℕ
  pub proper : Bool

abbrev pub place : ℕ → ℕ → ℕ → ℕ → Bool → Place
place line p i r proper = record { line = line; page = p; port = i; register = r; proper = proper }

-- the page of a port
abbrev pub port_page : ℕ → ℕ
port_page i = cond (eqb i aui) aui_page (i + tp0_page)

-- P 0 R 0, which is not listed, stands for all that are not
abbrev pub place_of : Register → Place
place_of Unlisted = place 0 0 0 0 true
place_of TransmitCollisions = place 1 0 0 12 true
place_of TotalOctets = place 2 0 0 13 true
place_of Version = place 3 0 0 28 true
place_of SetPort = place 4 0 0 30 true
place_of GetPort = place 5 0 0 31 true
place_of (Change r) = place 6 1 0 r (within bit_registers r)
place_of (Enable r) = place 7 2 0 r (within bit_registers r)
place_of (Counter i r) = place 8 (port_page i) i r (ltb i port_count && leb r last_counter)
place_of (Address i) = place 9 (port_page i) i address_register (ltb i port_count)

abbrev pub listed : Register → Bool
listed register = not (eqb (place_of register).line 0)

abbrev pub proper : Register → Bool
proper register = (place_of register).proper

abbrev pub page_of : Register → ℕ
page_of register = (place_of register).page

abbrev pub register_of : Register → ℕ
register_of register = (place_of register).register

-- every line, that of what is not listed in front; and what they say of port i and R r
abbrev pub lines : List Line
lines = no_line ∷ table

abbrev pub rows : ℕ → ℕ → List Row
rows i r = map (λ line. row_on line i r) lines

unfoldable pub row_of : Register → Row
row_of register = row_on (get_or lines (place_of register).line no_line) (place_of register).port (place_of register).register

abbrev pub fits_role : Role → Row → Bool
fits_role role.Plain row = not row.writable
fits_role (role.Cleared r) row = row.readable && not row.writable
fits_role (role.Commands g) row = row.writable
fits_role (role.Enables r) row = row.readable && row.writable
fits_role (role.Address i) row = row.readable && row.writable

abbrev pub fits : Row → Bool
fits row = fits_role row.role row

-- commands are taken by G, or else by S
abbrev pub commanded : Bool → Register
commanded true = GetPort
commanded false = SetPort

abbrev pub meant : Role → Register → Register
meant role.Plain register = register
meant (role.Cleared r) register = Change r
meant (role.Commands g) register = commanded g
meant (role.Enables r) register = Enable r
meant (role.Address i) register = Address i
