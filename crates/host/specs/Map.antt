-- Document 01, 'Host registers': which register a page P and a register number R select.
-- Settles, in one table, where each register stands, how many bytes it has, which ways it may be accessed and what an access does
-- to the chip beside giving the value. The ports of pages 16 to 23 are TP0 to TP7, that of page 31 is AUI.
--     table          == the registers, in document 01's order
--     line_at p r     == the line on which P and R stand, or the line of what is not listed
--     row_at p r      == what that line says of P and R: the register, its bytes, its ways, its role
--     register_at p r == the register there
-- Assumes nothing.
use Rattle.std.specs.Prelude.{ℕ, ◌-◌, Bool, true, false, ◌&&◌, ◌||◌, cond, List, [], ◌∷◌, leb, eqb}
use Rattle.ports.specs.Sets.{aui}
use Rattle.host.specs.declared.Register.{Register}
use Rattle.host.specs.declared.Register.TheVariants.{Unlisted, TransmitCollisions, TotalOctets, Version, SetPort}
use Rattle.host.specs.declared.Register.TheVariants.{GetPort, Change, Enable, Counter, Address}
use Rattle.host.specs.declared.Role.{Role}
use Rattle.host.specs.declared.Role.TheVariants.{Plain, Cleared, Commands, Enables}
use Rattle.host.specs.declared.Role.TheVariants as role
use Rattle.host.specs.declared.Row.{Row}

-- the numbers from the first to the last
pub record Range : Type 0 where
  pub first : ℕ
  pub last : ℕ

infix 80 ◌to◌
abbrev pub ◌to◌ : ℕ → ℕ → Range
a to b = record { first = a; last = b }

abbrev pub only : ℕ → List Range
only n = n to n ∷ []

-- whether a number is in one of the ranges
abbrev pub within : List Range → ℕ → Bool
within [] n = false
within (range ∷ ranges) n = (leb range.first n && leb n range.last) || within ranges n

-- the ways in which a register may be accessed
pub data Ways : Type 0 where
  none : Ways
  read : Ways
  write : Ways
  both : Ways

abbrev pub readable : Ways → Bool
readable none = false
readable read = true
readable write = false
readable both = true

abbrev pub writable : Ways → Bool
writable none = false
writable read = false
writable write = true
writable both = true

-- where registers stand, which one it is there, its bytes, its ways, its role; register and role go by the port of P and by R
pub record Line : Type 0 where
  pub pages : List Range
  pub registers : List Range
  pub what : ℕ → ℕ → Register
  pub size : ℕ
  pub ways : Ways
  pub role : ℕ → ℕ → Role

abbrev pub line : List Range → List Range → (ℕ → ℕ → Register) → ℕ → Ways → (ℕ → ℕ → Role) → Line
line pages registers what size ways role =
    record { pages = pages; registers = registers; what = what; size = size; ways = ways; role = role }

-- the ports' pages: TP0's, TP7's, AUI's; and the port of such a page
abbrev pub tp0_page : ℕ
tp0_page = 16

abbrev pub tp7_page : ℕ
tp7_page = 23

abbrev pub aui_page : ℕ
aui_page = 31

abbrev pub port_pages : List Range
port_pages = tp0_page to tp7_page ∷ only aui_page

abbrev pub port_of : ℕ → ℕ
port_of p = cond (eqb p aui_page) aui (p - tp0_page)

-- the R of change bits, and of the enables for the same bits
abbrev pub bit_registers : List Range
bit_registers = 0 to 4 ∷ 6 to 7 ∷ []

-- the R of a port's last counter, and of its address
abbrev pub last_counter : ℕ
last_counter = 12

abbrev pub address_register : ℕ
address_register = 14

-- P, R, the register there, its bytes, its ways, its role; i is the port of P, r is R
unfoldable pub table : List Line
table =
    line (only 0) (only 12) (λ i r. TransmitCollisions) 4 read (λ i r. Plain)
    ∷ line (only 0) (only 13) (λ i r. TotalOctets) 4 read (λ i r. Plain)
    ∷ line (only 0) (only 28) (λ i r. Version) 1 read (λ i r. Plain)
    ∷ line (only 0) (only 30) (λ i r. SetPort) 1 write (λ i r. Commands false)
    ∷ line (only 0) (only 31) (λ i r. GetPort) 1 both (λ i r. Commands true)
    ∷ line (only 1) bit_registers (λ i r. Change r) 1 read (λ i r. Cleared r)
    ∷ line (only 2) bit_registers (λ i r. Enable r) 1 both (λ i r. Enables r)
    ∷ line port_pages (0 to last_counter ∷ []) (λ i r. Counter i r) 4 read (λ i r. Plain)
    ∷ line port_pages (only address_register) (λ i r. Address i) 6 both (λ i r. role.Address i)
    ∷ []

-- what is not listed
abbrev pub no_line : Line
no_line = line [] [] (λ i r. Unlisted) 0 none (λ i r. Plain)

-- whether P and R stand on a line, and the line of a list on which they stand
abbrev pub lists : Line → ℕ → ℕ → Bool
lists line p r = within line.pages p && within line.registers r

abbrev pub found : List Line → ℕ → ℕ → Line
found [] p r = no_line
found (line ∷ more) p r = cond (lists line p r) line (found more p r)

abbrev pub line_at : ℕ → ℕ → Line
line_at p r = found table p r

-- a row, and what a line says of port i and R r
abbrev pub row : Register → ℕ → Ways → Role → Row
row register size ways role =
    record { register = register; size = size; readable = readable ways; writable = writable ways; role = role }

abbrev pub row_on : Line → ℕ → ℕ → Row
row_on line i r = row (line.what i r) line.size line.ways (line.role i r)

abbrev pub no_row : Row
no_row = row_on no_line 0 0

unfoldable pub row_at : ℕ → ℕ → Row
row_at p r = row_on (line_at p r) (port_of p) r

abbrev pub register_at : ℕ → ℕ → Register
register_at p r = (row_at p r).register
