-- Document 01, 'Host registers': the records that can come about: one is made at power-up, and from then on each reset and each
-- access that is not turned away makes the next.
-- Settles what these keep to: a selection that C writes can make, and a byte place inside the selected register.
--     selected_size host           == the bytes of the register that the record selects
--     Access                      == what alters the record; an access that is turned away is none
--     after_access access host     == the record after it
--     after_accesses accesses host == the record after several
--     Sound host                  == what it keeps to
-- Assumes nothing.
use Rattle.std.specs.Prelude.{ℕ, ◌<◌, ◌≡◌, List, [], ◌∷◌, length}
use Rattle.host.specs.declared.Host.{Host}
use Rattle.host.specs.Map.{row_at}
use Rattle.host.specs.Sequence.{power_up, selected_below, selected, read_byte, wrote_byte}

unfoldable pub selected_size : Host → ℕ
selected_size host = (row_at host.page host.register).size

-- a reset; a C write; a D read while the register holds six bytes; a D write
pub data Access : Type 0 where
  reset : Access
  select : ℕ → Access
  read : (value : List ℕ) → length value ≡ 6 → Access
  write : ℕ → Access

abbrev pub after_access : Access → Host → Host
after_access reset host = power_up
after_access (select byte) host = selected byte host
after_access (read value six) host = (read_byte (selected_size host) value host).host
after_access (write byte) host = (wrote_byte (selected_size host) byte host).host

unfoldable pub after_accesses : List Access → Host → Host
after_accesses [] host = host
after_accesses (access ∷ accesses) host = after_accesses accesses (after_access access host)

-- a register that is not listed has no byte, so that there the place is 0
pub record Sound (host : Host) : Type 0 where
  pub page : host.page < selected_below
  pub register : host.register < selected_below
  pub six : length host.bytes ≡ 6
  pub place : host.place < 6
  pub inside : 0 < host.place → host.place < selected_size host
