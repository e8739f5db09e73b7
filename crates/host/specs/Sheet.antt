-- Document 01, 'Host registers', place by place and byte by byte. proofs/Sheet.antt computes every row.
--   Spot, spot      == a place, P and R, and the row that the paper has there
--   spots           == every register of pages 0 to 2, the ends of the ports' pages, and places where there is nothing
--   Step            == a C write; a D read of a register of so many bytes that holds these; a D write to one of so many
--   told h steps    == what each step shows: the byte that a read gives; for a write, 1 where it completes the register, else 0; for a C write, 0
--   Said, said      == a row: the record at the start, steps, what they show
--   sequences       == the rows
-- Assumes nothing.
use Rattle.std.specs.Prelude.{ℕ, Bool, true, false, cond, List, [], ◌∷◌}
use Rattle.host.specs.declared.Host.{Host}
use Rattle.host.specs.declared.Reading.{Reading}
use Rattle.host.specs.declared.Writing.{Writing}
use Rattle.host.specs.declared.Row.{Row}
use Rattle.host.specs.declared.Register.{Register}
use Rattle.host.specs.declared.Register.TheVariants.{Unlisted, TransmitCollisions, TotalOctets, Version, SetPort}
use Rattle.host.specs.declared.Register.TheVariants.{GetPort, Change, Enable, Counter, Address}
use Rattle.host.specs.declared.Role.{Role}
use Rattle.host.specs.declared.Role.TheVariants.{Plain, Cleared, Commands, Enables}
use Rattle.host.specs.declared.Role.TheVariants as role
use Rattle.host.specs.Sequence.{power_up, selected, read_byte, wrote_byte}

pub record Spot : Type 0 where
  pub page : ℕ
  pub register : ℕ
  pub row : Row

-- P, R, the register, its bytes, whether it is read and written, its role
abbrev pub spot : ℕ → ℕ → Register → ℕ → Bool → Bool → Role → Spot
spot p r register size readable writable role =
    record { page = p; register = r; row = record { register = register; size = size; readable = readable; writable = writable; role = role } }

abbrev pub nothing : ℕ → ℕ → Spot
nothing p r = spot p r Unlisted 0 false false Plain

abbrev pub change : ℕ → Spot
change r = spot 1 r (Change r) 1 true false (Cleared r)

abbrev pub enable : ℕ → Spot
enable r = spot 2 r (Enable r) 1 true true (Enables r)

abbrev pub counter : ℕ → ℕ → ℕ → Spot
counter p i r = spot p r (Counter i r) 4 true false Plain

abbrev pub address : ℕ → ℕ → Spot
address p i = spot p 14 (Address i) 6 true true (role.Address i)

abbrev pub spots : List Spot
spots =
    spot 0 12 TransmitCollisions 4 true false Plain
    ∷ spot 0 13 TotalOctets 4 true false Plain
    ∷ spot 0 28 Version 1 true false Plain
    ∷ spot 0 30 SetPort 1 false true (Commands false)
    ∷ spot 0 31 GetPort 1 true true (Commands true)
    ∷ change 0
    ∷ change 1
    ∷ change 2
    ∷ change 3
    ∷ change 4
    ∷ change 6
    ∷ change 7
    ∷ enable 0
    ∷ enable 1
    ∷ enable 2
    ∷ enable 3
    ∷ enable 4
    ∷ enable 6
    ∷ enable 7
    ∷ counter 16 0 0
    ∷ counter 16 0 12
    ∷ counter 19 3 7
    ∷ counter 23 7 0
    ∷ counter 31 8 0
    ∷ counter 31 8 12
    ∷ address 16 0
    ∷ address 23 7
    ∷ address 31 8
    -- what is not there
    ∷ nothing 0 0
    ∷ nothing 0 11
    ∷ nothing 0 14
    ∷ nothing 0 27
    ∷ nothing 0 29
    ∷ nothing 1 5
    ∷ nothing 1 8
    ∷ nothing 2 5
    ∷ nothing 2 8
    ∷ nothing 3 0
    ∷ nothing 15 0
    ∷ nothing 16 13
    ∷ nothing 16 15
    ∷ nothing 24 0
    ∷ nothing 30 14
    ∷ nothing 31 13
    ∷ nothing 32 12
    ∷ nothing 48 0
    ∷ nothing 255 31
    ∷ nothing 16 32
    ∷ []

pub data Step : Type 0 where
  select : ℕ → Step
  read : ℕ → List ℕ → Step
  write : ℕ → ℕ → Step

abbrev pub told : Host → List Step → List ℕ
told h [] = []
told h (select byte ∷ steps) = 0 ∷ told (selected byte h) steps
told h (read size value ∷ steps) = let t : Reading = read_byte size value h in t.byte ∷ told t.host steps
told h (write size byte ∷ steps) = let t : Writing = wrote_byte size byte h in cond t.complete 1 0 ∷ told t.host steps

pub record Said : Type 0 where
  pub start : Host
  pub steps : List Step
  pub shown : List ℕ

abbrev pub said : List Step → List ℕ → Said
said steps shown = record { start = power_up; steps = steps; shown = shown }

-- a register of four bytes and one of six, before and after they change
abbrev pub four : Step
four = read 4 (1 ∷ 2 ∷ 3 ∷ 4 ∷ 0 ∷ 0 ∷ [])

abbrev pub later : Step
later = read 4 (11 ∷ 12 ∷ 13 ∷ 14 ∷ 0 ∷ 0 ∷ [])

abbrev pub six : Step
six = read 6 (21 ∷ 22 ∷ 23 ∷ 24 ∷ 25 ∷ 26 ∷ [])

-- a record in a state of its own: the place is past the end
abbrev pub strayed : Host
strayed = record { page = 0; register = 0; bytes = 9 ∷ 9 ∷ 9 ∷ 9 ∷ 9 ∷ 9 ∷ []; place = 200; writing = false }

abbrev pub sequences : List Said
sequences =
    -- all bytes from the first one's moment, and then anew
    said (four ∷ later ∷ later ∷ later ∷ later ∷ later ∷ []) (1 ∷ 2 ∷ 3 ∷ 4 ∷ 11 ∷ 12 ∷ [])
    -- six bytes; and one
    ∷ said (six ∷ six ∷ six ∷ six ∷ six ∷ six ∷ six ∷ []) (21 ∷ 22 ∷ 23 ∷ 24 ∷ 25 ∷ 26 ∷ 21 ∷ [])
    ∷ said (read 1 (7 ∷ []) ∷ read 1 (8 ∷ []) ∷ []) (7 ∷ 8 ∷ [])
    -- a C write of P or of R starts afresh, one that selects nothing does not
    ∷ said (four ∷ four ∷ select 0x00 ∷ later ∷ []) (1 ∷ 2 ∷ 0 ∷ 11 ∷ [])
    ∷ said (four ∷ four ∷ select 0xe0 ∷ later ∷ []) (1 ∷ 2 ∷ 0 ∷ 11 ∷ [])
    ∷ said (four ∷ four ∷ select 0x20 ∷ later ∷ []) (1 ∷ 2 ∷ 0 ∷ 3 ∷ [])
    -- the sixth write completes; a seventh is the first again
    ∷ said (write 6 1 ∷ write 6 2 ∷ write 6 3 ∷ write 6 4 ∷ write 6 5 ∷ write 6 6 ∷ write 6 7 ∷ []) (0 ∷ 0 ∷ 0 ∷ 0 ∷ 0 ∷ 1 ∷ 0 ∷ [])
    -- turning starts afresh, both ways; so does a C write
    ∷ said (write 6 1 ∷ write 6 2 ∷ six ∷ six ∷ []) (0 ∷ 0 ∷ 21 ∷ 22 ∷ [])
    ∷ said (six ∷ six ∷ six ∷ six ∷ six ∷ write 6 1 ∷ []) (21 ∷ 22 ∷ 23 ∷ 24 ∷ 25 ∷ 0 ∷ [])
    ∷ said (write 6 1 ∷ write 6 2 ∷ write 6 3 ∷ write 6 4 ∷ write 6 5 ∷ select 0x1f ∷ write 6 6 ∷ []) (0 ∷ 0 ∷ 0 ∷ 0 ∷ 0 ∷ 0 ∷ 0 ∷ [])
    -- a place past the end counts as the first
    ∷ record { start = strayed; steps = four ∷ later ∷ []; shown = 1 ∷ 2 ∷ [] }
    ∷ record { start = strayed; steps = read 1 (7 ∷ []) ∷ []; shown = 7 ∷ [] }
    ∷ []
