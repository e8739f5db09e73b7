-- Document 01, 'Host registers', access by access: what a row's accesses are answered with, one after the other, from a core and the host's record of power-up.
-- proofs/Sheet.antt computes every row.
--   said c h rest == the answers to accesses, one after the other, with nothing counted at any port
--   ports c h rest == the port whose address each of them completes, or nobody
--   Row          == what stands at the start, the accesses, and their answers
--   select p r   == the C writes that select P and R
--   commands, bits, interrupts, registers, barred == the tables: commands through both registers, what enables keep, the interrupt bit, each register by
--                   itself, and what is turned away
--   address      == the writes of an address
--   contents     == what registers hold, in bytes and as a number, of a core and of nine ports where no two counters are alike
-- Assumes nothing.
use Rattle.std.specs.Prelude.{ℕ, ◌+◌, List, [], ◌∷◌, ◌++◌, Option, Some, None, replicate}
use Rattle.repeater.specs.Reset as Rep
use Rattle.repeater.specs.Events.{after_inputs}
use Rattle.repeater.specs.Commands.{reporting}
use Rattle.record.specs.declared.Access.{Access}
use Rattle.record.specs.declared.Access.TheVariants.{WriteC, WriteD, ReadC, ReadD}
use Rattle.host.specs.declared.Host.{Host}
use Rattle.host.specs.declared.Register.{Register}
use Rattle.host.specs.declared.Register.TheVariants as reg
use Rattle.attributes.specs.declared.Nine.{Nine}
use Rattle.attributes.specs.Nine.{nothing_counted, with_port}
use Rattle.answer.specs.declared.Answer.{Answer}
use Rattle.answer.specs.declared.Answer.TheVariants.{Done, Value, Refused}
use Rattle.chip.specs.declared.Core.{Core}
use Rattle.chip.specs.Chip.{usual, core_up, with_repeater, with_changes}
use Rattle.access.specs.declared.Acted.{Acted}
use Rattle.access.specs.Access.{served}

unfoldable pub said : Core → Host → List Access → List Answer
said c h [] = []
said c h (a ∷ rest) = let t : Acted = served a c nothing_counted h in t.answer ∷ said t.core t.host rest

unfoldable pub ports : Core → Host → List Access → List (Option ℕ)
ports c h [] = []
ports c h (a ∷ rest) = let t : Acted = served a c nothing_counted h in t.port ∷ ports t.core t.host rest

abbrev pub up : Core
up = core_up (record { transmit_collisions = 0; total_octets = 0; choices = usual })

-- TP0's partition bit and AUI's are one, and no other
abbrev pub changed : Core
changed = with_changes up (0b00000001 ∷ 0b10000000 ∷ replicate 6 0)

-- status bits are one, among them that of TP1's bit rate errors
abbrev pub reported : Core
reported = with_repeater up (after_inputs Rep.power_up reporting) up.changes

pub record Row : Type 0 where
  pub core : Core
  pub accesses : List Access
  pub answers : List Answer

abbrev pub from : Core → List Access → List Answer → Row
from c accesses answers = record { core = c; accesses = accesses; answers = answers }

abbrev pub select : ℕ → ℕ → List Access
select p r = WriteC p ∷ WriteC (224 + r) ∷ []

-- the answers to the two C writes, and then these
abbrev pub selected : List Answer → List Answer
selected answers = Done ∷ Done ∷ answers

-- FF is a Get, which gives 01, and 10 is a Set; S is P 0 R 30 and G is P 0 R 31
unfoldable pub commands : List Row
commands =
    -- a Get through S: the error, cleared by the C read; and its answer stands in G
    from up (select 0 30 ++ (WriteD 0xff ∷ ReadC ∷ ReadC ∷ WriteC 0xff ∷ ReadD ∷ [])) (selected (Done ∷ Value 0x40 ∷ Value 0x00 ∷ Done ∷ Value 0x01 ∷ []))
    -- through G: no error
    ∷ from up (select 0 31 ++ (WriteD 0xff ∷ ReadC ∷ ReadD ∷ [])) (selected (Done ∷ Value 0x00 ∷ Value 0x01 ∷ []))
    -- a Set through S: no error, and G keeps what a Get left there
    ∷ from up (select 0 31 ++ (WriteD 0xff ∷ WriteC 0xfe ∷ WriteD 0x10 ∷ ReadC ∷ WriteC 0xff ∷ ReadD ∷ []))
    (selected (Done ∷ Done ∷ Done ∷ Value 0x00 ∷ Done ∷ Value 0x01 ∷ []))
    -- through G: the error, and G as before
    ∷ from up (select 0 31 ++ (WriteD 0xff ∷ WriteD 0x10 ∷ ReadC ∷ ReadD ∷ [])) (selected (Done ∷ Done ∷ Value 0x40 ∷ Value 0x01 ∷ []))
    -- a Get through S clears what it reports, too: the bit of TP1
    ∷ from reported (select 0 30 ++ (WriteD 0xa0 ∷ WriteC 0xff ∷ ReadD ∷ WriteD 0xa0 ∷ ReadD ∷ []))
    (selected (Done ∷ Done ∷ Value 0x02 ∷ Done ∷ Value 0x00 ∷ []))
    -- the device's version
    ∷ from up (select 0 28 ++ (ReadD ∷ [])) (selected (Value 0x01 ∷ []))
    ∷ []

-- what is written to enables, and read back
unfoldable pub bits : List Row
bits =
    from up (select 2 0 ++ (WriteD 0x5a ∷ ReadD ∷ [])) (selected (Done ∷ Value 0x5a ∷ []))
    ∷ from up (select 2 1 ++ (WriteD 0xff ∷ ReadD ∷ [])) (selected (Done ∷ Value 0x80 ∷ []))
    ∷ from up (select 2 2 ++ (WriteD 0xff ∷ ReadD ∷ [])) (selected (Done ∷ Value 0xff ∷ []))
    ∷ from up (select 2 3 ++ (WriteD 0x7f ∷ ReadD ∷ [])) (selected (Done ∷ Value 0x00 ∷ []))
    ∷ from up (select 2 4 ++ (WriteD 0xff ∷ ReadD ∷ [])) (selected (Done ∷ Value 0x80 ∷ []))
    ∷ from up (select 2 6 ++ (WriteD 0xff ∷ ReadD ∷ [])) (selected (Done ∷ Value 0xff ∷ []))
    ∷ from up (select 2 7 ++ (WriteD 0xff ∷ ReadD ∷ [])) (selected (Done ∷ Value 0x80 ∷ []))
    ∷ []

-- each change bit goes by its own enable, and is cleared by a read
unfoldable pub interrupts : List Row
interrupts =
    from changed (ReadC ∷ []) (Value 0x00 ∷ [])
    ∷ from changed (select 2 0 ++ (WriteD 0x01 ∷ ReadC ∷ [])) (selected (Done ∷ Value 0x80 ∷ []))
    ∷ from changed (select 2 0 ++ (WriteD 0xfe ∷ ReadC ∷ [])) (selected (Done ∷ Value 0x00 ∷ []))
    ∷ from changed (select 2 1 ++ (WriteD 0x80 ∷ ReadC ∷ [])) (selected (Done ∷ Value 0x80 ∷ []))
    ∷ from changed (select 2 2 ++ (WriteD 0xff ∷ ReadC ∷ [])) (selected (Done ∷ Value 0x00 ∷ []))
    ∷ from changed (select 2 0 ++ (WriteD 0xff ∷ WriteC 0x01 ∷ ReadD ∷ ReadC ∷ ReadD ∷ [])) (selected (Done ∷ Done ∷ Value 0x01 ∷ Value 0x00 ∷ Value 0x00 ∷ []))
    ∷ []

-- every change register holds another byte: each read gives its own, clears it and leaves the rest; so does each enable, which no read clears
abbrev pub every_bit : Core
every_bit = with_changes up (0x11 ∷ 0x80 ∷ 0x22 ∷ 0x80 ∷ 0x80 ∷ 0 ∷ 0x66 ∷ 0x80 ∷ [])

unfoldable pub registers : List Row
registers =
    from every_bit (select 1 0 ++ (ReadD ∷ ReadD ∷ WriteC 0xe2 ∷ ReadD ∷ ReadD ∷ WriteC 0xe6 ∷ ReadD ∷ ReadD ∷ []))
    (selected (Value 0x11 ∷ Value 0x00 ∷ Done ∷ Value 0x22 ∷ Value 0x00 ∷ Done ∷ Value 0x66 ∷ Value 0x00 ∷ []))
    ∷ from every_bit (select 1 1 ++ (ReadD ∷ ReadD ∷ WriteC 0xe3 ∷ ReadD ∷ ReadD ∷ WriteC 0xe4 ∷ ReadD ∷ ReadD ∷ WriteC 0xe7 ∷ ReadD ∷ ReadD ∷ []))
    (selected (Value 0x80 ∷ Value 0x00 ∷ Done ∷ Value 0x80 ∷ Value 0x00 ∷ Done ∷ Value 0x80 ∷ Value 0x00 ∷ Done ∷ Value 0x80 ∷ Value 0x00 ∷ []))
    ∷ from up (select 2 0 ++ (WriteD 0x12 ∷ WriteC 0xe2 ∷ WriteD 0x34 ∷ WriteC 0xe0 ∷ ReadD ∷ ReadD ∷ WriteC 0xe2 ∷ ReadD ∷ []))
    (selected (Done ∷ Done ∷ Done ∷ Done ∷ Value 0x12 ∷ Value 0x12 ∷ Done ∷ Value 0x34 ∷ []))
    -- what a Get leaves in G is read as often as wanted; the C read clears the error alone
    ∷ from up (select 0 31 ++ (WriteD 0x80 ∷ ReadD ∷ ReadD ∷ ReadC ∷ ReadD ∷ [])) (selected (Done ∷ Value 0xff ∷ Value 0xff ∷ Value 0x00 ∷ Value 0xff ∷ []))
    -- a command is carried out through the wrong register too: here the link test of TP7 is switched off
    ∷ from up (select 0 31 ++ (WriteD 0x47 ∷ WriteD 0xd0 ∷ ReadD ∷ [])) (selected (Done ∷ Done ∷ Value 0x80 ∷ []))
    ∷ from up (select 0 30 ++ (WriteD 0x47 ∷ WriteD 0xd0 ∷ WriteC 0xff ∷ ReadD ∷ [])) (selected (Done ∷ Done ∷ Done ∷ Value 0x80 ∷ []))
    -- and a Set that moves a link notes it: P 1 R 2
    ∷ from up (select 0 30 ++ (WriteD 0x47 ∷ WriteC 0x01 ∷ WriteC 0xe2 ∷ ReadD ∷ [])) (selected (Done ∷ Done ∷ Done ∷ Value 0x80 ∷ []))
    -- the interface error with the interrupt, and after it
    ∷ from changed (select 2 0 ++ (WriteD 0x01 ∷ WriteC 0x00 ∷ WriteC 0xfe ∷ WriteD 0xff ∷ ReadC ∷ ReadC ∷ []))
    (selected (Done ∷ Done ∷ Done ∷ Done ∷ Value 0xc0 ∷ Value 0x80 ∷ []))
    -- at power-up P 0 R 0 is selected, which is not listed
    ∷ from up (ReadD ∷ WriteD 0x10 ∷ []) (Refused 5 ∷ Refused 5 ∷ [])
    ∷ []

-- 5, 6 and 4; a read that is turned away leaves the change bits
unfoldable pub barred : List Row
barred =
    from up (select 3 14 ++ (ReadD ∷ WriteD 0 ∷ [])) (selected (Refused 5 ∷ Refused 5 ∷ []))
    ∷ from up (select 1 5 ++ (ReadD ∷ [])) (selected (Refused 5 ∷ []))
    ∷ from up (select 0 30 ++ (ReadD ∷ WriteD 0 ∷ [])) (selected (Refused 6 ∷ Refused 4 ∷ []))
    ∷ from up (select 0 28 ++ (WriteD 0 ∷ [])) (selected (Refused 6 ∷ []))
    ∷ from up (select 1 0 ++ (WriteD 0 ∷ [])) (selected (Refused 6 ∷ []))
    ∷ from up (select 16 12 ++ (WriteD 0 ∷ [])) (selected (Refused 6 ∷ []))
    ∷ from changed (select 0 30 ++ (ReadD ∷ WriteC 0x01 ∷ WriteC 0xe0 ∷ ReadD ∷ [])) (selected (Refused 6 ∷ Done ∷ Done ∷ Value 0x01 ∷ []))
    ∷ []

-- six bytes to AUI's address, P 31 R 14, which the sixth completes
abbrev pub address : List Access
address = select 31 14 ++ (WriteD 2 ∷ WriteD 0 ∷ WriteD 0 ∷ WriteD 7 ∷ WriteD 8 ∷ WriteD 9 ∷ [])

abbrev pub completed : List (Option ℕ)
completed = replicate 7 None ++ (Some 8 ∷ [])

-- Transmit Collisions and Total Octets are far apart, and so are the counters of TP3
abbrev pub counting : Core
counting = core_up (record { transmit_collisions = 0x04030201; total_octets = 0x08070605; choices = usual })

abbrev pub counting_ports : Nine
counting_ports =
    with_port nothing_counted 3
    (record { counters = 20 ∷ 21 ∷ 22 ∷ 23 ∷ 24 ∷ 25 ∷ 26 ∷ 27 ∷ 28 ∷ 29 ∷ 30 ∷ 31 ∷ 0xff000020 ∷ []; address = 2 ∷ 0 ∷ 0 ∷ 7 ∷ 8 ∷ 9 ∷ [] })

pub record Content : Type 0 where
  pub register : Register
  pub bytes : List ℕ
  pub number : ℕ

abbrev pub holds : Register → List ℕ → ℕ → Content
holds register bytes number = record { register = register; bytes = bytes; number = number }

unfoldable pub contents : List Content
contents =
    holds reg.TransmitCollisions (0x01 ∷ 0x02 ∷ 0x03 ∷ 0x04 ∷ 0 ∷ 0 ∷ []) 0x04030201
    ∷ holds reg.TotalOctets (0x05 ∷ 0x06 ∷ 0x07 ∷ 0x08 ∷ 0 ∷ 0 ∷ []) 0x08070605
    ∷ holds (reg.Counter 3 0) (20 ∷ 0 ∷ 0 ∷ 0 ∷ 0 ∷ 0 ∷ []) 20
    ∷ holds (reg.Counter 3 11) (31 ∷ 0 ∷ 0 ∷ 0 ∷ 0 ∷ 0 ∷ []) 31
    ∷ holds (reg.Counter 3 12) (0x20 ∷ 0 ∷ 0 ∷ 0xff ∷ 0 ∷ 0 ∷ []) 0xff000020
    ∷ holds (reg.Counter 4 12) (0 ∷ 0 ∷ 0 ∷ 0 ∷ 0 ∷ 0 ∷ []) 0
    ∷ holds (reg.Address 3) (2 ∷ 0 ∷ 0 ∷ 7 ∷ 8 ∷ 9 ∷ []) 0
    ∷ []
