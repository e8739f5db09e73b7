-- Records as deeds: what each of them does, by the record and by what was selected before it. An observer who keeps the deeds, the newest first, needs nothing
-- else. No type of the chip, the repeater or the host's record occurs in this crate: `record_of`, `command_of`, the register table and numbers are all it uses.
--   Deed                == a burst with its source address; link pulses; a tick; a command byte written to G, or else to S; another use of the host's port; a
--                          reset; or a record that is turned away
--   Use                 == C writes, which select P or R; a byte written to the enables of an R, or to a port's address; a C read; a D read of a register
--   page_by, register_by  == P and R after deeds
--   deed_after past bs   == what the bytes bs are after the deeds past
--   deeds_from past rs   == the deeds past with those of the records rs, which come oldest first
--   is_reset, is_tick, command_in, pulse_mask, burst_mask, if_burst, if_use == what a deed is; a number is 0 where there is none
-- Assumes nothing.
use Rattle.std.specs.Prelude.{ℕ, ◌/◌, ◌%◌, Bool, true, false, cond, not, List, [], ◌∷◌, eqb}
use Rattle.ports.specs.declared.Quiet.TheVariants.{Pulse, Tick}
use Rattle.management.specs.declared.Command.{Command}
use Rattle.management.specs.declared.Command.TheVariants.{Set, Get, Unlisted}
use Rattle.management.specs.Commands.{command_of}
use Rattle.record.specs.declared.Burst.{Burst}
use Rattle.record.specs.declared.Access.{Access}
use Rattle.record.specs.declared.Access.TheVariants.{WriteC, WriteD, ReadC, ReadD}
use Rattle.record.specs.declared.Asked.{Asked}
use Rattle.record.specs.declared.Asked.TheVariants as ask
use Rattle.record.specs.Refusals.{record_of}
use Rattle.host.specs.declared.Register.{Register}
use Rattle.host.specs.declared.Role.{Role}
use Rattle.host.specs.declared.Role.TheVariants.{Plain, Cleared, Commands, Enables, Address}
use Rattle.host.specs.declared.Row.{Row}
use Rattle.host.specs.Map.{row_at}

-- reads has the register and its bytes
pub data Use : Type 0 where
  selects_p : ℕ → Use
  selects_r : ℕ → Use
  allows : ℕ → ℕ → Use
  addresses : ℕ → ℕ → Use
  asks : Use
  reads : Register → ℕ → Use

pub data Deed : Type 0 where
  bursts : Burst → List ℕ → Deed
  pulses : ℕ → Deed
  ticks : Deed
  commands : Bool → ℕ → Deed
  uses : Use → Deed
  resets : Deed
  refused : ℕ → Deed

-- ---- What a record is

-- the top three bits of a C write: 000 selects P, 111 selects R, and the record is turned away with any others
abbrev pub selecting : ℕ → Use
selecting b = cond (eqb (b / 32) 0b000) (selects_p (b % 32)) (selects_r (b % 32))

abbrev pub commanding : Bool → ℕ → Command → Deed
commanding through_g b (Set s) = commands through_g b
commanding through_g b (Get q) = commands through_g b
commanding through_g b Unlisted = refused 4

-- no register that is plain, or that a read clears, can be written
abbrev pub writing : Role → ℕ → Deed
writing Plain b = refused 6
writing (Cleared k) b = refused 6
writing (Commands through_g) b = commanding through_g b (command_of b)
writing (Enables k) b = uses (allows k b)
writing (Address i) b = uses (addresses i b)

-- what is not listed has no bytes
abbrev pub writing_to : Row → ℕ → Deed
writing_to row b = cond (eqb row.size 0) (refused 5) (cond (not row.writable) (refused 6) (writing row.role b))

abbrev pub reading_of : Row → Deed
reading_of row = cond (eqb row.size 0) (refused 5) (cond (not row.readable) (refused 6) (uses (reads row.register row.size)))

abbrev pub accessing : Row → Access → Deed
accessing row (WriteC b) = uses (selecting b)
accessing row (WriteD b) = writing_to row b
accessing row ReadC = uses asks
accessing row ReadD = reading_of row

unfoldable pub deed_of : Row → Asked → List ℕ → Deed
deed_of row (ask.Burst b) source = bursts b source
deed_of row (ask.Quiet (Pulse mask)) source = pulses mask
deed_of row (ask.Quiet Tick) source = ticks
deed_of row (ask.Access a) source = accessing row a
deed_of row ask.Reset source = resets
deed_of row (ask.Refused k) source = refused k

-- ---- What a deed is

abbrev pub is_reset : Deed → Bool
is_reset (bursts b source) = false
is_reset (pulses mask) = false
is_reset ticks = false
is_reset (commands through_g c) = false
is_reset (uses u) = false
is_reset resets = true
is_reset (refused k) = false

abbrev pub is_tick : Deed → Bool
is_tick (bursts b source) = false
is_tick (pulses mask) = false
is_tick ticks = true
is_tick (commands through_g c) = false
is_tick (uses u) = false
is_tick resets = false
is_tick (refused k) = false

-- no command is 0
abbrev pub command_in : Deed → ℕ
command_in (bursts b source) = 0
command_in (pulses mask) = 0
command_in ticks = 0
command_in (commands through_g c) = c
command_in (uses u) = 0
command_in resets = 0
command_in (refused k) = 0

abbrev pub is_through_g : Deed → Bool
is_through_g (bursts b source) = false
is_through_g (pulses mask) = false
is_through_g ticks = false
is_through_g (commands through_g c) = through_g
is_through_g (uses u) = false
is_through_g resets = false
is_through_g (refused k) = false

abbrev pub pulse_mask : Deed → ℕ
pulse_mask (bursts b source) = 0
pulse_mask (pulses mask) = mask
pulse_mask ticks = 0
pulse_mask (commands through_g c) = 0
pulse_mask (uses u) = 0
pulse_mask resets = 0
pulse_mask (refused k) = 0

-- f of a burst and its source address, and a of any other deed
abbrev pub if_burst : {A : Type 0} → A → (Burst → List ℕ → A) → Deed → A
if_burst a f (bursts b source) = f b source
if_burst a f (pulses mask) = a
if_burst a f ticks = a
if_burst a f (commands through_g c) = a
if_burst a f (uses u) = a
if_burst a f resets = a
if_burst a f (refused k) = a

abbrev pub burst_mask : Deed → ℕ
burst_mask d = if_burst 0 (λ b source. b.mask) d

-- f of another use of the host's port, and a of any other deed
abbrev pub if_use : {A : Type 0} → A → (Use → A) → Deed → A
if_use a f (bursts b source) = a
if_use a f (pulses mask) = a
if_use a f ticks = a
if_use a f (commands through_g c) = a
if_use a f (uses u) = f u
if_use a f resets = a
if_use a f (refused k) = a

-- ---- P and R, and the deeds of a run

abbrev pub page_used : ℕ → Use → ℕ
page_used p (selects_p n) = n
page_used p (selects_r n) = p
page_used p (allows k b) = p
page_used p (addresses i b) = p
page_used p asks = p
page_used p (reads register size) = p

abbrev pub register_used : ℕ → Use → ℕ
register_used r (selects_p n) = r
register_used r (selects_r n) = n
register_used r (allows k b) = r
register_used r (addresses i b) = r
register_used r asks = r
register_used r (reads register size) = r

unfoldable pub page_by : List Deed → ℕ
page_by [] = 0
page_by (d ∷ past) = cond (is_reset d) 0 (if_use (page_by past) (page_used (page_by past)) d)

unfoldable pub register_by : List Deed → ℕ
register_by [] = 0
register_by (d ∷ past) = cond (is_reset d) 0 (if_use (register_by past) (register_used (register_by past)) d)

unfoldable pub deed_after : List Deed → List ℕ → Deed
deed_after past bs = deed_of (row_at (page_by past) (register_by past)) (record_of bs).asked (record_of bs).source

unfoldable pub deeds_from : List Deed → List (List ℕ) → List Deed
deeds_from past [] = past
deeds_from past (bs ∷ rs) = deeds_from (deed_after past bs ∷ past) rs
