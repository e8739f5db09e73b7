-- Document 01, 'Boundary sheet', the rows that the repeater decides by itself, and 'Shortcuts that look right', as tables. A row is a list of inputs
-- from power-up, a port, and how that port is to stand after them: connected with a count or partitioned, and whether its link passes.
-- proofs/Sheet.antt computes every row.
--   pulse m, tick == link pulses, and a tick, as inputs
--   active m d x  == a burst (activity_of of burst/specs/Scenes) as an input: mask, duration and length of the collision, with neither flag
--   mistimed m d  == one with rate error and no collision
--   passing       == four link pulses: the links of TP0, TP1 and TP2 pass
--   Row, found    == a row of a table; how its port stands
--   sheet         == the boundary sheet: reconnecting, the collision's length, the number of collisions, ticks
--   fragments     == Q-2: which clean bursts zero a count
--   shortcuts     == a partitioned port is sent to, and jam is not clean
--   links         == the link rules and the Sets at their boundaries
--   Scene, scenes == a burst after some inputs, and the word, the ports sent to and the ports that collide: every case of 'Burst'
--   Order, orders == bursts after some inputs: T and H, which are those from before the burst; and after it, the TP ports whose link passes and the
--                    partitioned ports
--   story, told   == inputs of every kind, and the events that they are to TP0
-- Assumes nothing.
use Rattle.std.specs.Prelude.{ℕ, Bool, true, false, Option, Some, None, List, [], ◌∷◌, ◌++◌, replicate}
use Rattle.ports.specs.declared.Quiet.TheVariants.{Pulse, Tick}
use Rattle.ports.specs.Sets.{aui}
use Rattle.burst.specs.declared.Activity.{Activity}
use Rattle.burst.specs.declared.Word.{Word}
use Rattle.burst.specs.declared.Word.TheVariants.{Nil, Rep, Jam}
use Rattle.burst.specs.declared.Effect.{Effect}
use Rattle.burst.specs.Scenes.{activity_of}
use Rattle.management.specs.declared.Setting.TheVariants.{AlternateTp, DisableAui, DisableTp, EnableTp, LinkTestOff, LinkTestOn}
use Rattle.history.specs.History.{Event, collided, clean, neither, cleared, Standing, connected, partitioned}
use Rattle.repeater.specs.declared.Repeater.{Repeater}
use Rattle.repeater.specs.Door.{port_at}
use Rattle.repeater.specs.Reset.{power_up}
use Rattle.repeater.specs.declared.Bursted.{Bursted}
use Rattle.repeater.specs.Repeater.{burst_of, partitioned_of, linked_of}
use Rattle.repeater.specs.Events.{standing_at, Input, burst, quiet, setting, reset, after_inputs}

abbrev pub pulse : ℕ → Input
pulse mask = quiet (Pulse mask)

abbrev pub tick : Input
tick = quiet Tick

abbrev pub active : ℕ → ℕ → ℕ → Input
active mask d x = burst (activity_of mask false false d x)

abbrev pub mistimed : ℕ → ℕ → Input
mistimed mask d = burst (activity_of mask true false d 0)

abbrev pub passing : List Input
passing = replicate 4 (pulse 0b111)

-- TP0 and TP1 collide for x bit times
abbrev pub collision : ℕ → Input
collision x = active 0b011 2000 x

-- and are partitioned by one long collision
abbrev pub parted : List Input
parted = passing ++ (collision 1025 ∷ [])

pub record Seen : Type 0 where
  pub standing : Standing
  pub passes : Bool

pub record Row : Type 0 where
  pub inputs : List Input
  pub place : ℕ
  pub wanted : Seen

abbrev pub row : List Input → ℕ → Standing → Bool → Row
row inputs i standing passes = record { inputs = inputs; place = i; wanted = record { standing = standing; passes = passes } }

abbrev pub found : Row → Seen
found line =
    let r : Repeater = after_inputs power_up line.inputs in
    record { standing = standing_at r line.place; passes = (port_at r line.place).link_pass }

abbrev pub sheet : List Row
sheet =
    row (parted ++ (active 0b001 512 0 ∷ [])) 0 partitioned true
    ∷ row (parted ++ (active 0b001 513 0 ∷ [])) 0 (connected 0) true
    ∷ row (parted ++ (active 0b100 512 0 ∷ [])) 0 partitioned true
    ∷ row (parted ++ (active 0b100 513 0 ∷ [])) 0 (connected 0) true
    ∷ row (passing ++ (collision 1024 ∷ [])) 0 (connected 1) true
    ∷ row (passing ++ (collision 1025 ∷ [])) 0 partitioned true
    ∷ row (passing ++ replicate 31 (collision 300)) 0 (connected 31) true
    ∷ row (passing ++ replicate 32 (collision 300)) 0 partitioned true
    ∷ row (passing ++ replicate 99 tick) 0 (connected 0) true
    ∷ row (passing ++ replicate 100 tick) 0 (connected 0) false
    ∷ []

-- 31 collisions, and then a burst that is clean for TP0: of 512 bit times it leaves the count, sent (AUI) or received (TP0), and one collision more
-- partitions; of 513 it zeroes the count, by the alternate algorithm too and whether data was sent to the port or it was only active. Short ones may
-- stand anywhere among the 32. The last row has a partition in front of them
abbrev pub counted : List Input
counted = passing ++ replicate 31 (collision 300)

abbrev pub fragments : List Row
fragments =
    row (counted ++ (active 0b100000000 512 0 ∷ [])) 0 (connected 31) true
    ∷ row (counted ++ (active 0b100000000 512 0 ∷ collision 300 ∷ [])) 0 partitioned true
    ∷ row (counted ++ (active 0b100000000 513 0 ∷ [])) 0 (connected 0) true
    ∷ row (counted ++ (active 0b100000000 513 0 ∷ collision 300 ∷ [])) 0 (connected 1) true
    ∷ row (counted ++ (active 0b001 512 0 ∷ [])) 0 (connected 31) true
    ∷ row (counted ++ (active 0b001 512 0 ∷ collision 300 ∷ [])) 0 partitioned true
    ∷ row (counted ++ (active 0b001 513 0 ∷ collision 300 ∷ [])) 0 (connected 1) true
    ∷ row (setting AlternateTp ∷ counted ++ (active 0b001 512 0 ∷ collision 300 ∷ [])) 0 partitioned true
    ∷ row (setting AlternateTp ∷ counted ++ (active 0b001 513 0 ∷ collision 300 ∷ [])) 0 (connected 1) true
    ∷ row (setting AlternateTp ∷ counted ++ (active 0b001 513 0 ∷ collision 300 ∷ [])) 1 (connected 1) true
    ∷ row (passing ++ replicate 16 (collision 300) ++ (active 0b100 512 0 ∷ active 0b001 1 0 ∷ replicate 16 (collision 300))) 0 partitioned true
    ∷ row (passing ++ replicate 16 (collision 300) ++ (active 0b100 513 0 ∷ replicate 31 (collision 300))) 0 (connected 31) true
    ∷ row (parted ++ (active 0b100 512 0 ∷ active 0b100 513 0 ∷ replicate 31 (collision 300) ++ (active 0b001 512 0 ∷ []))) 0 (connected 31) true
    ∷ []

-- TP0 is partitioned and goes by the alternate algorithm: its own activity does not reconnect it, and data sent to it does. After 31 collisions TP2, or
-- TP0 itself, is heard alone with a rate error: jam goes out, the count stays, and one more collision partitions
abbrev pub shortcuts : List Row
shortcuts =
    row (setting AlternateTp ∷ parted ++ (active 0b001 2000 0 ∷ [])) 0 partitioned true
    ∷ row (setting AlternateTp ∷ parted ++ (active 0b100 2000 0 ∷ [])) 0 (connected 0) true
    ∷ row (passing ++ replicate 31 (collision 300) ++ (mistimed 0b100 2000 ∷ [])) 0 (connected 31) true
    ∷ row (passing ++ replicate 31 (collision 300) ++ (mistimed 0b100 2000 ∷ collision 300 ∷ [])) 0 partitioned true
    ∷ row (passing ++ replicate 31 (collision 300) ++ (mistimed 0b001 2000 ∷ [])) 0 (connected 31) true
    ∷ row (passing ++ replicate 31 (collision 300) ++ (mistimed 0b001 2000 ∷ collision 300 ∷ [])) 0 partitioned true
    ∷ []

-- 'Link (TP)' and the Sets that reach it: three pulses or four, a pulse and activity zero idle, a hundred silent ticks clear the pulses; failure
-- neither reconnects nor zeroes the count; without link test no tick fails, and it starts at pass; enabling fails the link, disabling connects, and
-- neither does what is done already; while it is disabled a hundred ticks fail the link, and four pulses or activity bring it back; a burst while the
-- link fails, so that the port is not in T, leaves count and partition
abbrev pub links : List Row
links =
    row (replicate 3 (pulse 1)) 0 (connected 0) false
    ∷ row (replicate 4 (pulse 1)) 0 (connected 0) true
    ∷ row (replicate 3 (pulse 1) ++ replicate 100 tick ++ (pulse 1 ∷ [])) 0 (connected 0) false
    ∷ row (active 1 100 0 ∷ []) 0 (connected 0) true
    ∷ row (passing ++ replicate 50 tick ++ (pulse 1 ∷ replicate 99 tick)) 0 (connected 0) true
    ∷ row (passing ++ replicate 50 tick ++ (active 1 100 0 ∷ replicate 99 tick)) 0 (connected 0) true
    ∷ row (parted ++ replicate 100 tick) 0 partitioned false
    ∷ row (parted ++ replicate 100 tick ++ passing) 0 partitioned true
    ∷ row (passing ++ replicate 31 (collision 300) ++ replicate 100 tick) 0 (connected 31) false
    ∷ row (setting (LinkTestOff 0) ∷ replicate 100 tick) 0 (connected 0) true
    ∷ row (setting (LinkTestOff 0) ∷ setting (LinkTestOn 0) ∷ replicate 99 tick) 0 (connected 0) true
    ∷ row (setting (LinkTestOff 0) ∷ setting (LinkTestOn 0) ∷ replicate 100 tick) 0 (connected 0) false
    ∷ row (passing ++ (setting (DisableTp 0) ∷ [])) 0 (connected 0) true
    ∷ row (passing ++ (setting (DisableTp 0) ∷ setting (EnableTp 0) ∷ [])) 0 (connected 0) false
    ∷ row (passing ++ (setting (EnableTp 0) ∷ [])) 0 (connected 0) true
    ∷ row (parted ++ (setting (DisableTp 0) ∷ [])) 0 (connected 0) true
    ∷ row (passing ++ (setting (DisableTp 0) ∷ replicate 99 tick)) 0 (connected 0) true
    ∷ row (passing ++ (setting (DisableTp 0) ∷ replicate 100 tick)) 0 (connected 0) false
    ∷ row (passing ++ (setting (DisableTp 0) ∷ replicate 100 tick ++ replicate 3 (pulse 1))) 0 (connected 0) false
    ∷ row (passing ++ (setting (DisableTp 0) ∷ replicate 100 tick ++ replicate 4 (pulse 1))) 0 (connected 0) true
    ∷ row (passing ++ (setting (DisableTp 0) ∷ replicate 100 tick ++ (active 1 100 0 ∷ []))) 0 (connected 0) true
    ∷ row (passing ++ replicate 31 (collision 300) ++ replicate 100 tick ++ (active 1 2000 0 ∷ [])) 0 (connected 31) true
    ∷ row (parted ++ replicate 100 tick ++ (active 1 2000 0 ∷ [])) 0 partitioned true
    ∷ row (replicate 100 tick) 8 (connected 0) true
    ∷ []

pub record Scene : Type 0 where
  pub inputs : List Input
  pub last : Activity
  pub wanted : Effect

abbrev pub scene : List Input → Activity → Word → ℕ → ℕ → Option ℕ → Bool → Bool → Scene
scene inputs last word out colliding single collision transmitted = record {
  inputs = inputs;
  last = last;
  wanted = record { word = word; out = out; collided = colliding; single = single; collision = collision; transmit_collision = transmitted };
}

abbrev pub followed_by : Scene → Effect
followed_by w = (burst_of (after_inputs power_up w.inputs) w.last).effect

-- TP0, TP1 and AUI are partitioned by one long collision
abbrev pub aui_parted : List Input
aui_parted = passing ++ (active 0b100000011 2000 1025 ∷ [])

-- T is TP0, TP1, TP2 and AUI, but for the last. In order: one heard; none, as the link of TP3 fails; two; TP3 active beside them, which is not in T; a
-- rate error; AUI; AUI with its signal, and by the signal alone; TP0 and TP1 partitioned and active, which is no reason to jam, and TP0 beside TP2; AUI
-- partitioned: its signal beside TP2 leaves the word, and alone it collides; AUI disabled: nothing
abbrev pub scenes : List Scene
scenes =
    scene passing (activity_of 0b000000001 false false 2000 0) Rep 0b100000110 0b000000000 (Some 0) false false
    ∷ scene passing (activity_of 0b000001000 false false 2000 0) Nil 0b000000000 0b000000000 None false false
    ∷ scene passing (activity_of 0b000000011 false false 2000 300) Jam 0b100000111 0b000000011 None true true
    ∷ scene passing (activity_of 0b000001011 false false 2000 300) Jam 0b100000111 0b000000011 None true true
    ∷ scene passing (activity_of 0b000000001 true false 2000 0) Jam 0b100000110 0b000000000 (Some 0) false false
    ∷ scene passing (activity_of 0b100000000 false false 2000 0) Rep 0b000000111 0b000000000 (Some aui) false false
    ∷ scene passing (activity_of 0b100000000 false true 2000 300) Jam 0b000000111 0b100000000 (Some aui) true false
    ∷ scene passing (activity_of 0b000000000 false true 2000 300) Jam 0b000000111 0b100000000 (Some aui) true false
    ∷ scene parted (activity_of 0b000000011 false false 2000 300) Nil 0b000000000 0b000000000 None false false
    ∷ scene parted (activity_of 0b000000101 false false 2000 300) Rep 0b100000011 0b000000001 (Some 2) false false
    ∷ scene aui_parted (activity_of 0b000000100 false true 2000 300) Rep 0b100000011 0b100000000 (Some 2) false false
    ∷ scene aui_parted (activity_of 0b000000000 false true 2000 300) Nil 0b000000000 0b100000000 None false false
    ∷ scene (passing ++ (setting DisableAui ∷ [])) (activity_of 0b000000000 false true 2000 300) Nil 0b000000000 0b000000000 None false false
    ∷ []

pub record Order : Type 0 where
  pub inputs : List Input
  pub last : Activity
  pub wanted : List ℕ

abbrev pub order : List Input → Activity → ℕ → ℕ → ℕ → ℕ → Order
order inputs last t h linked parts = record { inputs = inputs; last = last; wanted = t ∷ h ∷ linked ∷ parts ∷ [] }

abbrev pub ordered : Order → List ℕ
ordered w =
    let b : Bursted = burst_of (after_inputs power_up w.inputs) w.last in
    b.hearing.t ∷ b.hearing.h ∷ linked_of b.repeater ∷ partitioned_of b.repeater ∷ []

-- TP3 is active while its link fails: that burst brings the link and does not hear TP3, and the next one does. TP0 and TP1 are heard in the collision that
-- partitions them. Partitioned and active together they are not heard in the burst that connects them again; TP2 alone connects both; TP1 beside TP2 collides,
-- and stays partitioned
abbrev pub orders : List Order
orders =
    order passing (activity_of 0b000001000 false false 2000 0) 0b100000111 0b000000000 0b00001111 0b000000000
    ∷ order (passing ++ (active 0b000001000 2000 0 ∷ [])) (activity_of 0b000001000 false false 2000 0) 0b100001111 0b000001000 0b00001111 0b000000000
    ∷ order passing (activity_of 0b000000011 false false 2000 1025) 0b100000111 0b000000011 0b00000111 0b000000011
    ∷ order parted (activity_of 0b000000011 false false 2000 1025) 0b100000111 0b000000000 0b00000111 0b000000000
    ∷ order parted (activity_of 0b000000100 false false 2000 0) 0b100000111 0b000000100 0b00000111 0b000000000
    ∷ order parted (activity_of 0b000000110 false false 2000 300) 0b100000111 0b000000100 0b00000111 0b000000010
    ∷ []

-- one input of each kind that matters to a port's history, and what each is to TP0: after the link pulses it collides, is heard alone for 512 bit times
-- and for longer, also by the alternate algorithm, which would not reconnect it; it is sent jam, is disabled, is disabled once more, is active while it is
-- disabled, and is reset
abbrev pub story : List Input
story =
    passing
    ++ (collision 300 ∷ active 0b001 512 0 ∷ active 0b001 2000 0 ∷ setting AlternateTp ∷ active 0b001 2000 0 ∷ [])
    ++ (mistimed 0b100 2000 ∷ setting (DisableTp 0) ∷ setting (DisableTp 0) ∷ collision 300 ∷ reset ∷ [])

abbrev pub told : List Event
told =
    replicate 4 neither
    ++ (collided 300 ∷ neither ∷ clean true ∷ neither ∷ clean false ∷ [])
    ++ (neither ∷ cleared ∷ neither ∷ neither ∷ cleared ∷ [])
