-- How nine ports are kept, as tables: ports put and found again, masks with every bit set, AUI's bits in the sets that have none for it, power-up, and what is
-- done to all ports at their boundaries. proofs/Sheet.antt computes every row.
--   keeping e t p c row        == nine places with these masks and this row at each; with_aui row r == with the row r at AUI's place
--   Put, puts, taken           == a port with nothing set put at a place where every bit is set, and a port with everything set put at a place where none is:
--                                 each mask then, and what is counted as idle at the first ten places
--   some, differing, with_some  == a port with some bits set, masks that differ, and these with that port at TP3
--   up                         == the ports at power-up: all enabled, links tested and failing but for AUI, which is not tested and passes
--   Move, moves                == what is done to all ports, and how they are kept then
-- Assumes nothing.
use Rattle.std.specs.Prelude.{ℕ, true, false, List, [], ◌∷◌, map, set, replicate}
use Rattle.ports.specs.Sets.{aui, port_count}
use Rattle.port.specs.declared.Port.{Port}
use Rattle.port.specs.Port.{no_port}
use Rattle.port.specs.Link.{ticked_at, pulsed_at, revived_at}
use Rattle.store.specs.declared.Row.{Row}
use Rattle.store.specs.declared.Ports.{Ports}
use Rattle.store.specs.declared.Meetings.{Meetings}
use Rattle.store.specs.Door.{port_in, put_in, each_in, nobody_in, met_in}

abbrev pub row : ℕ → ℕ → ℕ → Row
row idle pulses count = record { idle = idle; pulses = pulses; count = count }

abbrev pub keeping : ℕ → ℕ → ℕ → ℕ → Row → Ports
keeping e t p c r = record { enabled = e; tested = t; passing = p; partitioned = c; rows = replicate port_count r }

abbrev pub with_aui : Row → Ports → Ports
with_aui r s = record { enabled = s.enabled; tested = s.tested; passing = s.passing; partitioned = s.partitioned; rows = set s.rows aui r }

abbrev pub up : Ports
up = keeping 511 255 256 0 (row 0 0 0)

-- ONE PORT

abbrev pub everything : Port
everything = record { enabled = true; link_test = true; link_pass = true; idle = 200; pulses = 201; partitioned = true; count = 202 }

pub record Put : Type 0 where
  pub place : ℕ
  pub mask : ℕ
  pub idle : List ℕ

abbrev pub put : ℕ → ℕ → List ℕ → Put
put place mask idle = record { place = place; mask = mask; idle = idle }

abbrev pub places : List ℕ
places = 0 ∷ 1 ∷ 2 ∷ 3 ∷ 4 ∷ 5 ∷ 6 ∷ 7 ∷ 8 ∷ 9 ∷ []

-- the four masks, and the idles
abbrev pub seen : Ports → List ℕ
seen s = s.enabled ∷ s.tested ∷ s.passing ∷ s.partitioned ∷ map (λ i. (port_in s i).idle) places

abbrev pub wanted : Put → List ℕ
wanted w = w.mask ∷ w.mask ∷ w.mask ∷ w.mask ∷ w.idle

abbrev pub taken : Put → List ℕ
taken w = seen (put_in w.place no_port (keeping 65535 65535 65535 65535 (row 200 201 202)))

abbrev pub given : Put → List ℕ
given w = seen (put_in w.place everything nobody_in)

-- a place that is no place changes nothing
abbrev pub puts : List Put
puts =
    put 0 65534 (0 ∷ 200 ∷ 200 ∷ 200 ∷ 200 ∷ 200 ∷ 200 ∷ 200 ∷ 200 ∷ 0 ∷ [])
    ∷ put 1 65533 (200 ∷ 0 ∷ 200 ∷ 200 ∷ 200 ∷ 200 ∷ 200 ∷ 200 ∷ 200 ∷ 0 ∷ [])
    ∷ put 2 65531 (200 ∷ 200 ∷ 0 ∷ 200 ∷ 200 ∷ 200 ∷ 200 ∷ 200 ∷ 200 ∷ 0 ∷ [])
    ∷ put 3 65527 (200 ∷ 200 ∷ 200 ∷ 0 ∷ 200 ∷ 200 ∷ 200 ∷ 200 ∷ 200 ∷ 0 ∷ [])
    ∷ put 4 65519 (200 ∷ 200 ∷ 200 ∷ 200 ∷ 0 ∷ 200 ∷ 200 ∷ 200 ∷ 200 ∷ 0 ∷ [])
    ∷ put 5 65503 (200 ∷ 200 ∷ 200 ∷ 200 ∷ 200 ∷ 0 ∷ 200 ∷ 200 ∷ 200 ∷ 0 ∷ [])
    ∷ put 6 65471 (200 ∷ 200 ∷ 200 ∷ 200 ∷ 200 ∷ 200 ∷ 0 ∷ 200 ∷ 200 ∷ 0 ∷ [])
    ∷ put 7 65407 (200 ∷ 200 ∷ 200 ∷ 200 ∷ 200 ∷ 200 ∷ 200 ∷ 0 ∷ 200 ∷ 0 ∷ [])
    ∷ put 8 65279 (200 ∷ 200 ∷ 200 ∷ 200 ∷ 200 ∷ 200 ∷ 200 ∷ 200 ∷ 0 ∷ 0 ∷ [])
    ∷ put 9 65535 (200 ∷ 200 ∷ 200 ∷ 200 ∷ 200 ∷ 200 ∷ 200 ∷ 200 ∷ 200 ∷ 0 ∷ [])
    ∷ []

abbrev pub gives : List Put
gives =
    put 0 1 (200 ∷ 0 ∷ 0 ∷ 0 ∷ 0 ∷ 0 ∷ 0 ∷ 0 ∷ 0 ∷ 0 ∷ [])
    ∷ put 1 2 (0 ∷ 200 ∷ 0 ∷ 0 ∷ 0 ∷ 0 ∷ 0 ∷ 0 ∷ 0 ∷ 0 ∷ [])
    ∷ put 2 4 (0 ∷ 0 ∷ 200 ∷ 0 ∷ 0 ∷ 0 ∷ 0 ∷ 0 ∷ 0 ∷ 0 ∷ [])
    ∷ put 3 8 (0 ∷ 0 ∷ 0 ∷ 200 ∷ 0 ∷ 0 ∷ 0 ∷ 0 ∷ 0 ∷ 0 ∷ [])
    ∷ put 4 16 (0 ∷ 0 ∷ 0 ∷ 0 ∷ 200 ∷ 0 ∷ 0 ∷ 0 ∷ 0 ∷ 0 ∷ [])
    ∷ put 5 32 (0 ∷ 0 ∷ 0 ∷ 0 ∷ 0 ∷ 200 ∷ 0 ∷ 0 ∷ 0 ∷ 0 ∷ [])
    ∷ put 6 64 (0 ∷ 0 ∷ 0 ∷ 0 ∷ 0 ∷ 0 ∷ 200 ∷ 0 ∷ 0 ∷ 0 ∷ [])
    ∷ put 7 128 (0 ∷ 0 ∷ 0 ∷ 0 ∷ 0 ∷ 0 ∷ 0 ∷ 200 ∷ 0 ∷ 0 ∷ [])
    ∷ put 8 256 (0 ∷ 0 ∷ 0 ∷ 0 ∷ 0 ∷ 0 ∷ 0 ∷ 0 ∷ 200 ∷ 0 ∷ [])
    ∷ put 9 0 (0 ∷ 0 ∷ 0 ∷ 0 ∷ 0 ∷ 0 ∷ 0 ∷ 0 ∷ 0 ∷ 0 ∷ [])
    ∷ []

-- a port with some of them, among masks that differ
abbrev pub some : Port
some = record { enabled = true; link_test = false; link_pass = true; idle = 1; pulses = 2; partitioned = false; count = 3 }

abbrev pub differing : Ports
differing = keeping 0 65535 1 65534 (row 7 8 9)

abbrev pub with_some : Ports
with_some = record { enabled = 8; tested = 65527; passing = 9; partitioned = 65526; rows = set (replicate port_count (row 7 8 9)) 3 (row 1 2 3) }

-- ALL PORTS

pub data Doing : Type 0 where
  ticks : Doing
  pulses : ℕ → Doing
  revives : ℕ → Doing
  meets : Meetings → Doing

abbrev pub done : Doing → Ports → Ports
done ticks s = each_in ticked_at s
done (pulses mask) s = each_in (pulsed_at mask) s
done (revives mask) s = each_in (revived_at mask) s
done (meets b) s = each_in (met_in b) s

-- T, who collides, whom it is clean for, who is connected again, and how long the collision was
abbrev pub met : ℕ → ℕ → ℕ → ℕ → ℕ → Doing
met t collided clean back x = meets (record { t = t; collided = collided; clean = clean; back = back; x = x })

pub record Move : Type 0 where
  pub before : Ports
  pub doing : Doing
  pub after : Ports

abbrev pub move : Ports → Doing → Ports → Move
move before doing after = record { before = before; doing = doing; after = after }

abbrev pub moves : List Move
moves =
    -- the hundredth tick fails the links of the TP ports; AUI has none, whatever its bits say, and no bit above the ports' moves
    move (keeping 65535 65535 65535 65535 (row 99 2 5)) ticks (with_aui (row 99 2 5) (keeping 65535 65535 65280 65535 (row 0 0 5)))
    ∷ move (keeping 65535 65535 65535 65535 (row 98 2 5)) ticks (with_aui (row 98 2 5) (keeping 65535 65535 65535 65535 (row 99 2 5)))
    ∷ move (keeping 65535 65280 65535 65535 (row 99 2 5)) ticks (keeping 65535 65280 65535 65535 (row 99 2 5))
    -- a byte that no port comes to
    ∷ move (keeping 0 255 255 0 (row 255 255 255)) ticks (with_aui (row 255 255 255) (keeping 0 255 0 0 (row 0 0 255)))
    -- the fourth pulse brings the link back; in pass a pulse zeroes idle alone; AUI's bit of the mask and of the sets does nothing
    ∷ move (keeping 65535 65535 65280 65535 (row 57 3 5)) (pulses 65535) (with_aui (row 57 3 5) (keeping 65535 65535 65535 65535 (row 0 0 5)))
    ∷ move (keeping 65535 65535 0 65535 (row 57 2 5)) (pulses 65535) (with_aui (row 57 2 5) (keeping 65535 65535 0 65535 (row 0 3 5)))
    ∷ move (keeping 65535 65535 65535 65535 (row 57 3 5)) (pulses 65535) (with_aui (row 57 3 5) (keeping 65535 65535 65535 65535 (row 0 3 5)))
    ∷ move (keeping 0 65535 0 0 (row 57 3 5)) (pulses 65280) (keeping 0 65535 0 0 (row 57 3 5))
    -- activity
    ∷ move (keeping 65535 65535 0 65535 (row 57 3 5)) (revives 65535) (with_aui (row 57 3 5) (keeping 65535 65535 255 65535 (row 0 0 5)))
    ∷ move (keeping 0 65280 0 0 (row 57 3 5)) (revives 65535) (keeping 0 65280 0 0 (row 57 3 5))
    -- the 32nd collision partitions, all nine at once; the 31st is counted; one of more than 1024 bit times partitions
    ∷ move (keeping 65535 65535 65535 0 (row 1 2 31)) (met 65535 65535 0 0 300) (keeping 65535 65535 65535 511 (row 1 2 0))
    ∷ move (keeping 65535 65535 65535 0 (row 1 2 30)) (met 65535 65535 0 0 300) (keeping 65535 65535 65535 0 (row 1 2 31))
    ∷ move (keeping 65535 65535 65535 0 (row 1 2 0)) (met 65535 65535 0 0 1024) (keeping 65535 65535 65535 0 (row 1 2 1))
    ∷ move (keeping 65535 65535 65535 0 (row 1 2 0)) (met 65535 65535 0 0 1025) (keeping 65535 65535 65535 511 (row 1 2 0))
    -- a clean burst zeroes the count; AUI alone collides beside it
    ∷ move (keeping 511 511 511 0 (row 1 2 5)) (met 511 256 511 0 300) (with_aui (row 1 2 6) (keeping 511 511 511 0 (row 1 2 0)))
    -- partitioned ports are connected again, and those above the ports' bits stay
    ∷ move (keeping 511 511 511 65535 (row 1 2 0)) (met 65535 0 0 65535 0) (keeping 511 511 511 65024 (row 1 2 0))
    ∷ move (keeping 511 511 511 65535 (row 1 2 7)) (met 65535 65535 65535 0 1025) (keeping 511 511 511 65535 (row 1 2 7))
    -- outside T nothing happens
    ∷ move (keeping 511 511 511 0 (row 1 2 31)) (met 256 511 0 0 300) (with_aui (row 1 2 0) (keeping 511 511 511 256 (row 1 2 31)))
    -- what a port is by this burst is not seen by this burst: partitioned, and not connected again by it; connected again, and not counted
    ∷ move (keeping 511 511 511 0 (row 1 2 3)) (met 511 511 0 511 1025) (keeping 511 511 511 511 (row 1 2 0))
    ∷ move (keeping 511 511 511 511 (row 1 2 0)) (met 511 511 511 511 300) (keeping 511 511 511 0 (row 1 2 0))
    ∷ []
