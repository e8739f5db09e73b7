-- Document 01, 'Burst', the paragraph on credits, case by case: a burst as the repeater met it, and what one port's counters and address are after it.
-- proofs/Sheet.antt computes every row.
--   burst d n k c, bad, mistimed == a burst: bit times, octets, dribble bits, start of the collision; the same with a bad FCS, with a rate error
--   alone p, several m, signalled == met as: port p heard alone; the ports m heard, two or more; AUI alone with its collision signal
--   home, away, nearby       == addresses; every port starts with the first, and the last differs from it in one byte
--   Row, found               == a row: how it was met, the burst, its source, a port, its thirteen counters in the paper's order from 0 on, its address then;
--                               and the octets for Total Octets and the ports with another address. found is what the definitions make of it
--   classes, limits, collided, others == the tables: the six classes; the short event limit; collisions; very long, mistimed, partitioned and changed
-- Assumes nothing.
use Rattle.std.specs.Prelude.{ℕ, ◌^◌, Bool, true, false, Option, Some, None, List, [], ◌∷◌, replicate, slice_set}
use Rattle.record.specs.declared.Burst.{Burst}
use Rattle.attributes.specs.declared.Attributes.{Attributes}
use Rattle.attributes.specs.declared.Nine.{Nine}
use Rattle.attributes.specs.declared.Met.{Met}
use Rattle.attributes.specs.declared.Due.{Due}
use Rattle.attributes.specs.Nine.{all_alike, port_of}
use Rattle.attributes.specs.Credits.{due_of, credited_all}

abbrev pub flagged : Bool → Bool → ℕ → ℕ → ℕ → ℕ → Burst
flagged fcs rate d n k c = record {
  mask = 0;
  fcs_bad = fcs;
  rate_error = rate;
  collision_signal = false;
  loopback_missing = false;
  sqe_test = false;
  d = d;
  n = n;
  k = k;
  c = c;
  x = 0;
}

abbrev pub burst : ℕ → ℕ → ℕ → ℕ → Burst
burst = flagged false false

abbrev pub bad : ℕ → ℕ → ℕ → ℕ → Burst
bad = flagged true false

abbrev pub mistimed : ℕ → ℕ → ℕ → ℕ → Burst
mistimed = flagged false true

abbrev pub met_with : ℕ → ℕ → Option ℕ → Bool → ℕ → Met
met_with limit heard single collision cut = record { heard = heard; single = single; collision = collision; cut = cut; limit = limit }

-- with the usual limit
abbrev pub met : ℕ → Option ℕ → Bool → ℕ → Met
met = met_with 78

abbrev pub alone : ℕ → Met
alone p = met (2 ^ p) (Some p) false 0

abbrev pub several : ℕ → Met
several heard = met heard None true 0

abbrev pub signalled : Met
signalled = met 0b100000000 (Some 8) true 0

abbrev pub home : List ℕ
home = 2 ∷ 0 ∷ 0 ∷ 0 ∷ 0 ∷ 1 ∷ []

abbrev pub away : List ℕ
away = 2 ∷ 7 ∷ 6 ∷ 5 ∷ 4 ∷ 3 ∷ []

abbrev pub nearby : List ℕ
nearby = 2 ∷ 0 ∷ 0 ∷ 0 ∷ 0 ∷ 0 ∷ []

-- what is to be found of a port after a burst
pub record After : Type 0 where
  pub counters : List ℕ
  pub address : List ℕ
  pub octets : ℕ
  pub changed : ℕ

pub record Row : Type 0 where
  pub start : ℕ
  pub met : Met
  pub burst : Burst
  pub source : List ℕ
  pub port : ℕ
  pub wanted : After

abbrev pub counted : ℕ → Met → Burst → List ℕ → ℕ → List ℕ → List ℕ → ℕ → ℕ → Row
counted start m b source port counters address octets changed = record {
  start = start;
  met = m;
  burst = b;
  source = source;
  port = port;
  wanted = record { counters = counters; address = address; octets = octets; changed = changed };
}

-- a burst from home, which changes no address and adds no octets
abbrev pub row : Met → Burst → ℕ → List ℕ → Row
row m b port counters = counted 0 m b home port counters home 0 0

-- every counter at one number, and every port's address is home
abbrev pub homes : ℕ → Nine
homes v = all_alike (record { counters = replicate 13 v; address = home })

abbrev pub found : Row → After
found w =
    let due : Due = due_of (homes w.start) w.met w.burst w.source in
    let port : Attributes = port_of (credited_all due w.burst w.source (homes w.start)) w.port in
    record { counters = port.counters; address = port.address; octets = due.octets; changed = due.changed }

-- thirteen counters: 1 in these registers
abbrev pub ones : List ℕ → List ℕ
ones [] = replicate 13 0
ones (r ∷ rs) = slice_set (ones rs) r 1

-- a frame of n octets
abbrev pub framed : ℕ → List ℕ
framed n = 1 ∷ n ∷ replicate 11 0

-- one class each: Short Events in R 5, Runts in 6, Too Long in 4, Alignment in 3, FCS in 2, else Readable Frames in 0 and Octets in 1; the first that fits
abbrev pub classes : List Row
classes =
    row (alone 0) (burst 77 9 0 0) 0 (ones (5 ∷ []))
    ∷ row (alone 0) (burst 78 9 0 0) 0 (ones (6 ∷ []))
    ∷ row (alone 0) (burst 13000 63 0 0) 0 (ones (6 ∷ []))
    ∷ counted 0 (alone 0) (burst 13000 64 0 0) home 0 (framed 64) home 64 0
    ∷ counted 0 (alone 0) (burst 13000 1518 0 0) home 0 (framed 1518) home 1518 0
    ∷ row (alone 0) (burst 13000 1519 0 0) 0 (ones (4 ∷ []))
    ∷ row (alone 0) (bad 13000 64 0 0) 0 (ones (2 ∷ []))
    ∷ row (alone 0) (bad 13000 64 1 0) 0 (ones (3 ∷ []))
    ∷ counted 0 (alone 0) (burst 13000 64 3 0) home 0 (framed 64) home 64 0
    -- the upper ones win
    ∷ row (alone 0) (bad 77 9 3 0) 0 (ones (5 ∷ []))
    ∷ row (alone 0) (bad 13000 63 3 0) 0 (ones (6 ∷ []))
    ∷ row (alone 0) (bad 13000 1519 3 0) 0 (ones (4 ∷ []))
    -- at AUI; and nothing at a port beside
    ∷ row (alone 8) (burst 77 9 0 0) 8 (ones (5 ∷ []))
    ∷ counted 0 (alone 8) (burst 600 64 0 0) home 8 (framed 64) home 64 0
    ∷ counted 0 (alone 0) (burst 600 64 0 0) home 1 (ones []) home 64 0
    -- none heard
    ∷ row (met 0 None false 0) (burst 600 64 0 0) 0 (ones [])
    ∷ []

-- a burst of d bit times at TP0, met with that limit, is counted in that register
abbrev pub limited : ℕ → ℕ → ℕ → Row
limited limit d r = row (met_with limit 1 (Some 0) false 0) (burst d 9 0 0) 0 (ones (r ∷ []))

-- the seven limits, each one bit time below it and at it
abbrev pub limits : List Row
limits =
    limited 75 74 5
    ∷ limited 75 75 6
    ∷ limited 76 75 5
    ∷ limited 76 76 6
    ∷ limited 77 76 5
    ∷ limited 77 77 6
    ∷ limited 78 77 5
    ∷ limited 78 78 6
    ∷ limited 79 78 5
    ∷ limited 79 79 6
    ∷ limited 80 79 5
    ∷ limited 80 80 6
    ∷ limited 81 80 5
    ∷ limited 81 81 6
    ∷ []

-- Collisions in R 7, and Late Events in 8 where c is above 512, for every heard port and for no other; no class beside them
abbrev pub collided : List Row
collided =
    row (several 0b000000011) (burst 2000 64 0 512) 0 (ones (7 ∷ []))
    ∷ row (several 0b000000011) (burst 2000 64 0 513) 0 (ones (7 ∷ 8 ∷ []))
    ∷ row (several 0b000000011) (burst 2000 64 0 513) 1 (ones (7 ∷ 8 ∷ []))
    ∷ row (several 0b000000011) (burst 2000 64 0 513) 2 (ones [])
    ∷ row (several 0b100000100) (burst 77 9 0 0) 8 (ones (7 ∷ []))
    ∷ row signalled (burst 600 64 0 512) 8 (ones (7 ∷ []))
    ∷ row signalled (burst 600 64 0 513) 8 (ones (7 ∷ 8 ∷ []))
    ∷ row signalled (burst 600 64 0 513) 0 (ones [])
    -- without a collision a late start is nothing
    ∷ row (alone 0) (burst 2000 9 0 513) 0 (ones (6 ∷ []))
    -- a frame from elsewhere changes no address in a collision
    ∷ counted 0 (several 0b000000011) (burst 2000 64 0 0) away 0 (ones (7 ∷ [])) home 0 0
    ∷ counted 0 signalled (burst 2000 64 0 0) away 8 (ones (7 ∷ [])) home 0 0
    ∷ []

abbrev pub others : List Row
others =
    -- Very Long Events, R 9, above 65,536, for every heard port: alone, among several, AUI with its signal
    row (alone 0) (burst 65536 9 0 0) 0 (ones (6 ∷ []))
    ∷ row (alone 0) (burst 65537 9 0 0) 0 (ones (6 ∷ 9 ∷ []))
    ∷ row (several 0b000000011) (burst 65536 9 0 0) 0 (ones (7 ∷ []))
    ∷ row (several 0b000000011) (burst 65537 9 0 0) 0 (ones (7 ∷ 9 ∷ []))
    ∷ row (several 0b000000011) (burst 65537 9 0 0) 1 (ones (7 ∷ 9 ∷ []))
    ∷ row (several 0b000000011) (burst 65537 9 0 0) 2 (ones [])
    ∷ row signalled (burst 65537 9 0 0) 8 (ones (7 ∷ 9 ∷ []))
    -- Data Rate Mismatches, R 10, above 552, for a port heard alone and without collision
    ∷ row (alone 0) (mistimed 552 9 0 0) 0 (ones (6 ∷ []))
    ∷ row (alone 0) (mistimed 553 9 0 0) 0 (ones (6 ∷ 10 ∷ []))
    ∷ row (alone 8) (mistimed 553 9 0 0) 8 (ones (6 ∷ 10 ∷ []))
    ∷ row (alone 0) (burst 553 9 0 0) 0 (ones (6 ∷ []))
    ∷ row (several 0b000000011) (mistimed 553 9 0 0) 0 (ones (7 ∷ []))
    ∷ row signalled (mistimed 553 9 0 0) 8 (ones (7 ∷ []))
    -- Auto Partitions, R 11, for the ports that were partitioned, heard or not
    ∷ row (met 0b000000011 None true 0b000000001) (burst 2000 9 0 0) 0 (ones (7 ∷ 11 ∷ []))
    ∷ row (met 0b000000011 None true 0b000000001) (burst 2000 9 0 0) 1 (ones (7 ∷ []))
    ∷ row (met 0b000000100 (Some 2) false 0b100000000) (burst 2000 9 0 0) 8 (ones (11 ∷ []))
    ∷ row (met 0b000000100 (Some 2) false 0b100000000) (burst 2000 9 0 0) 2 (ones (6 ∷ []))
    -- Source Address Changes, R 12, with a readable frame from another address, which is then the last; else the address stays
    ∷ counted 0 (alone 0) (burst 600 64 0 0) away 0 (slice_set (framed 64) 12 1) away 64 0b000000001
    ∷ counted 0 (alone 8) (burst 600 64 0 0) nearby 8 (slice_set (framed 64) 12 1) nearby 64 0b100000000
    ∷ counted 0 (alone 0) (bad 600 64 0 0) away 0 (ones (2 ∷ [])) home 0 0
    ∷ counted 0 (alone 0) (burst 600 63 0 0) away 0 (ones (6 ∷ [])) home 0 0
    -- counters go round at 2^32
    ∷ counted 4294967295 (alone 0) (burst 600 64 0 0) home 0 (0 ∷ 63 ∷ replicate 11 4294967295) home 64 0
    ∷ []
