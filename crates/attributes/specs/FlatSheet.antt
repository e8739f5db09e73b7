-- The counters and addresses as they are kept, before and after, by number of place; and what the rules say of the same. proofs/FlatSheet.antt computes every row.
--   Store, stored          == a number at a place; a list with such numbers stored
--   six p                  == the six bytes of the address 2:7:6:5:4:3, from the spot p on
--   Row, kept, found       == a burst from there, with every counter at one number before and no address known: how it was met, the burst, and what is stored by
--                             then in the counters and in the addresses. kept are the records that these stand for, found is what the rules make of those before
--   bursts                 == several registers of one port; a collision of all nine; the last place, going round; each register that the others leave out
--   numbered               == 0, 1, .. 116, each in its own place
-- Assumes nothing.
use Rattle.std.specs.Prelude.{ℕ, zero, suc, ◌+◌, true, None, List, [], ◌∷◌, ◌++◌, replicate, slice_set}
use Rattle.record.specs.declared.Burst.{Burst}
use Rattle.attributes.specs.declared.Nine.{Nine}
use Rattle.attributes.specs.declared.Met.{Met}
use Rattle.attributes.specs.Credits.{due_of, credited_all}
use Rattle.attributes.specs.Flat.{listed, nine_of}
use Rattle.attributes.specs.Sheet.{burst, bad, mistimed, met, alone, away}

pub record Store : Type 0 where
  pub place : ℕ
  pub value : ℕ

abbrev pub store : ℕ → ℕ → Store
store place value = record { place = place; value = value }

abbrev pub stored : List Store → List ℕ → List ℕ
stored [] xs = xs
stored (s ∷ ss) xs = stored ss (slice_set xs s.place s.value)

-- 1 in so many places, from one on
abbrev pub ones : ℕ → ℕ → List Store
ones zero place = []
ones (suc n) place = store place 1 ∷ ones n (suc place)

abbrev pub six : ℕ → List Store
six p = store p 2 ∷ store (p + 1) 7 ∷ store (p + 2) 6 ∷ store (p + 3) 5 ∷ store (p + 4) 4 ∷ store (p + 5) 3 ∷ []

abbrev pub alike : ℕ → List ℕ
alike v = replicate 117 v

abbrev pub unknown : List ℕ
unknown = replicate 54 0

pub record Row : Type 0 where
  pub start : ℕ
  pub met : Met
  pub burst : Burst
  pub counters : List Store
  pub addresses : List Store

abbrev pub row : ℕ → Met → Burst → List Store → List Store → Row
row start m b counters addresses = record { start = start; met = m; burst = b; counters = counters; addresses = addresses }

abbrev pub kept : Row → Nine
kept w = nine_of (stored w.counters (alike w.start)) (stored w.addresses unknown)

abbrev pub found : Row → Nine
found w =
    let nine : Nine = nine_of (alike w.start) unknown in
    credited_all (due_of nine w.met w.burst away) w.burst away nine

abbrev pub bursts : List Row
bursts =
    -- a frame of 64 octets at TP1: Readable Frames, Readable Octets, Source Address Changes
    row 0 (alone 1) (burst 600 64 0 0) (store 1 1 ∷ store 10 64 ∷ store 109 1 ∷ []) (six 6)
    -- all nine collide, late and very long, and are partitioned
    ∷ row 0 (met 0b111111111 None true 0b111111111) (burst 65537 9 0 513) (ones 9 63 ++ ones 9 72 ++ ones 9 81 ++ ones 9 99) []
    -- a frame at AUI where every counter is full: the last place, 116, goes round
    ∷ row 4294967295 (alone 8) (burst 600 64 0 0) (store 8 0 ∷ store 17 63 ∷ store 116 0 ∷ []) (six 48)
    -- FCS Errors, Alignment Errors, Frames Too Long, Short Events, Runts, Data Rate Mismatches, each at another port
    ∷ row 0 (alone 0) (bad 600 64 0 0) (store 18 1 ∷ []) []
    ∷ row 0 (alone 2) (bad 600 64 1 0) (store 29 1 ∷ []) []
    ∷ row 0 (alone 3) (burst 13000 1519 0 0) (store 39 1 ∷ []) []
    ∷ row 0 (alone 7) (burst 77 9 0 0) (store 52 1 ∷ []) []
    ∷ row 0 (alone 4) (mistimed 553 9 0 0) (store 58 1 ∷ store 94 1 ∷ []) []
    ∷ []

abbrev pub numbered : List ℕ
numbered = listed 117 (λ k. k)
