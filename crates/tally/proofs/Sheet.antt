-- A tally at a frame of AUI, a record of no kind and three bytes more, computed. Assumes nothing.
--   in_two_blocks    == at once, and cut behind the first record: two were turned away, the three bytes being one of them, and the frame is counted
--   all_of_them      == the two blocks are all of the bytes
--   half_is_no_block == half a record is no block of whole ones
use Prim.Native.Nat.{ℕ}
use mathlib.Core.Path.{◌≡◌, refl}
use mathlib.Core.List.{List, [], ◌∷◌, ◌++◌}
use native.Mathlib.Omega.{arith}
use lib.ListN.{take, replicate}
use Rattle.record.specs.Records.{no_address, burst_record}
use Rattle.attributes.specs.Nine.{readable_frames, readable_octets}
use Rattle.himib.specs.Runs.{Point, happening, history_of, run_of, start, all_at, accepted, counter_at}
use Rattle.himib.proofs.Computing.{computing}
use Rattle.lent.specs.Lists.{cut_off}
use Rattle.tally.specs.Tally.{Tally, refused_in, tally_of}
use Rattle.tally.specs.Blocks.{begun, blocks_of, AllWhole, joined}

-- a frame of 64 octets at AUI
abbrev frame : List ℕ
frame = burst_record 0b100000000 0 600 64 0 0 0 no_address

abbrev others : List ℕ
others = replicate 32 0 ++ (7 ∷ 8 ∷ 9 ∷ [])

abbrev up : Point
up = start (all_at 0)

-- how many were turned away, and two counters of AUI
abbrev told : Tally → List ℕ
told w = w.refused ∷ counter_at 8 readable_frames w.point ∷ counter_at 8 readable_octets w.point ∷ []

pub in_two_blocks : (told (tally_of up (frame ++ others)) ≡ 2 ∷ 1 ∷ 64 ∷ []) × (told (blocks_of (begun up) (frame ∷ others ∷ [])) ≡ 2 ∷ 1 ∷ 64 ∷ [])
unfolding computing happening history_of run_of accepted cut_off refused_in tally_of blocks_of
in_two_blocks = (refl, refl)

pub all_of_them : joined (frame ∷ []) others ≡ frame ++ others
all_of_them = refl

pub half_is_no_block : AllWhole (take 16 frame ∷ []) → ⊥
half_is_no_block e = let k : ◌≡◌ {A = ℕ} 16 0 = e.0 in absurd (omega (arith, k))
