-- The input of a run comes in blocks, and where it is cut makes no difference, as long as no record is cut: only the last block may end in a piece of one.
--   onward w bs     == the tally w, with the records of the bytes bs behind it
--   blocks_of w bss  == the same, block after block
--   AllWhole bss    == each block is of whole records
--   BlocksAreOne    == blocks of whole records and a last one of any bytes come to what all their bytes together come to
-- Assumes nothing.
use Rattle.std.specs.Prelude.{ℕ, ◌+◌, ◌%◌, ◌≡◌, List, [], ◌∷◌, ◌++◌, length}
use Rattle.record.specs.Record.{record_length}
use Rattle.himib.specs.Runs.{Point}
use Rattle.tally.specs.Tally.{Tally, tally_of}

abbrev pub begun : Point → Tally
begun p = record { point = p; refused = 0 }

abbrev pub onward : Tally → List ℕ → Tally
onward w bs = record { point = (tally_of w.point bs).point; refused = w.refused + (tally_of w.point bs).refused }

unfoldable pub blocks_of : Tally → List (List ℕ) → Tally
blocks_of w [] = w
blocks_of w (bs ∷ bss) = blocks_of (onward w bs) bss

abbrev pub AllWhole : List (List ℕ) → Type 0
AllWhole [] = Unit
AllWhole (bs ∷ bss) = (length bs % record_length ≡ 0) × AllWhole bss

-- the blocks, one behind the other, and the bytes that come last
abbrev pub joined : List (List ℕ) → List ℕ → List ℕ
joined [] last = last
joined (bs ∷ bss) last = bs ++ joined bss last

abbrev pub BlocksAreOne : Type 0
BlocksAreOne =
    (p : Point) (bss : List (List ℕ)) (last : List ℕ) → AllWhole bss → blocks_of (begun p) (bss ++ (last ∷ [])) ≡ tally_of p (joined bss last)
