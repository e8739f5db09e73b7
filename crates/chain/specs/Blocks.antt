-- Readings come in stretches of bytes, and where these are cut makes no difference, as long as no reading is cut: only the last may end in a piece of one.
--   blocks_of c bss == the chain c with the readings of the blocks bss behind it, block after block
--   AllWhole bss   == each block is of whole readings
--   joined bss bs  == the blocks, one behind the other, and then the bytes bs
--   BlocksAreOne   == blocks of whole readings and a last one of any bytes come to what the readings in all their bytes come to
--   RestIsOfLast   == what is left behind the last whole reading of all bytes is what is left of the last block
-- Assumes nothing.
use Rattle.std.specs.Prelude.{ℕ, ◌%◌, ◌≡◌, List, [], ◌∷◌, ◌++◌, length}
use Rattle.chain.specs.declared.Chain.{Chain}
use Rattle.chain.specs.Chain.{reading_length, readings_in, rest_of, none, onward, chain_of}

unfoldable pub blocks_of : Chain → List (List ℕ) → Chain
blocks_of c [] = c
blocks_of c (bs ∷ bss) = blocks_of (onward c (readings_in bs)) bss

abbrev pub AllWhole : List (List ℕ) → Type 0
AllWhole [] = Unit
AllWhole (bs ∷ bss) = (length bs % reading_length ≡ 0) × AllWhole bss

abbrev pub joined : List (List ℕ) → List ℕ → List ℕ
joined [] last = last
joined (bs ∷ bss) last = bs ++ joined bss last

abbrev pub BlocksAreOne : Type 0
BlocksAreOne =
    (bss : List (List ℕ)) (last : List ℕ) → AllWhole bss → blocks_of none (bss ++ (last ∷ [])) ≡ chain_of (readings_in (joined bss last))

abbrev pub RestIsOfLast : Type 0
RestIsOfLast = (bss : List (List ℕ)) (last : List ℕ) → AllWhole bss → rest_of (joined bss last) ≡ rest_of last
