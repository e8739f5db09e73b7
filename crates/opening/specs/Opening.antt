-- No section of document 01: the chip that a program begins with.
--   fault_of s            == what is wrong with the bytes of a start file, if anything: their number or the byte at their end, or the short event limit
--   Opens bytes c         == c is the chip at power-up that the bytes describe, and nothing is wrong with them
--   Begins c              == c is the chip of some start file, or the usual one
--   number_mark           == what stands between the words of an error and its number
--   CutBefore mark xs ys == ys is what stands in xs before the first mark, or all of xs where there is none
-- Assumes nothing.
use Rattle.std.specs.Prelude.{ℕ, ◌≡◌, ◌⊎◌, List, [], length, take, cond, eqb, Some, None, codes}
use Rattle.std.specs.declared.option.Option.{Option}
use Rattle.std.specs.Str.Pattern.{FindsText}
use Rattle.chip.specs.Flat.{chip_of}
use Rattle.chip.specs.declared.FlatChip.{FlatChip}
use Rattle.start.specs.declared.Started.{Started}
use Rattle.start.specs.Start.{started_of}
use Rattle.opening.specs.declared.Refusal.{Refusal}
use Rattle.opening.specs.declared.Refusal.TheVariants.{Size, Limit}

abbrev pub fault_of : Started → Option Refusal
fault_of s = cond s.fits (cond (eqb s.number 0) None (Some (Limit s.limit))) (Some Size)

abbrev pub Opens : List ℕ → FlatChip → Type 0
Opens bytes c = (fault_of (started_of bytes) ≡ None) × (chip_of c ≡ (started_of bytes).chip)

abbrev pub Begins : FlatChip → Type 0
Begins c = ((bytes : List ℕ) × Opens bytes c) ⊎ (chip_of c ≡ (started_of []).chip)

abbrev pub number_mark : List ℕ
number_mark = codes " (os error "

abbrev pub CutBefore : List ℕ → List ℕ → List ℕ → Type 0
CutBefore mark xs ys = (FindsText mark xs None × (ys ≡ xs)) ⊎ ((j : ℕ) × FindsText mark xs (Some (length ys, j)) × (ys ≡ take (length ys) xs))
