-- Document 01, 'Host registers', last paragraph: two readings of a counter, and the octet check. Request Q-14: many readings of one.
--   difference_of later earlier == later minus earlier modulo 2^32
--   total_after last rs         == the differences of the readings rs, each from the one before it and the first from last, added up as a whole number
--   total_of rs                 == the same from the first reading to the last
--   answered n                 == n, if 64 bits hold it; else none
--   total_on sum last rs        == a sum so far, whose last reading is last, with the readings rs behind it; one that did not fit never fits again
--   ReadingsAddUp              == a sum that is carried on, by one reading or by many, is the sum of all readings
--   most_frames                 == more frames than this could wrap the octets
--   too_many, turned_away_with  == the check turned away, and the number that it is turned away with: 10
--   check_of frames octets      == turned away above most_frames; else yes exactly if the octets are such as so many readable frames have
-- Assumes nothing.
use Rattle.std.specs.Prelude.{◌≡◌, ℕ, ◌+◌, ◌-◌, ◌*◌, ◌%◌, ◌^◌, Bool, cond, ◌&&◌, List, [], ◌∷◌, ◌++◌, Option, Some, None, Result, Ok, Err, nat_le, nat_lt}
use Rattle.attributes.specs.declared.octets.TooManyFrames.{TooManyFrames}
use Rattle.attributes.specs.Credits.{shortest, longest}

abbrev pub difference_of : ℕ → ℕ → ℕ
difference_of later earlier = (later + 2 ^ 32 - earlier) % 2 ^ 32

abbrev pub most_frames : ℕ
most_frames = 2829359

abbrev pub too_many : TooManyFrames
too_many = record {}

abbrev pub turned_away_with : TooManyFrames → ℕ
turned_away_with e = 10

unfoldable pub check_of : ℕ → ℕ → Result Bool TooManyFrames
check_of frames octets =
    cond (nat_lt most_frames frames) (Err too_many)
    (Ok (nat_le (shortest * frames) octets && nat_le octets (longest * frames)))

unfoldable pub total_after : ℕ → List ℕ → ℕ
total_after last [] = 0
total_after last (r ∷ rs) = difference_of r last + total_after r rs

-- none or one: 0
unfoldable pub total_of : List ℕ → ℕ
total_of [] = 0
total_of (r ∷ rs) = total_after r rs

unfoldable pub answered : ℕ → Option ℕ
answered n = cond (nat_lt n (2 ^ 64)) (Some n) None

unfoldable pub total_on : Option ℕ → ℕ → List ℕ → Option ℕ
total_on (Some n) last rs = answered (n + total_after last rs)
total_on None last rs = None

abbrev pub ReadingsAddUp : Type 0
ReadingsAddUp =
    (rs : List ℕ) (last : ℕ) (more : List ℕ) → total_on (answered (total_of (rs ++ (last ∷ [])))) last more ≡ answered (total_of (rs ++ (last ∷ more)))
