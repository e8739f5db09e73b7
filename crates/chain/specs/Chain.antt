-- Request Q-14: many readings of one counter, four bytes each, the least significant first.
--   reading_length   == the bytes of a reading
--   readings_in bs   == the readings that the bytes bs spell; 1 to 3 bytes behind the last whole one are left out
--   rest_of bs       == how many bytes those are
--   none            == the chain before the first reading: 0 so far
--   last_of last rs  == the last of the readings rs, or if there are none, last
--   last_in rs       == the last of the readings rs, if there is one
--   total_behind     == the sum of a chain and of readings behind it; where no reading came before, of those alone
--   onward c rs     == the chain c with the readings rs behind it; where no reading came before, rs alone
--   chain_of rs      == what all readings rs come to: the sum of their differences, and the last of them, if there is one
--   OnwardIsTotal   == readings behind no other ones come to that
-- Assumes nothing.
use Rattle.std.specs.Prelude.{ℕ, ◌%◌, ◌≡◌, List, [], ◌∷◌, Option, Some, None, length}
use Rattle.spelling.specs.Spelling.{spelt}
use Rattle.attributes.specs.Octets.{total_of, answered, total_on}
use Rattle.chain.specs.declared.Chain.{Chain}

abbrev pub reading_length : ℕ
reading_length = 4

unfoldable pub readings_in : List ℕ → List ℕ
readings_in [] = []
readings_in (a ∷ []) = []
readings_in (a ∷ b ∷ []) = []
readings_in (a ∷ b ∷ c ∷ []) = []
readings_in (a ∷ b ∷ c ∷ d ∷ rest) = spelt (a ∷ b ∷ c ∷ d ∷ []) ∷ readings_in rest

abbrev pub rest_of : List ℕ → ℕ
rest_of bs = length bs % reading_length

abbrev pub none : Chain
none = record { total = Some 0; last = None }

abbrev pub last_of : ℕ → List ℕ → ℕ
last_of last [] = last
last_of last (r ∷ rs) = last_of r rs

abbrev pub last_in : List ℕ → Option ℕ
last_in [] = None
last_in (r ∷ rs) = Some (last_of r rs)

abbrev pub total_behind : Option ℕ → Option ℕ → List ℕ → Option ℕ
total_behind total (Some last) rs = total_on total last rs
total_behind total None rs = answered (total_of rs)

unfoldable pub onward : Chain → List ℕ → Chain
onward c [] = c
onward c (r ∷ rs) = record { total = total_behind c.total c.last (r ∷ rs); last = Some (last_of r rs) }

abbrev pub chain_of : List ℕ → Chain
chain_of rs = record { total = answered (total_of rs); last = last_in rs }

abbrev pub OnwardIsTotal : Type 0
OnwardIsTotal = (rs : List ℕ) → onward none rs ≡ chain_of rs
