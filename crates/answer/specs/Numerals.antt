-- Document 01, the end of 'Boundary sheet': numbers as text, in ASCII, the most significant digit first.
-- Settles decimal numerals without leading zeros (0 is written 0) and hexadecimal ones, in lower case, of a given number of digits.
--   decimal n   == the decimal numeral of n
--   hex k v     == the last k hexadecimal digits of v
--   read_as b cs == the number that the numeral cs stands for in base b: what the two above amount to is said with it
-- Assumes nothing.
use Rattle.std.specs.Prelude.{ℕ, zero, suc, ◌+◌, ◌*◌, ◌-◌, ◌/◌, ◌%◌, Bool, true, false, cond, List, [], ◌∷◌, ◌++◌, ltb, get_or}
use Rattle.answer.specs.Text.{ascii}

-- a decimal digit: 48 is '0'
abbrev pub digit : ℕ → ℕ
digit d = 48 + d

-- at most k digits, and whether n is below ten: then its digit alone, else the numeral of its tenth part and its last digit
unfoldable pub numeral : ℕ → Bool → ℕ → List ℕ
numeral zero small n = []
numeral (suc k) true n = digit n ∷ []
numeral (suc k) false n = numeral k (ltb (n / 10) 10) (n / 10) ++ (digit (n % 10) ∷ [])

-- n has at most n + 1 digits
unfoldable pub decimal : ℕ → List ℕ
decimal n = numeral (suc n) (ltb n 10) n

-- the hexadecimal digits
abbrev pub glyphs : List ℕ
glyphs = ascii "0123456789abcdef"

abbrev pub hex : ℕ → ℕ → List ℕ
hex zero v = []
hex (suc k) v = hex k (v / 16) ++ (get_or glyphs (v % 16) 0 ∷ [])

-- what a digit counts: 0 to 9, then a to f
abbrev pub worth : ℕ → ℕ
worth c = cond (ltb c 58) (c - 48) (c - 87)

-- digits that are read behind the number n
unfoldable pub read_behind : ℕ → ℕ → List ℕ → ℕ
read_behind b n [] = n
read_behind b n (c ∷ cs) = read_behind b (b * n + worth c) cs

abbrev pub read_as : ℕ → List ℕ → ℕ
read_as b cs = read_behind b 0 cs
