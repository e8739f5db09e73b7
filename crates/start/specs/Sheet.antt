-- Document 01, 'Reset and power-up': one start file, and a place of each kind in it. proofs/Sheet.antt computes every row.
--   counters_of i r n == the bytes of n counters of port i from register R on: each is spelt by R, i, 3 and 4
--   ports_of i n rest == the bytes of n ports from port i on, the rest behind them: a port's address is 10:20:30:40:50 and its own place
--   file             == a start file of nine such ports; Transmit Collisions is spelt by 1 to 4 and Total Octets by 5 to 8
--   up               == the chip that it describes
--   Choice, choices  == what may stand behind such a file, and what comes of it: whether the file fits, the limit that it asks for, the number that
--                       power-up answers, and the limit that the chip goes by; made == what the definitions make of it
-- Assumes nothing.
use Rattle.std.specs.Prelude.{ℕ, zero, suc, Bool, true, false, List, [], ◌∷◌, ◌++◌}
use Rattle.chip.specs.declared.Chip.{Chip}
use Rattle.start.specs.declared.Started.{Started}
use Rattle.start.specs.Start.{started_of}

abbrev pub counters_of : ℕ → ℕ → ℕ → List ℕ
counters_of i r zero = []
counters_of i r (suc n) = r ∷ i ∷ 3 ∷ 4 ∷ counters_of i (suc r) n

abbrev pub ports_of : ℕ → ℕ → List ℕ → List ℕ
ports_of i zero rest = rest
ports_of i (suc n) rest = counters_of i 0 13 ++ (0x10 ∷ 0x20 ∷ 0x30 ∷ 0x40 ∷ 0x50 ∷ i ∷ ports_of (suc i) n rest)

abbrev pub file : List ℕ
file = ports_of 0 9 (1 ∷ 2 ∷ 3 ∷ 4 ∷ 5 ∷ 6 ∷ 7 ∷ 8 ∷ [])

abbrev pub up : Chip
up = (started_of file).chip

pub record Choice : Type 0 where
  pub behind : List ℕ
  pub fits : Bool
  pub limit : ℕ
  pub number : ℕ
  pub goes : ℕ

abbrev pub choice : List ℕ → Bool → ℕ → ℕ → ℕ → Choice
choice behind fits limit number goes = record { behind = behind; fits = fits; limit = limit; number = number; goes = goes }

abbrev pub choices : List Choice
choices =
    choice [] true 78 0 78
    -- 75 to 81, and nothing else
    ∷ choice (75 ∷ 0 ∷ 0 ∷ 0 ∷ 0 ∷ []) true 75 0 75
    ∷ choice (78 ∷ 0 ∷ 0 ∷ 0 ∷ 0 ∷ []) true 78 0 78
    ∷ choice (81 ∷ 0 ∷ 0 ∷ 0 ∷ 0 ∷ []) true 81 0 81
    ∷ choice (0 ∷ 0 ∷ 0 ∷ 0 ∷ 0 ∷ []) true 0 13 78
    ∷ choice (74 ∷ 0 ∷ 0 ∷ 0 ∷ 0 ∷ []) true 74 13 78
    ∷ choice (82 ∷ 0 ∷ 0 ∷ 0 ∷ 0 ∷ []) true 82 13 78
    -- all four bytes count
    ∷ choice (78 ∷ 1 ∷ 0 ∷ 0 ∷ 0 ∷ []) true 334 13 78
    ∷ choice (78 ∷ 0 ∷ 1 ∷ 0 ∷ 0 ∷ []) true 65614 13 78
    ∷ choice (78 ∷ 0 ∷ 0 ∷ 1 ∷ 0 ∷ []) true 16777294 13 78
    ∷ choice (255 ∷ 255 ∷ 255 ∷ 255 ∷ 0 ∷ []) true 4294967295 13 78
    -- the last byte is 0, and all five are there
    ∷ choice (75 ∷ 0 ∷ 0 ∷ 0 ∷ 1 ∷ []) false 78 0 78
    ∷ choice (75 ∷ 0 ∷ 0 ∷ 0 ∷ []) false 78 0 78
    ∷ choice (75 ∷ 0 ∷ 0 ∷ 0 ∷ 0 ∷ 0 ∷ []) false 78 0 78
    ∷ []

abbrev pub made : Choice → Choice
made c =
    let t : Started = started_of (ports_of 0 9 (1 ∷ 2 ∷ 3 ∷ 4 ∷ 5 ∷ 6 ∷ 7 ∷ 8 ∷ c.behind)) in
    choice c.behind t.fits t.limit t.number t.chip.core.kept.choices.short_limit
