-- Document 01, 'Host registers', P 1 and P 2, register by register. proofs/Sheet.antt computes every row.
--   seven       == the registers that there are
--   only r byte == eight registers, 0 but for this byte in R r
--   all byte    == this byte in every one of the seven
--   firing      == the registers, of those with 1s in the change bits, whose own enables fire the interrupt: asked of each pair
-- Assumes nothing.
use Rattle.std.specs.Prelude.{ℕ, Bool, List, [], ◌∷◌, map, set, replicate}
use Rattle.changes.specs.Changes.{pending}

abbrev pub seven : List ℕ
seven = 0 ∷ 1 ∷ 2 ∷ 3 ∷ 4 ∷ 6 ∷ 7 ∷ []

abbrev pub only : ℕ → ℕ → List ℕ
only r byte = set (replicate 8 0) r byte

abbrev pub all : ℕ → List ℕ
all byte = byte ∷ byte ∷ byte ∷ byte ∷ byte ∷ 0 ∷ byte ∷ byte ∷ []

-- change bits in R r, and enables in R e
abbrev pub firing : ℕ → ℕ → ℕ → ℕ → Bool
firing r bits e enabled = pending (only r bits) (only e enabled)

-- for each register of change bits, whether the enables of each register fire it
abbrev pub fired : List (List Bool)
fired = map (λ r. map (λ e. firing r 0xff e 0xff) seven) seven
