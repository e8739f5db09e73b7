-- Document 01, 'Burst' and 'Host registers', the Last Source Address by the past: of the last readable frame, or of the last six bytes written in a row.
--   in_a_row past            == the bytes written to an address since the last C write, D read or reset, the oldest first
--   completes past d i     == the deed d writes port i's address, and completes six bytes with it
--   address_by first past i == port i's address after a past; first are the nine at power-up
--   newcomer first past d i == a readable frame with another address than that
--   credit_by limit first i r past d == what a deed credits counter R of port i with; R 5 and R 6 alone go by the limit of short events
--   counter_by limit start first past i r == counter R of port i: its start and its credits
-- Assumes nothing.
use Rattle.std.specs.Prelude.{ℕ, ◌+◌, ◌-◌, ◌%◌, ◌^◌, Bool, true, false, cond, not, ◌&&◌, List, [], ◌∷◌, ◌++◌, eqb, length, drop}
use Rattle.past.specs.Deeds.{Deed, Use, selects_p, selects_r, allows, addresses, asks, reads, is_reset, if_burst, if_use}
use Rattle.past.specs.Partition.{heard_by}
use Rattle.past.specs.Credits.{credit_of, partition_credit, frames_at, sum_by, if}

abbrev pub row_used : List ℕ → Use → List ℕ
row_used row (selects_p n) = []
row_used row (selects_r n) = []
row_used row (allows k b) = row
row_used row (addresses i b) = row ++ (b ∷ [])
row_used row asks = row
row_used row (reads register size) = []

unfoldable pub in_a_row : List Deed → List ℕ
in_a_row [] = []
in_a_row (d ∷ past) = cond (is_reset d) [] (if_use (in_a_row past) (row_used (in_a_row past)) d)

abbrev pub address_used : ℕ → Use → Bool
address_used i (selects_p n) = false
address_used i (selects_r n) = false
address_used i (allows k b) = false
address_used i (addresses k b) = eqb k i
address_used i asks = false
address_used i (reads register size) = false

unfoldable pub completes : List Deed → Deed → ℕ → Bool
completes past d i = if_use false (address_used i) d && eqb (length (in_a_row (d ∷ past)) % 6) 0

abbrev pub last_six : List ℕ → List ℕ
last_six row = drop (length row - 6) row

unfoldable pub address_by : (ℕ → List ℕ) → List Deed → ℕ → List ℕ
address_by first [] i = first i
address_by first (d ∷ past) i =
    cond (frames_at past d i) (if_burst [] (λ b source. source) d) (cond (completes past d i) (last_six (in_a_row (d ∷ past))) (address_by first past i))

-- two addresses, byte by byte
unfoldable pub same : List ℕ → List ℕ → Bool
same [] [] = true
same [] (y ∷ ys) = false
same (x ∷ xs) [] = false
same (x ∷ xs) (y ∷ ys) = eqb x y && same xs ys

unfoldable pub newcomer : (ℕ → List ℕ) → List Deed → Deed → ℕ → Bool
newcomer first past d i = frames_at past d i && not (same (if_burst [] (λ b source. source) d) (address_by first past i))

unfoldable pub credit_by : ℕ → (ℕ → List ℕ) → ℕ → ℕ → List Deed → Deed → ℕ
credit_by limit first i r past d =
    cond (eqb r 11) (partition_credit past d i)
    (cond (eqb r 12) (if (newcomer first past d i))
    (if_burst 0 (λ b source. credit_of limit b (heard_by past b) i r) d))

unfoldable pub counter_by : ℕ → (ℕ → ℕ → ℕ) → (ℕ → List ℕ) → List Deed → ℕ → ℕ → ℕ
counter_by limit start first past i r = (start i r + sum_by (credit_by limit first i r) past) % 2 ^ 32
