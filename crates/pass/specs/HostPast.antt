-- Demand 3, the host's record by the past alone: which register is selected, and which six bytes a completed address write gives. Pass.antt says the first with
-- `register_of` and the second with the bytes of the record; these statements leave the record out.
--   page_by, register_by   == P and R after a history, from those before it
--   row_after, in_a_row     == the bytes of D writes in a row, the oldest first: those since the last C write, D read or reset
--   SelectionByPast      == P and R are what the last C writes selected since the last reset
--   AddressWritesByPast  == an address write completes with every sixth byte of a row, and gives the last six
-- Assumes nothing.
use Rattle.std.specs.Prelude.{ℕ, ◌-◌, ◌/◌, ◌%◌, ◌<◌, ◌≡◌, true, cond, ◌&&◌, ◌||◌, List, [], ◌∷◌, ◌++◌, eqb, length, drop}
use Rattle.chip.specs.declared.Supply.{Supply}
use Rattle.himib.specs.Runs.{Point, Happening, start, Given, asked, selects, writes, reads, resets, address_at}
use Rattle.pass.specs.Judged.{happens, history, run}
use Rattle.pass.specs.Pass.{role_of, is_address, written_byte, completes}

-- the top three bits of the written byte: 000 selects P, 111 selects R
abbrev pub page_after : ℕ → Happening → ℕ
page_after q h = cond (resets h) 0 (cond (selects h && eqb (written_byte (asked h) / 32) 0b000) (written_byte (asked h) % 32) q)

abbrev pub register_after : ℕ → Happening → ℕ
register_after q h = cond (resets h) 0 (cond (selects h && eqb (written_byte (asked h) / 32) 0b111) (written_byte (asked h) % 32) q)

unfoldable pub page_by : ℕ → List Happening → ℕ
page_by q [] = q
page_by q (h ∷ hs) = page_by (page_after q h) hs

unfoldable pub register_by : ℕ → List Happening → ℕ
register_by q [] = q
register_by q (h ∷ hs) = register_by (register_after q h) hs

abbrev pub SelectionByPast : Type 0
SelectionByPast =
    (given : Supply) (rs : List (List ℕ))
    → ((run (start given) rs).host.page ≡ page_by 0 (history (start given) rs))
    × ((run (start given) rs).host.register ≡ register_by 0 (history (start given) rs))

abbrev pub row_after : List ℕ → Happening → List ℕ
row_after bs h = cond (selects h || reads h || resets h) [] (cond (writes h) (bs ++ written_byte (asked h) ∷ []) bs)

unfoldable pub in_a_row : List ℕ → List Happening → List ℕ
in_a_row bs [] = bs
in_a_row bs (h ∷ hs) = in_a_row (row_after bs h) hs

-- of a record h that comes at the point p, with the row as it stands after h
pub record EverySixth (p : Point) (h : Happening) (row : List ℕ) (i : ℕ) : Type 0 where
  pub exactly : completes i h ≡ (writes h && is_address i (role_of p) && eqb (length row % 6) 0)
  pub gives : completes i h ≡ true → h.after.host.bytes ≡ drop (length row - 6) row

-- the caller gives addresses of six bytes
abbrev pub AddressWritesByPast : Type 0
AddressWritesByPast =
    (given : Supply) → Given given → ((i : ℕ) → i < 9 → length (address_at i (start given)) ≡ 6)
    → (rs : List (List ℕ)) (r : List ℕ) (i : ℕ) → i < 9
    → EverySixth (run (start given) rs) (happens (run (start given) rs) r)
    (row_after (in_a_row [] (history (start given) rs)) (happens (run (start given) rs) r)) i
