-- What a deed says of the register that is selected, and where a byte sequence stands after a past.
--   StandsOn row d         == the row is such as the deed d is done to
--   Sequenced start past h == the next D read takes the place that the past says, and the bytes copied are those of the past before the first read
-- Assumes nothing.
use Rattle.std.specs.Prelude.{ℕ, suc, ◌%◌, ◌<◌, ◌≡◌, false, List, [], length, get_or}
use Rattle.host.specs.declared.Host.{Host}
use Rattle.host.specs.declared.Row.{Row}
use Rattle.host.specs.Sequence.{place_for}
use Rattle.access.specs.Access.{selected_by}
use Rattle.past.specs.Deeds.{Deed, bursts, pulses, ticks, commands, uses, resets, refused, Use, selects_p, selects_r, allows, addresses, asks, reads}
use Rattle.past.specs.Reads.{Start, byte_by, reads_in_a_row}

abbrev pub StandsUse : Row → Use → Type 0
StandsUse row (selects_p n) = Unit
StandsUse row (selects_r n) = Unit
StandsUse row (allows k b) = row.size ≡ 1
StandsUse row (addresses i b) = row.size ≡ 6
StandsUse row asks = Unit
StandsUse row (reads register size) = (row.register ≡ register) × (row.size ≡ size) × (0 < size)

abbrev pub StandsOn : Row → Deed → Type 0
StandsOn row (bursts b source) = Unit
StandsOn row (pulses mask) = Unit
StandsOn row ticks = Unit
StandsOn row (commands through_g c) = row.size ≡ 1
StandsOn row (uses u) = StandsUse row u
StandsOn row resets = Unit
StandsOn row (refused k) = Unit

pub record Sequenced (start : Start) (past : List Deed) (h : Host) : Type 0 where
  pub place : (n : ℕ) → (selected_by h).size ≡ suc n → place_for false (suc n) h ≡ length (reads_in_a_row past) % suc n
  pub held : (n k : ℕ) → (selected_by h).size ≡ suc n → length (reads_in_a_row past) % suc n ≡ suc k
      → (i : ℕ) → i < suc n → get_or h.bytes i 0 ≡ byte_by start (get_or (reads_in_a_row past) k []) (selected_by h).register i
