-- Document 01, 'Host registers', the byte sequences by the past: which byte a D read gives.
--   Start           == what power-up is given: counters, addresses, the two totals, and the limit of short events
--   byte_by start past register place == the byte at a place of a register after a past
--   reads_in_a_row past == the pasts before each D read since the last C write, D write or reset, the newest first
--   place_by past size == the place of the byte that a D read gives next
--   copied_by past size == the past before the read that made the copy: the first of the sequence
--   read_by start past register size == the byte that a D read gives
-- Assumes nothing.
use Rattle.std.specs.Prelude.{ℕ, zero, suc, ◌+◌, ◌/◌, ◌%◌, ◌^◌, List, [], ◌∷◌, length, get_or}
use Rattle.ports.specs.Sets.{gather}
use Rattle.host.specs.declared.Register.{Register}
use Rattle.host.specs.declared.Register.TheVariants as reg
use Rattle.past.specs.Deeds.{Deed, Use, bursts, pulses, ticks, commands, uses, resets, refused, selects_p, selects_r, allows, addresses, asks, reads}
use Rattle.past.specs.Credits.{sum_by, collision_by, octets_by}
use Rattle.past.specs.Addresses.{address_by, counter_by}
use Rattle.past.specs.Status.{g_by}
use Rattle.past.specs.Changes.{change_by, allowed_by}

-- ---- What registers hold

pub record Start : Type 0 where
  pub counters : ℕ → ℕ → ℕ
  pub addresses : ℕ → List ℕ
  pub collisions : ℕ
  pub octets : ℕ
  pub limit : ℕ

-- a byte of a number, the least significant at place 0
abbrev pub byte_of : ℕ → ℕ → ℕ
byte_of number place = number / 256 ^ place % 256

unfoldable pub byte_by : Start → List Deed → Register → ℕ → ℕ
byte_by start past reg.Unlisted place = 0
byte_by start past reg.TransmitCollisions place = byte_of ((start.collisions + sum_by collision_by past) % 2 ^ 32) place
byte_by start past reg.TotalOctets place = byte_of ((start.octets + sum_by octets_by past) % 2 ^ 32) place
byte_by start past reg.Version place = 1
byte_by start past reg.SetPort place = 0
byte_by start past reg.GetPort place = g_by past
byte_by start past (reg.Change r) place = gather 8 (change_by start.addresses past r)
byte_by start past (reg.Enable r) place = allowed_by past r
byte_by start past (reg.Counter i r) place = byte_of (counter_by start.limit start.counters start.addresses past i r) place
byte_by start past (reg.Address i) place = get_or (address_by start.addresses past i) place 0

-- ---- Which byte comes

abbrev pub reads_used : List Deed → List (List Deed) → Use → List (List Deed)
reads_used past row (selects_p n) = []
reads_used past row (selects_r n) = []
reads_used past row (allows k b) = []
reads_used past row (addresses i b) = []
reads_used past row asks = row
reads_used past row (reads register size) = past ∷ row

abbrev pub reads_after : List Deed → List (List Deed) → Deed → List (List Deed)
reads_after past row (bursts b source) = row
reads_after past row (pulses mask) = row
reads_after past row ticks = row
reads_after past row (commands through_g c) = []
reads_after past row (uses u) = reads_used past row u
reads_after past row resets = []
reads_after past row (refused k) = row

unfoldable pub reads_in_a_row : List Deed → List (List Deed)
reads_in_a_row [] = []
reads_in_a_row (d ∷ past) = reads_after past (reads_in_a_row past) d

unfoldable pub remainder : ℕ → ℕ → ℕ
remainder n zero = 0
remainder n (suc size) = n % suc size

unfoldable pub place_by : List Deed → ℕ → ℕ
place_by past size = remainder (length (reads_in_a_row past)) size

-- the element so many places back from the newest; the present itself for none
abbrev pub back : List (List Deed) → List Deed → ℕ → List Deed
back row past zero = past
back row past (suc n) = get_or row n []

unfoldable pub copied_by : List Deed → ℕ → List Deed
copied_by past size = back (reads_in_a_row past) past (place_by past size)

unfoldable pub read_by : Start → List Deed → Register → ℕ → ℕ
read_by start past register size = byte_by start (copied_by past size) register (place_by past size)
