-- What a pass means, Q-6: nothing else depends on the limit of short events. Two runs of the same records, from power-ups that differ in the limit alone, give the
-- same answers but for bytes of Short Events and Runts, and stand alike but for the limit and these two counters. proofs/Limit.antt shows that the statement
-- holds, and docs/PASS.md has the same in plain English.
--   by_limit r, limit_parts register == counter R is Short Events or Runts; the register is such a counter of a port
--   reads_parted p r == the record r, met at the point p, is an accepted D read of one of them
--   SameBut l m p q == the points p and q stand alike, but for the limit and these two counters
-- Assumes nothing.
use Rattle.std.specs.Prelude.{ℕ, ◌+◌, ◌%◌, ◌^◌, ◌<◌, ◌≡◌, Bool, true, false, ◌&&◌, ◌||◌, List, eqb}
use Rattle.host.specs.declared.Register.{Register}
use Rattle.host.specs.declared.Register.TheVariants as reg
use Rattle.answer.specs.declared.Answer.{Answer}
use Rattle.answer.specs.declared.Answer.TheVariants.{Value}
use Rattle.answer.specs.Answer.{byte_of}
use Rattle.chip.specs.declared.Supply.{Supply}
use Rattle.chip.specs.Chip.{limited_to, with_choices, with_kept}
use Rattle.himib.specs.Runs.{Point, reads, counter_at, address_at, limit_at}
use Rattle.pass.specs.Pass.{register_of}
use Rattle.pass.specs.Limit.{Seven, with_limit}
use Rattle.alone.specs.Judged.{happens}
use Rattle.alone.specs.Alone.{after, Supplied}

-- R 5 and R 6, Short Events and Runts
abbrev pub by_limit : ℕ → Bool
by_limit r = eqb r 5 || eqb r 6

abbrev pub limit_parts : Register → Bool
limit_parts reg.Unlisted = false
limit_parts reg.TransmitCollisions = false
limit_parts reg.TotalOctets = false
limit_parts reg.Version = false
limit_parts reg.SetPort = false
limit_parts reg.GetPort = false
limit_parts (reg.Change r) = false
limit_parts (reg.Enable r) = false
limit_parts (reg.Counter i r) = by_limit r
limit_parts (reg.Address i) = false

abbrev pub reads_parted : Point → List ℕ → Bool
reads_parted p r = reads (happens p r) && limit_parts (register_of p)

abbrev pub IsByte : Answer → Type 0
IsByte a = a ≡ Value (byte_of a)

-- where power-up was asked for the limits l and m
pub record SameBut (l m : ℕ) (p q : Point) : Type 0 where
  -- the next record, whatever it is: the same answer, unless it reads one of the two counters; and then a byte in both runs
  pub answers : (r : List ℕ) → reads_parted p r ≡ false → (happens p r).answer ≡ (happens q r).answer
  pub bytes : (r : List ℕ) → reads_parted p r ≡ true → IsByte (happens p r).answer × IsByte (happens q r).answer
  -- but for the limit: repeater, change bits, enables, both totals, interface error and G
  pub core : q.chip.core ≡ with_kept p.chip.core (with_choices p.chip.core.kept (limited_to (limit_at q) p.chip.core.kept.choices))
  -- every other counter, and every address
  pub counters : (i r : ℕ) → i < 9 → r < 13 → by_limit r ≡ false → counter_at i r p ≡ counter_at i r q
  pub addresses : (i : ℕ) → i < 9 → address_at i p ≡ address_at i q
  -- the two together moved alike
  pub sums : (i : ℕ) → i < 9 → (counter_at i 5 p + counter_at i 6 p) % 2 ^ 32 ≡ (counter_at i 5 q + counter_at i 6 q) % 2 ^ 32
  -- and each run goes by its own limit, if that is one of the seven
  pub one_limit : Seven l → limit_at p ≡ l
  pub other_limit : Seven m → limit_at q ≡ m

-- whatever limits are asked for
abbrev pub LimitIsAlone : Type 0
LimitIsAlone =
    (given : Supply) → Supplied given → (l m : ℕ) (rs : List (List ℕ)) → SameBut l m (after (with_limit given l) rs) (after (with_limit given m) rs)
