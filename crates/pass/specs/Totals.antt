-- Demand 3, request Q-14: a counter that is polled for long. Its readings wrap; the sum of their differences is the true number of credits from the first reading
-- to the last, as long as fewer than 2^32 credits fall between two readings in a row. What is polled through the registers counts from first byte to first byte.
--   Counter, Listed       == what can be polled: a port's counter, Transmit Collisions, Total Octets; such as there are
--   held_at c p, credit_to c == what the counter holds at p, and what a record credits it with, by specs/Pass
--   summed readings       == what a poller makes of its readings; a wrong poller can be put in its place here
--   readings_at c p pieces == the readings at p and at the end of each of the pieces; a piece is a list of records, and begins where the one before ended
--   Few c p pieces        == fewer than 2^32 credits in each piece, counted in what the counter counts
--   Summed                == the sum of such readings is the true number of credits, and 64 bits hold it exactly if it is below 2^64
--   TotalsByPolls         == so it is of every counter, from any point of a run, through any pieces
--   Poll, Reads           == a poll through the registers: where it is read, and that it reads the counter's four bytes
--   TotalsByHost          == the same of the numbers that a host reads
--   Missed                == 2^32 credits between two readings leave no trace in them
--   PremiseIsNeeded       == so it is wherever exactly 2^32 fall, and there are such runs: 2^32 frames, and 2^26 frames of 64 octets for the octets
-- Assumes nothing.
use Rattle.std.specs.Prelude.{ℕ, zero, suc, ◌+◌, ◌*◌, ◌^◌, ◌≤◌, ◌<◌, ◌≡◌, cond, List, [], ◌∷◌, ◌++◌, Some, None, eqb, take}
use Rattle.spelling.specs.Spelling.{spelt}
use Rattle.ports.specs.Sets.{aui}
use Rattle.record.specs.Records.{burst_record}
use Rattle.attributes.specs.Octets.{total_of, answered}
use Rattle.chip.specs.declared.Supply.{Supply}
use Rattle.himib.specs.Runs.{Point, Happening, start, Given, counter_at, transmit_collisions, total_octets}
use Rattle.pass.specs.Judged.{history, run}
use Rattle.pass.specs.Pass.{bytes_read, Sequence, credit, collision_credit, octet_credit, sum_of}

-- ---- Readings of a counter

-- counter R of port i, Transmit Collisions, or Total Octets
pub data Counter : Type 0 where
  attribute : ℕ → ℕ → Counter
  collisions : Counter
  octets : Counter

abbrev pub Listed : Counter → Type 0
Listed (attribute i r) = (i < 9) × (r < 13)
Listed collisions = Unit
Listed octets = Unit

abbrev pub held_at : Counter → Point → ℕ
held_at (attribute i r) p = counter_at i r p
held_at collisions p = transmit_collisions p
held_at octets p = total_octets p

abbrev pub credit_to : Counter → Happening → ℕ
credit_to (attribute i r) = credit i r
credit_to collisions = collision_credit
credit_to octets = octet_credit

-- each later reading minus the earlier one modulo 2^32, added up as a whole number
abbrev pub summed : List ℕ → ℕ
summed readings = total_of readings

unfoldable pub readings_at : Counter → Point → List (List (List ℕ)) → List ℕ
readings_at c p [] = held_at c p ∷ []
readings_at c p (rs ∷ pieces) = held_at c p ∷ readings_at c (run p rs) pieces

abbrev pub joined : List (List (List ℕ)) → List (List ℕ)
joined [] = []
joined (rs ∷ pieces) = rs ++ joined pieces

unfoldable pub Few : Counter → Point → List (List (List ℕ)) → Type 0
Few c p [] = Unit
Few c p (rs ∷ pieces) = (sum_of (credit_to c) (history p rs) < 2 ^ 32) × Few c (run p rs) pieces

-- readings whose first was taken at p and whose others were taken behind each of the pieces
pub record Summed (c : Counter) (p : Point) (pieces : List (List (List ℕ))) (readings : List ℕ) : Type 0 where
  pub whole : summed readings ≡ sum_of (credit_to c) (history p (joined pieces))
  pub fits : sum_of (credit_to c) (history p (joined pieces)) < 2 ^ 64 → answered (summed readings) ≡ Some (sum_of (credit_to c) (history p (joined pieces)))
  pub too_large : 2 ^ 64 ≤ sum_of (credit_to c) (history p (joined pieces)) → answered (summed readings) ≡ None

abbrev pub TotalsByPolls : Type 0
TotalsByPolls =
    (given : Supply) → Given given → (before : List (List ℕ)) (c : Counter) → Listed c → (pieces : List (List (List ℕ)))
    → Few c (run (start given) before) pieces
    → Summed c (run (start given) before) pieces (readings_at c (run (start given) before) pieces)

-- ---- Readings through the registers

-- the records up to the read of the first byte, that read, and the records behind it, the reads of the other bytes among them
pub record Poll : Type 0 where
  pub lead : List (List ℕ)
  pub first : List ℕ
  pub rest : List (List ℕ)

-- from p on: where the first byte is read, and where the poll ends
abbrev pub read_at : Point → Poll → Point
read_at p t = run p t.lead

abbrev pub polled_to : Point → Poll → Point
polled_to p t = run (read_at p t) (t.first ∷ t.rest)

-- the P and the R at which a counter stands
abbrev pub page_for : Counter → ℕ
page_for (attribute i r) = cond (eqb i 8) 31 (16 + i)
page_for collisions = 0
page_for octets = 0

abbrev pub register_for : Counter → ℕ
register_for (attribute i r) = r
register_for collisions = 12
register_for octets = 13

-- the counter is selected, and four bytes of it are read; whatever does not disturb a byte sequence may come between them
pub record Reads (c : Counter) (p : Point) (t : Poll) : Type 0 where
  pub page : (read_at p t).host.page ≡ page_for c
  pub register : (read_at p t).host.register ≡ register_for c
  pub sequence : Sequence (read_at p t) t.first t.rest

unfoldable pub AllRead : Counter → Point → List Poll → Type 0
AllRead c p [] = Unit
AllRead c p (t ∷ ts) = Reads c p t × AllRead c (polled_to p t) ts

-- the numbers that the bytes spell
unfoldable pub numbers_read : Point → List Poll → List ℕ
numbers_read p [] = []
numbers_read p (t ∷ ts) = spelt (take 4 (bytes_read (history (read_at p t) (t.first ∷ t.rest)))) ∷ numbers_read (polled_to p t) ts

-- the pieces from each first byte to the next
unfoldable pub spans : Poll → List Poll → List (List (List ℕ))
spans t [] = []
spans t (u ∷ us) = ((t.first ∷ t.rest) ++ u.lead) ∷ spans u us

abbrev pub TotalsByHost : Type 0
TotalsByHost =
    (given : Supply) → Given given → (before : List (List ℕ)) (c : Counter) → Listed c → (t : Poll) (ts : List Poll)
    → AllRead c (run (start given) before) (t ∷ ts)
    → Few c (read_at (run (start given) before) t) (spans t ts)
    → Summed c (read_at (run (start given) before) t) (spans t ts) (numbers_read (run (start given) before) (t ∷ ts))

-- ---- The premise is needed

-- all of 2^32 credits are missing in the sum of the readings before and behind them
pub record Missed (c : Counter) (p : Point) (rs : List (List ℕ)) : Type 0 where
  pub credits : sum_of (credit_to c) (history p rs) ≡ 2 ^ 32
  pub same : held_at c (run p rs) ≡ held_at c p
  pub sum : summed (readings_at c p (rs ∷ [])) ≡ 0
  pub not_few : Few c p (rs ∷ []) → ⊥

-- a record n times in a row
unfoldable pub again : ℕ → List ℕ → List (List ℕ)
again zero r = []
again (suc n) r = r ∷ again n r

-- a readable frame of 64 octets at AUI, always from the same address
abbrev pub frame : List ℕ
frame = burst_record 256 0 1000 64 0 0 0 (2 ∷ 0 ∷ 0 ∷ 7 ∷ 8 ∷ 9 ∷ [])

pub record Needed : Type 0 where
  -- whatever the counter, wherever the run stands
  pub round : (given : Supply) → Given given → (before : List (List ℕ)) (c : Counter) → Listed c → (rs : List (List ℕ))
      → sum_of (credit_to c) (history (run (start given) before) rs) ≡ 2 ^ 32
      → Missed c (run (start given) before) rs
  -- k frames in a row are credited as k, and their octets as 64 k
  pub frames : (given : Supply) (k : ℕ)
      → (sum_of (credit aui 0) (history (start given) (again k frame)) ≡ k)
      × (sum_of (credit aui 1) (history (start given) (again k frame)) ≡ 64 * k)
      × (sum_of octet_credit (history (start given) (again k frame)) ≡ 64 * k)
  -- so there are such runs: 2^32 frames; and 2^26 frames, far from 2^32, with 2^32 octets
  pub runs : (given : Supply) → Given given
      → Missed (attribute aui 0) (start given) (again (2 ^ 32) frame)
      × Missed (attribute aui 1) (start given) (again (2 ^ 26) frame)
      × Missed octets (start given) (again (2 ^ 26) frame)
      × (sum_of (credit aui 0) (history (start given) (again (2 ^ 26) frame)) ≡ 2 ^ 26)

abbrev pub PremiseIsNeeded : Type 0
PremiseIsNeeded = Needed
