-- Demand 3 for a port's partition, at the boundaries: lists of records from power-up, and both sides of the promise computed on each. Assumes nothing.
--   tp_boundaries       == 31 and 32 collisions of TP0 and TP1; then a burst of 512, of 513, a disabling and a reset
--   fragment_boundaries == Q-2: 31 collisions, a clean burst of 512 and of 513, and one collision more; and how TP0 stands
--   aui_boundaries      == 31 and 32 collisions of AUI by its signal
--   long_boundary       == one collision of 1,024 and one of 1,025 bit times
use Prim.Native.Nat.{ℕ}
use mathlib.Core.Path.{◌≡◌, refl}
use mathlib.Core.Bool.{Bool, true, false}
use mathlib.Core.List.{List, [], ◌∷◌, ◌++◌, map}
use lib.ListN.{replicate}
use Rattle.record.specs.Records.{no_address, burst_record, pulse_record, c_write_record, d_write_record, reset_record}
use Rattle.history.specs.History.{Standing, connected, partitioned, since, struck}
use Rattle.port.specs.Standing.{event_of}
use Rattle.repeater.specs.Events.{standing_at, followed_event, burst_event}
use Rattle.himib.specs.Runs.{Point, Happening, happening, if_burst, repeater_at, partitioned_at, history_of, run_of}
use Rattle.himib.proofs.Runs.{found, found_after, found_once, found_after_once}
use Rattle.pass.specs.Judged.{happens}
use Rattle.pass.specs.Pass.{event_at}
use Rattle.pass.specs.Examples.{up}
use Rattle.pass.proofs.Computing.{step_computes}

-- port i: partitioned or not, and whether its past since the last clearing event struck it
abbrev pub told : ℕ → Point → List Happening → List Bool
told i p hs = partitioned_at p i ∷ struck (since (map (event_at i) hs)) ∷ []

abbrev pub yes : List Bool
yes = true ∷ true ∷ []

abbrev pub no : List Bool
no = false ∷ false ∷ []

-- a burst on which TP0 and TP1 collide; n of them, where the links pass
abbrev pub collided_burst : List ℕ
collided_burst = burst_record 0b11 0 600 0 0 100 300 no_address

abbrev pub crowded : ℕ → List (List ℕ)
crowded n = replicate 4 (pulse_record 0b11) ++ replicate n collided_burst

abbrev pub crowd : List (List ℕ)
crowd = collided_burst ∷ []

-- n bursts of AUI alone with its collision signal, each for x bit times
abbrev pub signalled : ℕ → ℕ → List (List ℕ)
signalled n x = replicate n (burst_record 0b100000000 0b00100 2000 0 0 100 x no_address)

-- TP0 alone, for d bit times
abbrev pub alone : ℕ → List (List ℕ)
alone d = burst_record 0b01 0 d 0 0 0 0 no_address ∷ []

-- AUI alone, for d bit times: TP0 and TP1 are sent its data
abbrev pub sent : ℕ → List (List ℕ)
sent d = burst_record 0b100000000 0 d 0 0 0 0 no_address ∷ []

-- S is selected, and TP0 disabled through it
abbrev pub disabling : List (List ℕ)
disabling = c_write_record 0b11111110 ∷ d_write_record 0b00100000 ∷ []

-- TP0 and TP1
abbrev pub both : Point → List Happening → List (List Bool)
both p hs = told 0 p hs ∷ told 1 p hs ∷ []

-- after 31 such bursts: nothing; the 32nd; and then TP0 alone for 512 and for 513 bit times, the disabling of TP0, and a reset
abbrev pub endings : List (List (List ℕ))
endings = [] ∷ crowd ∷ (crowd ++ alone 512) ∷ (crowd ++ alone 513) ∷ (crowd ++ disabling) ∷ (crowd ++ (reset_record ∷ [])) ∷ []

abbrev pub TpBoundaries : Type 0
TpBoundaries =
    found_after happens both up (crowded 31) endings
    ≡ (no ∷ no ∷ []) ∷ (yes ∷ yes ∷ []) ∷ (yes ∷ yes ∷ []) ∷ (no ∷ yes ∷ []) ∷ (no ∷ yes ∷ []) ∷ (no ∷ no ∷ []) ∷ []

pub tp_boundaries : TpBoundaries
unfolding step_computes run_of history_of happening event_at event_of followed_event burst_event if_burst
tp_boundaries = found_after_once happens both up (crowded 31) endings refl

-- after 31 such bursts a clean one of 512 bit times leaves the count, and one more collision partitions; one of 513 starts anew
abbrev pub fragment_endings : List (List (List ℕ))
fragment_endings = sent 512 ∷ (sent 512 ++ crowd) ∷ (sent 513 ++ crowd) ∷ []

-- TP0: how it stands, and the two
pub record Stood : Type 0 where
  pub standing : Standing
  pub told : List Bool

abbrev pub stood : Standing → List Bool → Stood
stood standing told = record { standing = standing; told = told }

abbrev pub stands : Point → List Happening → Stood
stands p hs = stood (standing_at (repeater_at p) 0) (told 0 p hs)

abbrev pub FragmentBoundaries : Type 0
FragmentBoundaries =
    found_after happens stands up (crowded 31) fragment_endings
    ≡ stood (connected 31) no ∷ stood partitioned yes ∷ stood (connected 1) no ∷ []

pub fragment_boundaries : FragmentBoundaries
unfolding step_computes run_of history_of happening event_at event_of followed_event burst_event if_burst
fragment_boundaries = found_after_once happens stands up (crowded 31) fragment_endings refl

-- after 31 collisions of AUI: nothing, and a 32nd; and one collision alone
abbrev pub aui_endings : List (List (List ℕ))
aui_endings = [] ∷ signalled 1 300 ∷ []

abbrev pub AuiBoundaries : Type 0
AuiBoundaries = found_after happens (told 8) up (signalled 31 300) aui_endings ≡ no ∷ yes ∷ []

pub aui_boundaries : AuiBoundaries
unfolding step_computes run_of history_of happening event_at event_of followed_event burst_event if_burst
aui_boundaries = found_after_once happens (told 8) up (signalled 31 300) aui_endings refl

abbrev pub LongBoundary : Type 0
LongBoundary = (found happens (told 8) up (signalled 1 1024) ≡ no) × (found happens (told 8) up (signalled 1 1025) ≡ yes)

pub long_boundary : LongBoundary
unfolding step_computes run_of history_of happening event_at event_of followed_event burst_event if_burst
long_boundary = (found_once happens (told 8) up (signalled 1 1024) refl, found_once happens (told 8) up (signalled 1 1025) refl)
