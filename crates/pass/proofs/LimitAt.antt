-- D2f at values: limits within and outside, and bursts of TP0 just below and at the limit, also over a reset. A model that ignores the setting fails here, and not
-- first at a law. Assumes nothing.
--   numbers_answered == what power-up answers to limits within and outside
--   judged_at, reset_between == Short Events, Runts and the limit after bursts, at 75, 81 and 77
--   some_given, heard_at_lem == what the theorem asks for, at limit 75 and a burst of 76 bit times
use Prim.Native.Nat.{ℕ}
use mathlib.Core.Path.{◌≡◌, refl}
use mathlib.Core.Bool.{false}
use mathlib.Core.List.{List, [], ◌∷◌, ◌++◌, map}
use lib.Dec.{lit<, lit≤}
use lib.ListN.{replicate}
use Rattle.record.specs.declared.Burst.{Burst}
use Rattle.record.specs.Records.{no_address, burst_record, pulse_record, reset_record}
use Rattle.chip.specs.Chip.{refusal_of, powered_up}
use Rattle.himib.specs.Runs.{Point, Happening, happening, run_of, history_of, start, Given, all_with, counter_at, limit_at}
use Rattle.himib.proofs.Runs.{any_given, found, found_once}
use Rattle.pass.specs.Judged.{happens, run}
use Rattle.pass.specs.Limit.{Seven, limit_of, HeardAlone}
use Rattle.pass.proofs.Computing.{step_computes}

numbers_answered : map (λ l. (powered_up (all_with l 0)).number) (0 ∷ 74 ∷ 75 ∷ 78 ∷ 81 ∷ 82 ∷ 334 ∷ 4294967295 ∷ [])
    ≡ 13 ∷ 13 ∷ 0 ∷ 0 ∷ 0 ∷ 13 ∷ 13 ∷ 13 ∷ []
unfolding refusal_of
numbers_answered = refl

-- four link pulses at TP0, and a burst of it
abbrev linked : List (List ℕ)
linked = replicate 4 (pulse_record 1)

abbrev lasting : ℕ → List ℕ
lasting d = burst_record 1 0 d 9 0 0 0 no_address

-- its Short Events and Runts, and the limit
abbrev shown : Point → List Happening → List ℕ
shown p hs = counter_at 0 5 p ∷ counter_at 0 6 p ∷ limit_at p ∷ []

judged_at : (found happens shown (start (all_with 75 0)) (linked ++ (lasting 74 ∷ [])) ≡ 1 ∷ 0 ∷ 75 ∷ [])
    × (found happens shown (start (all_with 75 0)) (linked ++ (lasting 75 ∷ lasting 76 ∷ [])) ≡ 0 ∷ 2 ∷ 75 ∷ [])
    × (found happens shown (start (all_with 81 0)) (linked ++ (lasting 80 ∷ lasting 76 ∷ [])) ≡ 2 ∷ 0 ∷ 81 ∷ [])
    × (found happens shown (start (all_with 81 0)) (linked ++ (lasting 81 ∷ [])) ≡ 0 ∷ 1 ∷ 81 ∷ [])
unfolding step_computes happening run_of history_of
judged_at = (
  found_once happens shown (start (all_with 75 0)) (linked ++ (lasting 74 ∷ [])) refl,
  found_once happens shown (start (all_with 75 0)) (linked ++ (lasting 75 ∷ lasting 76 ∷ [])) refl,
  found_once happens shown (start (all_with 81 0)) (linked ++ (lasting 80 ∷ lasting 76 ∷ [])) refl,
  found_once happens shown (start (all_with 81 0)) (linked ++ (lasting 81 ∷ [])) refl,
)

-- both runts
reset_between : found happens shown (start (all_with 77 0)) (linked ++ (lasting 77 ∷ reset_record ∷ linked) ++ (lasting 77 ∷ [])) ≡ 0 ∷ 2 ∷ 77 ∷ []
unfolding step_computes happening run_of history_of
reset_between = found_once happens shown (start (all_with 77 0)) (linked ++ (lasting 77 ∷ reset_record ∷ linked) ++ (lasting 77 ∷ [])) refl

abbrev its : Burst
its = record {
  mask = 1;
  fcs_bad = false;
  rate_error = false;
  collision_signal = false;
  loopback_missing = false;
  sqe_test = false;
  d = 76;
  n = 9;
  k = 0;
  c = 0;
  x = 0;
}

some_given : Given (all_with 75 0) × Seven (limit_of (all_with 75 0))
some_given = (any_given 75 0 (lit< tt), (lit≤ tt, lit≤ tt))

heard_at_lem : HeardAlone (happens (run (start (all_with 75 0)) linked) (lasting 76)) its 0
unfolding step_computes happening run_of
heard_at_lem = record { burst = refl; port = lit< tt; single = refl; calm = refl }
