-- Demand 3, the counters: each counter, Transmit Collisions and Total Octets are their start plus what the past credits them with, modulo 2^32.
-- Assumes nothing.
--   counted_from     == from any point whose attributes and totals are such as the caller can give
--   counters_by_past == from power-up
--   credits_on       == what two lists of records are credited with, one behind the other, adds up
use Prim.Native.Nat.{ℕ, ◌+◌, ◌%◌, ◌^◌, ◌<◌}
use mathlib.Core.Path.{◌≡◌, sym, ap, ◌∙◌}
use mathlib.Core.List.{List, [], ◌∷◌, ◌++◌}
use native.Mathlib.Omega.{arith}
use native.Mathlib.Nat.{zero-add, add_assoc}
use Rattle.himib.specs.Runs.{Point, Happening, start, history_of, run_of}
use Rattle.himib.proofs.Runs.{history_on}
use Rattle.pass.specs.Judged.{happens, history, run}
use Rattle.pass.specs.Pass.{sum_of, CountedFrom, CountersByPast}
use Rattle.pass.proofs.Credited.{Fit, Credited, credited, fit_after, fit_start}

-- no credits yet, and one record's before those of the rest
none_yet : (n : ℕ) → n < 2 ^ 32 → n ≡ (n + 0) % 2 ^ 32
none_yet n l = omega arith

one_more : (k m n c s : ℕ) → k ≡ (m + s) % 2 ^ 32 → m ≡ (n + c) % 2 ^ 32 → k ≡ (n + (c + s)) % 2 ^ 32
one_more k m n c s e d = omega arith

pub counted_from : (p : Point) → Fit p → (rs : List (List ℕ)) → CountedFrom p rs
unfolding run_of history_of sum_of
counted_from p fit [] =
    record {
      each_counter = λ i r l m. none_yet _ (fit.attributes.low i r l m);
      collisions = none_yet _ fit.collisions-low;
      octets = none_yet _ fit.octets-low;
    }
counted_from p fit (r ∷ rs) =
    let now : Credited p r = credited p r fit in
    let later : CountedFrom (happens p r).after rs = counted_from (happens p r).after (fit_after p r fit) rs in
    record {
      each_counter = λ i k l m. one_more _ _ _ _ _ (later.each_counter i k l m) (now.each_counter i k l m);
      collisions = one_more _ _ _ _ _ later.collisions now.collisions;
      octets = one_more _ _ _ _ _ later.octets now.octets;
    }

-- its instance: brink_given, aui_counted, tp0_counted and totals_counted of Instances
pub counters_by_past : CountersByPast
counters_by_past given g rs = counted_from (start given) (fit_start given g) rs

-- LISTS OF RECORDS, JOINED

sum_on : (f : Happening → ℕ) (hs gs : List Happening) → sum_of f (hs ++ gs) ≡ sum_of f hs + sum_of f gs
unfolding sum_of
sum_on f [] gs = sym (zero-add _)
sum_on f (h ∷ hs) gs = ap (λ (n : ℕ). f h + n) (sum_on f hs gs) ∙ sym (add_assoc _ _ _)

pub credits_on : (f : Happening → ℕ) (p : Point) (rs qs : List (List ℕ))
    → sum_of f (history p (rs ++ qs)) ≡ sum_of f (history p rs) + sum_of f (history (run p rs) qs)
credits_on f p rs qs = ap (sum_of f) (sym (history_on happens p rs qs)) ∙ sum_on f (history p rs) (history (run p rs) qs)
