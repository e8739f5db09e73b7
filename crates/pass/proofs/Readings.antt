-- Demand 3, between two points of a run: what two readings of a counter differ by, Total Octets against the nine ports' octets, and the octet check.
-- Assumes nothing.
--   between          == from any point whose attributes and totals are such as the caller can give
--   readings_by_past == between any two points of a run from power-up
use Prim.Native.Nat.{ℕ, ◌+◌, ◌*◌, ◌%◌, ◌^◌, ◌≤◌, ◌<◌}
use mathlib.Core.Path.{◌≡◌, refl, sym, ap, ap₂, ◌∙◌}
use mathlib.Core.List.{List, [], ◌∷◌}
use native.Mathlib.Omega.{arith}
use lib.Dec.{lit<}
use Rattle.record.specs.Refusals.{record_of}
use Rattle.attributes.specs.Octets.{difference_of}
use Rattle.attributes.specs.Sums.{sum_over}
use Rattle.attributes.proofs.OctetCheck.{difference_of_sum, check_passed}
use Rattle.attributes.proofs.Sums.{sum_same, sum_none, sum_both, sum_modulo}
use Rattle.attributes.proofs.NineLaws.{octets_summed, octets_sized}
use Rattle.himib.specs.Runs.{Point, start, counter_at, total_octets, history_of}
use Rattle.pass.specs.Judged.{happens, history, run}
use Rattle.pass.specs.Pass.{credit, octet_credit, sum_of, Between, ReadingsByPast}
use Rattle.pass.proofs.Credited.{met_in, credit_burst, octets_burst, Sort, burst, other, sort, Fit, fit_run, fit_start}
use Rattle.pass.proofs.Counters.{counted_from}

-- THE OCTETS OF ONE RECORD

module _ (p : Point) (bs : List ℕ) where
  octets_shared : sum_over 9 (λ i. credit i 1 (happens p bs)) ≡ octet_credit (happens p bs)
  octets_shared = go (sort p bs)
    where
      go : Sort p bs → sum_over 9 (λ i. credit i 1 (happens p bs)) ≡ octet_credit (happens p bs)
      go (burst b e) =
          sum_same 9 _ _ (λ i l. credit_burst p bs b e i 1)
          ∙ octets_summed p.chip.attributes (met_in p b) b (record_of bs).source
          ∙ sym (octets_burst p bs b e)
      go (other k) = sum_none 9 _ (λ i l. k.credits i 1) ∙ sym k.octet_credits

-- the nine ports' octets are those of Total Octets
octets_of_all : (p : Point) (rs : List (List ℕ)) → sum_over 9 (λ i. sum_of (credit i 1) (history p rs)) ≡ sum_of octet_credit (history p rs)
unfolding history_of sum_of
octets_of_all p [] = sum_none 9 _ (λ i l. refl)
octets_of_all p (r ∷ rs) =
    sum_both 9 (λ i. credit i 1 (happens p r)) (λ i. sum_of (credit i 1) (history (happens p r).after rs))
    ∙ ap₂ (λ (m n : ℕ). m + n) (octets_shared p r) (octets_of_all (happens p r).after rs)

-- THE SIZE OF A READABLE FRAME

abbrev Sized : ℕ → ℕ → Type 0
Sized frames octets = (64 * frames ≤ octets) × (octets ≤ 1518 * frames)

module _ (i : ℕ) where
  credits_sized : (p : Point) (bs : List ℕ) → Sized (credit i 0 (happens p bs)) (credit i 1 (happens p bs))
  credits_sized p bs = go (sort p bs)
    where
      go : Sort p bs → Sized (credit i 0 (happens p bs)) (credit i 1 (happens p bs))
      go (burst b e) =
          rw (credit_burst p bs b e i 0, credit_burst p bs b e i 1) (octets_sized p.chip.attributes (met_in p b) b (record_of bs).source i)
      go (other k) = rw (k.credits i 0, k.credits i 1) (omega arith, omega arith)

  sums_sized : (p : Point) (rs : List (List ℕ)) → Sized (sum_of (credit i 0) (history p rs)) (sum_of (credit i 1) (history p rs))
  unfolding history_of sum_of
  sums_sized p [] = (omega arith, omega arith)
  sums_sized p (r ∷ rs) =
      let a = credits_sized p r in
      let b = sums_sized (happens p r).after rs in
      (omega arith, omega arith)

-- A RUN

module _ (p : Point) (fit : Fit p) (rs : List (List ℕ)) where
  reading : (i r : ℕ) → i < 9 → r < 13 → difference_of (counter_at i r (run p rs)) (counter_at i r p) ≡ sum_of (credit i r) (history p rs) % 2 ^ 32
  reading i r l m = difference_of_sum _ _ _ (fit.attributes.low i r l m) ((counted_from p fit rs).each_counter i r l m)

  reading_octets : difference_of (total_octets (run p rs)) (total_octets p) ≡ sum_of octet_credit (history p rs) % 2 ^ 32
  reading_octets = difference_of_sum _ _ _ fit.octets-low (counted_from p fit rs).octets

  pub between : Between p rs
  between = record {
    readings = reading;
    collisions = difference_of_sum _ _ _ fit.collisions-low (counted_from p fit rs).collisions;
    octets = reading_octets;
    totals =
        reading_octets
        ∙ ap (λ (n : ℕ). n % 2 ^ 32) (sym (octets_of_all p rs))
        ∙ sym (sum_modulo 9 (λ i. sum_of (credit i 1) (history p rs)))
        ∙ ap (λ (n : ℕ). n % 2 ^ 32) (sym (sum_same 9 _ _ (λ i l. reading i 1 l (lit< tt))));
    bound = λ i l few.
        let s = sums_sized i p rs in
        let f : difference_of (counter_at i 0 (run p rs)) (counter_at i 0 p) ≡ sum_of (credit i 0) (history p rs) = reading i 0 l (lit< tt) ∙ (omega arith) in
        let o : difference_of (counter_at i 1 (run p rs)) (counter_at i 1 p) ≡ sum_of (credit i 1) (history p rs) = reading i 1 l (lit< tt) ∙ (omega arith) in
        (f, rw o s.0, rw o s.1, rw (f, o) (check_passed _ _ few s.0 s.1));
  }

-- its instance: brink_given, read-at, totals_at and bound-at of Instances
pub readings_by_past : ReadingsByPast
readings_by_past given g before rs =
    between (run (start given) before) (fit_run (start given) before (fit_start given g)) rs
