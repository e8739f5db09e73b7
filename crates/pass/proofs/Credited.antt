-- What one record does to the counters and to the two totals: a burst credits them, and nothing else, no address write and no reset, changes any. The
-- instances stand above these laws, so that a wrong model is refused at a computed value first. Assumes nothing.
--   Fit p         == the attributes and totals at the point p are such as the caller can give
--   met_in p b     == the burst b as the repeater meets it at p; due_in p b s == what it is due there, from the address s
--   Left p bs     == the record bs, met at p, leaves the counters and both totals alone, and credits nothing
--   Sort p bs     == it is a burst, or it leaves them so; sort == every record is of one of the two sorts
--   Credited p bs == the record bs, met at p, credits each counter and both totals
--   credited      == so does every record, at every point that is fit
--   fit_start     == power-up is fit; fit_after == and the next point is fit again; fit_run, after any list of records
--   choices_after == what was chosen at power-up stays; so does the limit: limit_after, limit_run
use Prim.Native.Nat.{ℕ, ◌+◌, ◌%◌, ◌^◌, ◌<◌}
use mathlib.Core.Path.{◌≡◌, refl, ap, ◌∙◌}
use mathlib.Core.List.{List, [], ◌∷◌}
use native.Mathlib.Omega.{arith}
use Rattle.std.specs.Prelude.{Option, None}
use Rattle.record.specs.declared.Burst.{Burst}
use Rattle.record.specs.declared.Access.{Access}
use Rattle.record.specs.declared.Asked.{Asked}
use Rattle.record.specs.declared.Asked.TheVariants as ask
use Rattle.record.specs.Refusals.{record_of}
use Rattle.repeater.specs.Repeater.{burst_of}
use Rattle.attributes.specs.declared.Met.{Met}
use Rattle.attributes.specs.declared.Due.{Due}
use Rattle.attributes.specs.Nine.{Proper}
use Rattle.attributes.specs.Credits.{due_of, credit_of, credited_all}
use Rattle.attributes.proofs.NineLaws.{counter_credited, proper_credited}
use Rattle.chip.specs.declared.Choices.{Choices}
use Rattle.chip.specs.declared.Kept.{Kept}
use Rattle.chip.specs.declared.Supply.{Supply}
use Rattle.chip.specs.Chip.{moved}
use Rattle.access.specs.declared.Acted.{Acted}
use Rattle.access.specs.Access.{served}
use Rattle.access.proofs.Cases.{served_kept}
use Rattle.himib.specs.Bursts.{activity_of, met_by, burst_core, noted_on, burst_on}
use Rattle.himib.specs.Step.{addressed_at, taken, step_of}
use Rattle.himib.proofs.StepLaws.{burst_consistent, counter_addressed, proper_addressed}
use Rattle.himib.specs.Runs.{Point, happening, start, Given, if_burst, repeater_at, counter_at, transmit_collisions, total_octets, limit_at, run_of}
use Rattle.pass.specs.Judged.{happens, run}
use Rattle.pass.specs.Pass.{credit, collision_credit, octet_credit}
use Rattle.pass.proofs.Boundaries
use Rattle.pass.proofs.Instances
use Rattle.pass.proofs.LimitAt

abbrev pub Fit : Point → Type 0
Fit p = Given (record { attributes = p.chip.attributes; kept = p.chip.core.kept })

-- whatever is chosen
pub fit_start : (given : Supply) → Given given → Fit (start given)
fit_start given g = record { attributes = g.attributes; collisions-low = g.collisions-low; octets-low = g.octets-low }

-- A BURST

abbrev pub met_in : Point → Burst → Met
met_in p b = met_by p.chip.core (burst_of (repeater_at p) (activity_of b))

abbrev pub due_in : Point → Burst → List ℕ → Due
due_in p b source = due_of p.chip.attributes (met_in p b) b source

module _ (p : Point) (bs : List ℕ) (b : Burst) (e : (record_of bs).asked ≡ ask.Burst b) where
  pub attributes_burst : (happens p bs).after.chip.attributes ≡ credited_all (due_in p b (record_of bs).source) b (record_of bs).source p.chip.attributes
  unfolding happening step_of taken noted_on burst_on
  attributes_burst = rw e

  pub credit_burst : (i r : ℕ) → credit i r (happens p bs) ≡ credit_of (due_in p b (record_of bs).source) b i r
  unfolding happening step_of taken noted_on burst_on burst_core moved credit if_burst
  credit_burst i r = rw e

  pub octets_burst : octet_credit (happens p bs) ≡ (due_in p b (record_of bs).source).octets
  unfolding happening step_of taken noted_on burst_on burst_core moved octet_credit if_burst
  octets_burst = rw e

  collisions_counted : transmit_collisions (happens p bs).after ≡ (transmit_collisions p + collision_credit (happens p bs)) % 2 ^ 32
  unfolding happening step_of taken noted_on burst_on burst_core moved collision_credit if_burst
  collisions_counted = rw e

  octets_counted : total_octets (happens p bs).after ≡ (total_octets p + octet_credit (happens p bs)) % 2 ^ 32
  unfolding happening step_of taken noted_on burst_on burst_core moved octet_credit if_burst
  octets_counted = rw e

  counter_counted : Proper p.chip.attributes → (i r : ℕ) → i < 9 → r < 13
      → counter_at i r (happens p bs).after ≡ (counter_at i r p + credit i r (happens p bs)) % 2 ^ 32
  counter_counted proper i r l m =
      rw (credit_burst i r, attributes_burst)
      (counter_credited (due_in p b (record_of bs).source) b (record_of bs).source p.chip.attributes proper
      (burst_consistent p.chip.core b p.chip.attributes (record_of bs).source) i r l m)

  choices_burst : (happens p bs).after.chip.core.kept.choices ≡ p.chip.core.kept.choices
  unfolding happening step_of taken noted_on burst_on burst_core moved
  choices_burst = rw e

  proper_burst : Proper p.chip.attributes → Proper (happens p bs).after.chip.attributes
  proper_burst proper = rw attributes_burst (proper_credited (due_in p b (record_of bs).source) b (record_of bs).source p.chip.attributes proper)

-- EVERY OTHER RECORD

pub record Left (p : Point) (bs : List ℕ) : Type 0 where
  pub counters : (i r : ℕ) → counter_at i r (happens p bs).after ≡ counter_at i r p
  pub proper : Proper p.chip.attributes → Proper (happens p bs).after.chip.attributes
  pub kept : (happens p bs).after.chip.core.kept ≡ p.chip.core.kept
  pub credits : (i r : ℕ) → credit i r (happens p bs) ≡ 0
  pub collision_credits : collision_credit (happens p bs) ≡ 0
  pub octet_credits : octet_credit (happens p bs) ≡ 0

pub data Sort (p : Point) (bs : List ℕ) : Type 0 where
  burst : (b : Burst) → (record_of bs).asked ≡ ask.Burst b → Sort p bs
  other : Left p bs → Sort p bs

module _ (p : Point) (bs : List ℕ) where
  -- an address is written at most
  left : (q : Option ℕ) (source : List ℕ) → (happens p bs).after.chip.attributes ≡ addressed_at q source p.chip.attributes
      → (happens p bs).after.chip.core.kept ≡ p.chip.core.kept → ((x : ℕ) (f : Burst → ℕ) → if_burst x f (record_of bs).asked ≡ x) → Left p bs
  unfolding happening credit collision_credit octet_credit
  left q source e k n = record {
    counters = λ i r. rw e (counter_addressed q source p.chip.attributes i r);
    proper = λ proper. rw e (proper_addressed q source p.chip.attributes proper);
    kept = k;
    credits = λ i r. n 0 _;
    collision_credits = n 0 _;
    octet_credits = n 0 _;
  }

  abbrev acted : Access → Acted
  acted a = served a p.chip.core p.chip.attributes p.host

  pub sort : Sort p bs
  unfolding happening step_of taken addressed_at moved if_burst
  sort = go (record_of bs).asked refl
    where
      go : (a : Asked) → (record_of bs).asked ≡ a → Sort p bs
      go (ask.Burst b) e = burst b e
      go (ask.Quiet q) e = other (left None [] (rw e) (rw e) (λ x f. rw e))
      go (ask.Access a) e =
          other (left (acted a).port (acted a).host.bytes (rw e) (rw e (served_kept p.chip.core p.chip.attributes p.host a)) (λ x f. rw e))
      go ask.Reset e = other (left None [] (rw e) (rw e) (λ x f. rw e))
      go (ask.Refused k) e = other (left None [] (rw e) (rw e) (λ x f. rw e))

-- ONE RECORD

pub record Credited (p : Point) (bs : List ℕ) : Type 0 where
  pub each_counter : (i r : ℕ) → i < 9 → r < 13 → counter_at i r (happens p bs).after ≡ (counter_at i r p + credit i r (happens p bs)) % 2 ^ 32
  pub collisions : transmit_collisions (happens p bs).after ≡ (transmit_collisions p + collision_credit (happens p bs)) % 2 ^ 32
  pub octets : total_octets (happens p bs).after ≡ (total_octets p + octet_credit (happens p bs)) % 2 ^ 32

below : (m n : ℕ) → m ≡ n % 2 ^ 32 → m < 2 ^ 32
below m n e = omega arith

-- no credit, no move
unmoved : (m n c : ℕ) → n < 2 ^ 32 → m ≡ n → c ≡ 0 → m ≡ (n + c) % 2 ^ 32
unmoved m n c l e z = omega arith

module _ (p : Point) (bs : List ℕ) (fit : Fit p) where
  pub credited : Credited p bs
  credited = go (sort p bs)
    where
      go : Sort p bs → Credited p bs
      go (burst b e) =
          record {
            each_counter = counter_counted p bs b e fit.attributes;
            collisions = collisions_counted p bs b e;
            octets = octets_counted p bs b e;
          }
      go (other k) =
          record {
            each_counter = λ i r l m. unmoved _ _ _ (fit.attributes.low i r l m) (k.counters i r) (k.credits i r);
            collisions = unmoved _ _ _ fit.collisions-low (ap (λ (t : Kept). t.transmit_collisions) k.kept) k.collision_credits;
            octets = unmoved _ _ _ fit.octets-low (ap (λ (t : Kept). t.total_octets) k.kept) k.octet_credits;
          }

  proper_after : Proper (happens p bs).after.chip.attributes
  proper_after = go (sort p bs)
    where
      go : Sort p bs → Proper (happens p bs).after.chip.attributes
      go (burst b e) = proper_burst p bs b e fit.attributes
      go (other k) = k.proper fit.attributes

  pub fit_after : Fit (happens p bs).after
  fit_after = record { attributes = proper_after; collisions-low = below _ _ credited.collisions; octets-low = below _ _ credited.octets }

pub fit_run : (p : Point) (rs : List (List ℕ)) → Fit p → Fit (run p rs)
unfolding run_of
fit_run p [] fit = fit
fit_run p (r ∷ rs) fit = fit_run (happens p r).after rs (fit_after p r fit)

-- WHAT WAS CHOSEN

pub choices_after : (p : Point) (bs : List ℕ) → (happens p bs).after.chip.core.kept.choices ≡ p.chip.core.kept.choices
choices_after p bs = go (sort p bs)
  where
    go : Sort p bs → (happens p bs).after.chip.core.kept.choices ≡ p.chip.core.kept.choices
    go (burst b e) = choices_burst p bs b e
    go (other k) = ap (λ (t : Kept). t.choices) k.kept

pub limit_after : (p : Point) (bs : List ℕ) → limit_at (happens p bs).after ≡ limit_at p
limit_after p bs = ap (λ (k : Choices). k.short_limit) (choices_after p bs)

pub limit_run : (p : Point) (rs : List (List ℕ)) → limit_at (run p rs) ≡ limit_at p
unfolding run_of
limit_run p [] = refl
limit_run p (r ∷ rs) = limit_run (happens p r).after rs ∙ limit_after p r
