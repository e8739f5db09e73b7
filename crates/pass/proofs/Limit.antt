-- D2f: the short event limit decides, as power-up was given it. Assumes nothing.
--   answered      == what power-up answers
--   starts_with   == the limit at power-up is the one that was given
--   judged        == a burst that is heard alone, at a point that goes by the limit l
--   limit_decides == the theorem
use Prim.Native.Nat.{ℕ, ◌+◌, ◌%◌, ◌^◌, ◌≤◌, ◌<◌}
use mathlib.Core.Path.{◌≡◌, refl, sym, ap, subst, ◌∙◌}
use mathlib.Core.Bool.{Bool, true, false, true≢false}
use mathlib.Core.List.{List}
use native.Mathlib.Omega.{arith}
use lib.Dec.{lit<}
use Rattle.record.specs.declared.Burst.{Burst}
use Rattle.record.specs.declared.Asked.TheVariants as ask
use Rattle.record.specs.Accepted.{BurstBounds, Bounded}
use Rattle.record.specs.Refusals.{record_of}
use Rattle.record.proofs.Accepted.{bounded}
use Rattle.attributes.specs.Credits.{class_of, credit_of}
use Rattle.attributes.specs.Nine.{short_events, runts}
use Rattle.attributes.specs.OneClass.{Falls, OnlyClass, Among}
use Rattle.attributes.specs.OneClass as Class
use Rattle.attributes.proofs.OneClass.{falls, single_port}
use Rattle.chip.specs.declared.Choices.{Choices}
use Rattle.chip.specs.declared.Supply.{Supply}
use Rattle.chip.specs.Chip.{fits}
use Rattle.chip.proofs.ChipLaws.{fits_seven, seven_fits, refusal_fit, refusal_other, settled_fit, settled_other}
use Rattle.himib.specs.Runs.{Point, happening, start, counter_at, limit_at}
use Rattle.pass.specs.Judged.{happens, run}
use Rattle.pass.specs.Limit.{Seven, limit_of, with_limit, Answered, HeardAlone, as_before, Judges, LimitDecides}
use Rattle.pass.proofs.Credited.{Fit, met_in, due_in, credit_burst, credited, fit_start, fit_run, limit_run}

-- WHAT POWER-UP ANSWERS

module _ (given : Supply) where
  abbrev choices : Choices
  choices = given.kept.choices

  number_of : (t : Bool) → fits choices ≡ t → Answered given
  number_of true e = record {
    taken = record { forth = λ n. fits_seven choices e; back = λ s. refusal_fit choices e };
    refused = record { forth = λ n. absurd (let z = refusal_fit choices e in omega arith); back = λ s. absurd (s (fits_seven choices e)) };
    beside = λ s. absurd (s (fits_seven choices e));
  }
  number_of false e = record {
    taken = record { forth = λ n. absurd (let z = refusal_other choices e in omega arith); back = λ s. absurd (no s) };
    refused = record { forth = λ n. no; back = λ s. refusal_other choices e };
    beside = λ s. rw (settled_other choices e, settled_fit (with_limit given 78).kept.choices refl);
  }
    where
      no : Seven (limit_of given) → ⊥
      no s = true≢false (sym (seven_fits choices s) ∙ e)

  answered : Answered given
  answered = number_of (fits choices) refl

  starts_with : Seven (limit_of given) → limit_at (start given) ≡ limit_of given
  starts_with s = ap (λ (k : Choices). k.short_limit) (settled_fit choices (seven_fits choices s))

-- WHAT A BURST IS COUNTED IN

not_short : (l : ℕ) (b : Burst) (r : ℕ) → Falls l b r → l ≤ b.d → short_events ≡ r → ⊥
not_short l b r (Class.short d) h e = omega arith
not_short l b r (Class.runt d n) h e = omega arith
not_short l b r (Class.too_long d n) h e = omega arith
not_short l b r (Class.misaligned d m o f k) h e = omega arith
not_short l b r (Class.faulty d m o f k) h e = omega arith
not_short l b r (Class.good d m o f) h e = omega arith

-- a counter's place among the classes
short_listed : Among short_events Class.classes
short_listed = Class.later (Class.later (Class.later (Class.later Class.here)))

runt_listed : Among runts Class.classes
runt_listed = Class.later (Class.later (Class.later (Class.later (Class.later Class.here))))

bounds_of : (bs : List ℕ) (b : Burst) → (record_of bs).asked ≡ ask.Burst b → BurstBounds b
bounds_of bs b e = subst Bounded e (bounded bs)

module _ (p : Point) (fit : Fit p) (l : ℕ) (is : limit_at p ≡ l) (r : List ℕ) (b : Burst) (i : ℕ) (h : HeardAlone (happens p r) b i) where
  -- what the class is credited with, and no other
  only : (q : ℕ) → Falls l b q → OnlyClass (credit_of (due_in p b (record_of r).source) b i) q
  unfolding happening
  only q f =
      single_port p.chip.attributes (met_in p b) b (record_of r).source i q h.single h.calm (subst (λ (k : ℕ). Falls k b q) (sym is) f)

  credit_is : (k n : ℕ) → credit_of (due_in p b (record_of r).source) b i k ≡ n → k < 13
      → counter_at i k (happens p r).after ≡ (counter_at i k (happens p r).before + n) % 2 ^ 32
  unfolding happening
  credit_is k n e m =
      (credited p r fit).each_counter i k h.port m
      ∙ ap (λ (c : ℕ). (counter_at i k p + c) % 2 ^ 32) (credit_burst p r b h.burst i k ∙ e)

  still : (k : ℕ) → credit_of (due_in p b (record_of r).source) b i k ≡ 0 → k < 13 → as_before i k (happens p r)
  unfolding happening
  still k e m =
      let low = fit.attributes.low i k h.port m in
      let moves = credit_is k 0 e m in
      omega arith

  its_bounds : BurstBounds b
  unfolding happening
  its_bounds = bounds_of r b h.burst

  judged : Seven l → Judges l (happens p r) b i
  judged s = record {
    below = λ d.
        let c = only short_events (Class.short d) in
        (credit_is 5 1 c.is (lit< tt), still 6 (c.alone runts runt_listed (λ e. omega arith)) (lit< tt));
    from = λ d.
        let c = only (class_of l b) (falls l b) in
        still 5 (c.alone short_events short_listed (not_short l b (class_of l b) (falls l b) d)) (lit< tt);
    exactly = λ e.
        let low = its_bounds.octets_within in
        let c = only runts (Class.runt (omega arith) (omega arith)) in
        credit_is 6 1 c.is (lit< tt);
  }

-- its instances: numbers_answered; some_given, heard_at_lem and judged_at; reset_between of LimitAt
pub limit_decides : LimitDecides
limit_decides =
    record {
      answers = answered;
      stays = λ given s rs. limit_run (start given) rs ∙ starts_with given s;
      judges = λ given g s before r b i h.
          judged (run (start given) before) (fit_run (start given) before (fit_start given g)) (limit_of given)
          (limit_run (start given) before ∙ starts_with given s) r b i h s;
    }
