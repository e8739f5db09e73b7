-- The status bits that a burst sets, as the code's mask of the mistimed port makes them. Assumes nothing.
use Prim.Native.Nat.{ℕ, ◌%◌, ◌<◌}
use mathlib.Core.Path.{◌≡◌, ap, ◌∙◌}
use mathlib.Core.Bool.{Bool, true, false, not, ◌&&◌}
use Rattle.std.specs.Prelude.{Option, None}
use native.Mathlib.Omega.{arith}
use lib.Dec.{eqb, ltb}
use Rattle.ports.specs.Sets.{aui, is_at, has, set_of}
use Rattle.ports.proofs.Sets.{has_gather, low_byte, set_empty}
use Rattle.management.specs.declared.Status.{Status}
use Rattle.burst.specs.declared.Activity.{Activity}
use Rattle.burst.specs.declared.Effect.{Effect}
use Rattle.burst.specs.Marks.{jabber_above, marks_of}

module _ (effect : Effect) (activity : Activity) (m : ℕ) (p q o : Bool) where
  abbrev mistimed_at : ℕ → Bool
  mistimed_at i = activity.rate_error && is_at effect.single i

  pub marks_made : m ≡ set_of mistimed_at → p ≡ has m aui → q ≡ (activity.loopback_missing && has effect.out aui)
      → o ≡ (ltb jabber_above activity.d && not (eqb effect.out 0))
      → ◌≡◌ {A = Status}
      (record {
        rate = p;
        sqe = activity.sqe_test;
        loopback = q;
        rates = m % 256;
        mjlp = o;
      })
      (marks_of effect activity)
  unfolding marks_of
  marks_made e r s t =
      let h : (i : ℕ) → i < 16 → has m i ≡ mistimed_at i = λ i l. ap (λ (n : ℕ). has n i) e ∙ has_gather 16 mistimed_at i l in
      rw (r, s, t, h aui (omega arith), low_byte m mistimed_at (λ i l. h i (omega arith)))

-- the mistimed port is the one heard alone, or none
pub mistimed_none : (activity : Activity) (single : Option ℕ) → activity.rate_error ≡ false → 0 ≡ set_of (λ i. activity.rate_error && is_at single i)
mistimed_none activity single s = rw s set_empty

pub mistimed_away : (activity : Activity) (single : Option ℕ) → single ≡ None → 0 ≡ set_of (λ i. activity.rate_error && is_at single i)
mistimed_away activity single e = rw e (go activity.rate_error)
  where
    go : (t : Bool) → 0 ≡ set_of (λ i. t && false)
    go true = set_empty
    go false = set_empty
