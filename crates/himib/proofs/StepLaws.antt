-- What a burst and an access leave of the counters and addresses, for the crates above. Assumes nothing.
--   single_met, burst_consistent == the single port of a burst is heard, so that what the burst is due is consistent
--   counter_addressed, address_addressed, proper_addressed == after an access that completed a port's address, or none
use Prim.Native.Nat.{ℕ, ◌≤◌, ◌<◌}
use mathlib.Core.Path.{◌≡◌, refl, sym, ◌∙◌}
use mathlib.Core.Bool.{Bool, true, false, cond, true≢false}
use mathlib.Core.List.{List}
use native.Mathlib.Omega.{arith}
use borrow.Author.Tests.{eq-eqb, ne_eqb, eqb-true, ltb-true, ltb-false}
use lib.Dec.{eqb, ltb}
use Rattle.std.specs.Prelude.{Option, Some, None}
use Rattle.ports.specs.Sets.{port_count, is_at}
use Rattle.record.specs.declared.Burst.{Burst}
use Rattle.repeater.specs.Repeater.{burst_of}
use Rattle.repeater.proofs.Hearing.{single_heard}
use Rattle.attributes.specs.declared.Nine.{Nine}
use Rattle.attributes.specs.Nine.{counter_of, address_of, readdressed, Proper}
use Rattle.attributes.specs.Credits.{due_of, SingleHeard, Consistent}
use Rattle.attributes.proofs.NineLaws.{counter_readdressed, address_readdressed, proper_readdressed, due_consistent}
use Rattle.chip.specs.declared.Core.{Core}
use Rattle.himib.specs.Bursts.{activity_of, met_by}
use Rattle.himib.specs.Step.{addressed_at}

module _ (c : Core) (b : Burst) where
  pub single_met : SingleHeard (met_by c (burst_of c.repeater (activity_of b)))
  single_met p e l = single_heard c.repeater (activity_of b) p (rw (e, eq-eqb p p refl))

  pub burst_consistent : (nine : Nine) (source : List ℕ) → Consistent (due_of nine (met_by c (burst_of c.repeater (activity_of b))) b source)
  burst_consistent nine source = due_consistent nine (met_by c (burst_of c.repeater (activity_of b))) b source single_met

-- either way round
pub eqb_turned : (i p : ℕ) → eqb i p ≡ eqb p i
eqb_turned i p = go (eqb i p) refl
  where
    go : (a : Bool) → eqb i p ≡ a → a ≡ eqb p i
    go true e = sym (eq-eqb p i (sym (eqb-true i p e)))
    go false e = sym (ne_eqb p i (λ k. absurd (true≢false (sym (eq-eqb i p (sym k)) ∙ e))))

-- of a port
chosen : (q : ℕ) (source : List ℕ) (nine : Nine) (P : Nine → Type 0) → (q < port_count → P (readdressed q source nine)) → (port_count ≤ q → P nine)
    → P (addressed_at (Some q) source nine)
unfolding addressed_at
chosen q source nine P there past = go (ltb q port_count) refl
  where
    go : (t : Bool) → ltb q port_count ≡ t → P (cond t (readdressed q source nine) nine)
    go true e = there (ltb-true q port_count e)
    go false e = past (ltb-false q port_count e)

pub counter_addressed : (q : Option ℕ) (source : List ℕ) (nine : Nine) (i r : ℕ) → counter_of (addressed_at q source nine) i r ≡ counter_of nine i r
unfolding addressed_at
counter_addressed (Some q) source nine i r =
    chosen q source nine (λ n. counter_of n i r ≡ counter_of nine i r) (λ l. counter_readdressed q source nine i r) (λ l. refl)
counter_addressed None source nine i r = refl

pub proper_addressed : (q : Option ℕ) (source : List ℕ) (nine : Nine) → Proper nine → Proper (addressed_at q source nine)
unfolding addressed_at
proper_addressed (Some q) source nine proper = chosen q source nine Proper (λ l. proper_readdressed q source nine proper) (λ l. proper)
proper_addressed None source nine proper = proper

pub address_addressed : (q : Option ℕ) (source : List ℕ) (nine : Nine) → Proper nine → (i : ℕ) → i < port_count
    → address_of (addressed_at q source nine) i ≡ cond (is_at q i) source (address_of nine i)
unfolding addressed_at
address_addressed (Some q) source nine proper i l =
    chosen q source nine (λ n. address_of n i ≡ cond (eqb i q) source (address_of nine i))
    (λ m. rw (eqb_turned i q) (address_readdressed q source nine proper i l))
    (λ m. rw (ne_eqb i q (λ e. omega arith)))
address_addressed None source nine proper i l = refl
