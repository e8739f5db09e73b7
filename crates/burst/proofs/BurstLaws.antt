-- The cases of the burst's definitions, as the code's masks make them. Assumes nothing.
use Prim.Native.Nat.{ℕ, ◌-◌, ◌<◌}
use mathlib.Core.Path.{◌≡◌, refl, sym, ◌∙◌}
use mathlib.Core.Bool.{Bool, true, false, not, ◌&&◌, ◌||◌, and-true, or-false}
use native.Mathlib.Omega.{arith}
use Rattle.std.specs.Prelude.{Some, None}
use lib.Dec.{eqb}
use lib.Bits.{bit_and, bit_or, or_lt, and_le_l}
use Rattle.ports.specs.Sets.{aui, has, set_of, without}
use Rattle.ports.proofs.Sets.{has_and, has_or, has_gather, has_without, is_gather, gather_lt, set_and, set_empty}
use Rattle.burst.specs.declared.Activity.{Activity}
use Rattle.burst.specs.declared.Bus.{Bus}
use Rattle.burst.specs.declared.Word.{Word}
use Rattle.burst.specs.declared.Word.TheVariants.{Nil, Jam}
use Rattle.burst.specs.declared.Heard.{Heard}
use Rattle.burst.specs.declared.Hearing.{Hearing}
use Rattle.burst.specs.declared.Effect.{Effect}
use Rattle.burst.specs.Burst.{in_e, signalled, word_of_one, effect_with}

module _ (activity : Activity) where
  pub active_signal : (k : ℕ) → activity.mask < 65536 → activity.collision_signal ≡ true → k ≡ set_of (λ i. eqb i aui)
      → bit_or activity.mask k ≡ set_of (in_e activity)
  active_signal k l s e =
      is_gather 16 (bit_or activity.mask k) (in_e activity) (or_lt 16 activity.mask k l (rw e (gather_lt 16 (λ i. eqb i aui))))
      (λ i h. has_or activity.mask k i ∙ rw (e, has_gather 16 (λ i. eqb i aui) i h, s))

  pub active_mask : activity.mask < 65536 → activity.collision_signal ≡ false → activity.mask ≡ set_of (in_e activity)
  active_mask l s = is_gather 16 activity.mask (in_e activity) l (λ i h. sym (rw s (or-false (has activity.mask i))))

-- the bus brings nothing: it can bring nothing else
pub no_other : (bus : Bus) → bus ≡ Bus.Nothing
no_other Bus.Nothing = refl

-- the ports that collide
module _ (activity : Activity) (hearing : Hearing) where
  pub collided_signal : (k : ℕ) → activity.collision_signal ≡ true → k ≡ set_of (λ i. eqb i aui)
      → bit_and k hearing.t ≡ (effect_with Bus.Nothing Heard.Nothing hearing activity).collided
  unfolding effect_with
  collided_signal k s q =
      let m : k < 65536 = rw q (gather_lt 16 (λ i. eqb i aui)) in
      is_gather 16 (bit_and k hearing.t) (λ i. activity.collision_signal && eqb i aui && has hearing.t i) (omega (arith, and_le_l k hearing.t))
      (λ i h. has_and k hearing.t i ∙ rw (q, has_gather 16 (λ i. eqb i aui) i h, s))

  pub collided_none : activity.collision_signal ≡ false → 0 ≡ (effect_with Bus.Nothing Heard.Nothing hearing activity).collided
  unfolding effect_with
  collided_none s = rw s set_empty

  pub collided_one_all : (p : ℕ) → hearing.e < 65536 → signalled p activity ≡ true
      → bit_and hearing.e hearing.t ≡ (effect_with Bus.Nothing (Heard.One p) hearing activity).collided
  unfolding effect_with
  collided_one_all p l s =
      let e = hearing.e in
      let t = hearing.t in
      is_gather 16 (bit_and e t) (λ i. has e i && has t i && (signalled p activity || not (eqb i p))) (omega (arith, and_le_l e t))
      (λ i h. has_and e t i ∙ simp (s, and-true))

  pub collided_one_rest : (p k : ℕ) → hearing.e < 65536 → signalled p activity ≡ false → k ≡ set_of (λ i. eqb i p)
      → without (bit_and hearing.e hearing.t) k ≡ (effect_with Bus.Nothing (Heard.One p) hearing activity).collided
  unfolding effect_with
  collided_one_rest p k l s q =
      let e = hearing.e in
      let t = hearing.t in
      is_gather 16 (without (bit_and e t) k) (λ i. has e i && has t i && (signalled p activity || not (eqb i p)))
      (omega (arith, and_le_l (bit_and e t) (65535 - k), and_le_l e t))
      (λ i h. has_without (bit_and e t) k i (rw q (gather_lt 16 (λ i. eqb i p))) h
      ∙ rw (has_and e t i, q, has_gather 16 (λ i. eqb i p) i h, s))

-- what follows, from its parts
module _ (activity : Activity) (hearing : Hearing) where
  pub with_none : (c : ℕ) → c ≡ (effect_with Bus.Nothing Heard.Nothing hearing activity).collided
      → ◌≡◌ {A = Effect} (record { word = Nil; out = 0; collided = c; single = None; collision = false; transmit_collision = false })
      (effect_with Bus.Nothing Heard.Nothing hearing activity)
  unfolding effect_with
  with_none c p = rw (p, ← set_empty)

  out_one : (p k : ℕ) → hearing.t < 65536 → k ≡ set_of (λ i. eqb i p) → without hearing.t k ≡ set_of (λ i. has hearing.t i && not (eqb i p))
  out_one p k l e =
      let t = hearing.t in
      is_gather 16 (without t k) (λ i. has t i && not (eqb i p)) (omega (arith, and_le_l t (65535 - k)))
      (λ i h. has_without t k i (rw e (gather_lt 16 (λ i. eqb i p))) h ∙ rw (e, has_gather 16 (λ i. eqb i p) i h))

  pub with_one : (p k o c : ℕ) (w : Word) (z : Bool) → hearing.t < 65536 → w ≡ word_of_one p activity → k ≡ set_of (λ i. eqb i p) → o ≡ without hearing.t k
      → c ≡ (effect_with Bus.Nothing (Heard.One p) hearing activity).collided → z ≡ signalled p activity
      → ◌≡◌ {A = Effect} (record { word = w; out = o; collided = c; single = Some p; collision = z; transmit_collision = false })
      (effect_with Bus.Nothing (Heard.One p) hearing activity)
  unfolding effect_with
  with_one p k o c w z l a b d e f = rw (a, d ∙ out_one p k l b, e, f)

  pub with_more : hearing.t < 65536 → hearing.e < 65536
      → ◌≡◌ {A = Effect}
      (record { word = Jam; out = hearing.t; collided = bit_and hearing.e hearing.t; single = None; collision = true; transmit_collision = true })
      (effect_with Bus.Nothing Heard.More hearing activity)
  unfolding effect_with
  with_more l m =
      let e = hearing.e in
      let t = hearing.t in
      rw (set_and e t m, ← is_gather 16 t (λ i. has t i) l (λ i h. refl))
