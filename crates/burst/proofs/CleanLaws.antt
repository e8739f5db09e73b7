-- What a burst is for the ports: the sets' cases, as the code's masks make them. Assumes nothing.
--   collided_lasts_not == no burst that a port collides on is one that is clean for it and lasts
use Prim.Native.Nat.{ℕ, ◌-◌, ◌<◌}
use mathlib.Core.Path.{◌≡◌, ◌∙◌}
use mathlib.Core.Bool.{Bool, true, false, not, ◌&&◌, ◌||◌, and_comm, and-true, and-false}
use native.Mathlib.Omega.{arith}
use lib.Dec.{ltb}
use lib.Bits.{bit_and, bit_or, or_lt, and_le_l}
use Rattle.ports.specs.Sets.{has, set_of, without}
use Rattle.ports.proofs.Sets.{has_and, has_or, has_none, has_gather, has_without, is_gather, gather_lt, gather_same}
use Rattle.burst.specs.declared.Activity.{Activity}
use Rattle.burst.specs.declared.Hearing.{Hearing}
use Rattle.burst.specs.declared.Effect.{Effect}
use Rattle.burst.specs.Clean.{lasting_above, is_jam, is_rep, data_to, clean_at, lasting_at, reconnecting_at}

-- a set from what it has at every place
module _ (k : ℕ → Bool) where
  pub none_set : ((i : ℕ) → false ≡ k i) → 0 ≡ set_of k
  none_set e = is_gather 16 0 k (omega arith) (λ i h. has_none i ∙ e i)

  pub same_set : (c : ℕ) → c < 65536 → ((i : ℕ) → has c i ≡ k i) → c ≡ set_of k
  same_set c l e = is_gather 16 c k l (λ i h. e i)

  pub both_set : (f : ℕ → Bool) (c d : ℕ) → c < 65536 → d ≡ set_of f → ((i : ℕ) → (has c i && f i) ≡ k i) → bit_and c d ≡ set_of k
  both_set f c d l q e = is_gather 16 (bit_and c d) k (omega (arith, and_le_l c d)) (λ i h. has_and c d i ∙ rw (q, has_gather 16 f i h) (e i))

-- the ports that data goes out to
module _ (effect : Effect) where
  pub data_rep : effect.out < 65536 → is_rep effect.word ≡ true → effect.out ≡ set_of (data_to effect)
  unfolding data_to
  data_rep l e = is_gather 16 effect.out (data_to effect) l (λ i h. rw e)

  pub data_none : is_rep effect.word ≡ false → 0 ≡ set_of (data_to effect)
  unfolding data_to
  data_none e = none_set (data_to effect) (λ i. rw e)

-- the ports that the burst is clean for
module _ (hearing : Hearing) (effect : Effect) where
  pub clean_jam : is_jam effect.word ≡ true → 0 ≡ set_of (clean_at hearing effect)
  unfolding clean_at
  clean_jam e = none_set (clean_at hearing effect) (λ i. rw e)

  pub clean_rest : (d : ℕ) → hearing.e < 65536 → effect.collided < 65536 → is_jam effect.word ≡ false → d ≡ set_of (data_to effect)
      → without (bit_or hearing.e d) effect.collided ≡ set_of (clean_at hearing effect)
  unfolding clean_at
  clean_rest d l k e q =
      let n = bit_or hearing.e d in
      let m : n < 65536 = or_lt 16 hearing.e d l (rw q (gather_lt 16 (data_to effect))) in
      is_gather 16 (without n effect.collided) (clean_at hearing effect) (omega (arith, and_le_l n (65535 - effect.collided)))
      (λ i h. has_without n effect.collided i k h
      ∙ rw (has_or hearing.e d i, q, has_gather 16 (data_to effect) i h, e)
      (and_comm (has hearing.e i || data_to effect i) (not (has effect.collided i))))

  -- the ports that it lasts for as well
  module _ (activity : Activity) where
    pub lasting_long : (c : ℕ) → c ≡ set_of (clean_at hearing effect) → ltb lasting_above activity.d ≡ true
        → c ≡ set_of (lasting_at hearing effect activity)
    unfolding lasting_at
    lasting_long c q e = q ∙ gather_same 16 (clean_at hearing effect) (lasting_at hearing effect activity) (λ i l. simp (e, and-true))

    pub lasting_short : ltb lasting_above activity.d ≡ false → 0 ≡ set_of (lasting_at hearing effect activity)
    unfolding lasting_at
    lasting_short e = none_set (lasting_at hearing effect activity) (λ i. simp (e, and-false))

    pub collided_lasts_not : (i : ℕ) → has effect.collided i ≡ true → lasting_at hearing effect activity i ≡ false
    unfolding lasting_at clean_at
    collided_lasts_not i h = simp (h, and-false)

-- the ports that it connects again, by the standard algorithm: no less than those that it lasts for
pub reconnecting_all : (effect : Effect) (lasting : ℕ) (alternate : Bool) → lasting < 65536 → alternate ≡ false
    → lasting ≡ set_of (reconnecting_at effect lasting alternate)
unfolding reconnecting_at
reconnecting_all effect lasting alternate l e = same_set (reconnecting_at effect lasting alternate) lasting l (λ i. simp (e, and-true))
