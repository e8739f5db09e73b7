-- A burst's step from its sets is each port's own step. Assumes nothing.
--   algorithms_made == the set that goes by AUI's algorithm at AUI's place and by the TP ports' at all others
--   after_made      == the partition steps, by sets that were taken before them, and then the links: all ports after a burst
use Prim.Native.Nat.{ℕ, ◌-◌, ◌≤◌, ◌<◌}
use mathlib.Core.Path.{◌≡◌, refl, sym, ◌∙◌}
use mathlib.Core.Bool.{Bool, true, false, cond, not, ◌&&◌, ◌||◌}
use native.Mathlib.Omega.{arith}
use borrow.Author.Tests.{leb-true, leb-false}
use lib.Dec.{eqb, leb}
use lib.Bits.{bit_and, bit_or, and_le_l, or_lt}
use Rattle.ports.specs.Sets.{aui, has, set_of, without}
use Rattle.ports.proofs.Sets.{gather_lt, gather_past, has_gather, has_and, has_or, has_without, is_gather}
use Rattle.port.specs.declared.Port.{Port}
use Rattle.port.specs.Link.{revived_at}
use Rattle.burst.specs.declared.Activity.{Activity}
use Rattle.burst.specs.declared.Hearing.{Hearing}
use Rattle.burst.specs.declared.Effect.{Effect}
use Rattle.burst.specs.Clean.{lasting_at, reconnecting_at}
use Rattle.store.specs.declared.Ports.{Ports}
use Rattle.store.specs.declared.Meetings.{Meetings}
use Rattle.store.specs.Door.{each_in, met_in}
use Rattle.store.proofs.DoorLaws.{each_then, same_each}
use Rattle.repeater.specs.Hearing.{meeting_of}
use Rattle.repeater.specs.Repeater.{alternate_for, partitioned_at, port_after}

pub algorithms_made : (a t one rest : ℕ) → a < 65536 → t < 65536 → one ≡ set_of (λ i. eqb i aui) → rest ≡ without t one
    → bit_or (bit_and a one) rest ≡ set_of (λ i. cond (eqb i aui) (has a i) (has t i))
algorithms_made a t one rest l m o e =
    let low : one < 65536 = rw o (gather_lt 16 (λ i. eqb i aui)) in
    is_gather 16 (bit_or (bit_and a one) rest) (λ i. cond (eqb i aui) (has a i) (has t i))
    (or_lt 16 (bit_and a one) rest (omega (arith, and_le_l a one)) (rw e (omega (arith, and_le_l t (65535 - one)))))
    (λ i h. has_or (bit_and a one) rest i
    ∙ rw (has_and a one i, e, has_without t one i low h, o, has_gather 16 (λ j. eqb j aui) i h) (go (eqb i aui) (has a i) (has t i)))
  where
    go : (z x y : Bool) → ((x && z) || (y && not z)) ≡ cond z x y
    go true true true = refl
    go true true false = refl
    go true false true = refl
    go true false false = refl
    go false true true = refl
    go false true false = refl
    go false false true = refl
    go false false false = refl

module _ (for_aui for_tp : Bool) (hearing : Hearing) (effect : Effect) (activity : Activity) (lasting backAui backTp back : ℕ) where
  abbrev Back : ℕ → Bool → Type 0
  Back back alternate = back ≡ set_of (reconnecting_at effect lasting alternate)

  module _ (c : lasting ≡ set_of (lasting_at hearing effect activity)) (u : Back backAui for_aui) (v : Back backTp for_tp)
      (b : back ≡ set_of (λ i. cond (eqb i aui) (has backAui i) (has backTp i))) where
    -- no burst lasts for a place past the last of a mask
    past : (i : ℕ) → 16 ≤ i → (alternate : Bool) → reconnecting_at effect lasting alternate i ≡ false
    unfolding reconnecting_at
    past i h alternate = rw (c, gather_past 16 (lasting_at hearing effect activity) i h)

    chosen : (i : ℕ) → i < 16 → (z : Bool) → cond z (has backAui i) (has backTp i) ≡ reconnecting_at effect lasting (cond z for_aui for_tp) i
    chosen i h true = rw u (has_gather 16 (reconnecting_at effect lasting for_aui) i h)
    chosen i h false = rw v (has_gather 16 (reconnecting_at effect lasting for_tp) i h)

    back_at : (i : ℕ) → has back i ≡ reconnecting_at effect lasting (alternate_for for_aui for_tp i) i
    unfolding alternate_for
    back_at i = go (leb 16 i) refl
      where
        go : (z : Bool) → leb 16 i ≡ z → has back i ≡ reconnecting_at effect lasting (alternate_for for_aui for_tp i) i
        go true e =
            let h = leb-true 16 i e in
            rw b (gather_past 16 (λ j. cond (eqb j aui) (has backAui j) (has backTp j)) i h) ∙ sym (past i h (alternate_for for_aui for_tp i))
        go false e =
            let h = leb-false 16 i e in
            rw b (has_gather 16 (λ j. cond (eqb j aui) (has backAui j) (has backTp j)) i h) ∙ chosen i h (eqb i aui)

    abbrev meetings : Meetings
    meetings = record { t = hearing.t; collided = effect.collided; clean = lasting; back = back; x = activity.x }

    one_port_lem : (i : ℕ) (p : Port)
        → revived_at activity.mask i (met_in meetings i p) ≡ port_after for_aui for_tp hearing effect activity (set_of (lasting_at hearing effect activity)) i p
    unfolding met_in port_after partitioned_at meeting_of
    one_port_lem i p = rw (back_at i, ← c)

    pub after_made : (s met after : Ports) → met ≡ each_in (met_in meetings) s → after ≡ each_in (revived_at activity.mask) met
        → after ≡ each_in (port_after for_aui for_tp hearing effect activity (set_of (lasting_at hearing effect activity))) s
    after_made s met after m a =
        rw (a, m) (each_then (met_in meetings) (revived_at activity.mask) s)
        ∙ same_each (λ i p. revived_at activity.mask i (met_in meetings i p))
        (port_after for_aui for_tp hearing effect activity (set_of (lasting_at hearing effect activity))) s one_port_lem
