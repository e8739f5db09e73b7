-- Any number of frames in a row: each is credited, since the repeater is after it as it was at power-up. Assumes nothing.
--   three_frames    == three of them, computed
--   its             == what the frame's record asks for
--   repeater_burst  == the repeater after a burst
--   still           == the frame leaves the repeater as it is at power-up
--   one_frame, one_frame_octets, one_frame_total == what the frame is credited with there, whatever stands in the attributes
--   Fresh p         == the repeater at p is as at power-up, and the short event limit one of the seven; fresh_start: power-up is so
--   frames_from, frames_still == k frames credit k frames and 64 k octets, from any point that is so, and leave it so
use Prim.Native.Nat.{ℕ, zero, suc, ◌*◌, ◌≤◌}
use mathlib.Core.Path.{◌≡◌, refl, ap, ◌∙◌}
use mathlib.Core.Bool.{false}
use mathlib.Core.List.{List, [], ◌∷◌}
use native.Mathlib.Omega.{arith}
use borrow.Author.Tests.{le-ltb}
use lib.Dec.{ltb}
use Rattle.ports.specs.Sets.{aui, without}
use Rattle.record.specs.declared.Burst.{Burst}
use Rattle.record.specs.declared.Asked.TheVariants as ask
use Rattle.record.specs.Refusals.{record_of}
use Rattle.repeater.specs.declared.Repeater.{Repeater}
use Rattle.repeater.specs.declared.Bursted.{Bursted}
use Rattle.repeater.specs.Repeater.{burst_of, partitioned_of}
use Rattle.repeater.specs.Reset.{power_up}
use Rattle.attributes.specs.declared.Nine.{Nine}
use Rattle.attributes.specs.declared.Due.{Due}
use Rattle.attributes.specs.Credits.{due_of, credit_of}
use Rattle.chip.specs.declared.Supply.{Supply}
use Rattle.chip.specs.Chip.{moved}
use Rattle.chip.proofs.ChipLaws.{settled_in}
use Rattle.himib.specs.Bursts.{activity_of, burst_core, noted_on, burst_on}
use Rattle.himib.specs.Step.{taken, step_of}
use Rattle.himib.specs.Runs.{Point, start, happening, if_burst, repeater_at, limit_at, history_of, run_of}
use Rattle.pass.specs.Judged.{happens, history, run}
use Rattle.pass.specs.Pass.{credit, octet_credit, sum_of}
use Rattle.pass.specs.Examples.{up}
use Rattle.pass.specs.Totals.{again, frame}
use Rattle.pass.proofs.Computing.{step_computes, somebody}
use Rattle.pass.proofs.Credited.{due_in, credit_burst, octets_burst, limit_after}

-- THE FRAME

-- three of them in a row
three_frames : sum_of (credit aui 0) (history up (again 3 frame)) ∷ sum_of (credit aui 1) (history up (again 3 frame)) ∷ sum_of octet_credit (history up (again 3 frame)) ∷ []
    ≡ 3 ∷ 192 ∷ 192 ∷ []
unfolding step_computes happening again history_of credit octet_credit sum_of if_burst
three_frames = refl

-- 64 octets in 1,000 bit times at AUI
abbrev its : Burst
its = record {
  mask = 256;
  fcs_bad = false;
  rate_error = false;
  collision_signal = false;
  loopback_missing = false;
  sqe_test = false;
  d = 1000;
  n = 64;
  k = 0;
  c = 0;
  x = 0;
}

asks : (record_of frame).asked ≡ ask.Burst its
unfolding step_computes
asks = refl

sent_by : (record_of frame).source ≡ somebody
unfolding step_computes
sent_by = refl

still : (burst_of power_up (activity_of its)).repeater ≡ power_up
unfolding step_computes
still = refl

-- what it is due, from the repeater, the limit and the attributes before it
abbrev due_on : Nine → ℕ → Repeater → Due
due_on nine limit r =
    let t : Bursted = burst_of r (activity_of its) in
    due_of nine
    (record {
      heard = t.hearing.h;
      single = t.effect.single;
      collision = t.effect.collision;
      cut = without (partitioned_of t.repeater) (partitioned_of r);
      limit = limit;
    })
    its
    somebody

module _ (nine : Nine) (limit : ℕ) (l : limit ≤ 81) where
  not_short : ltb 1000 limit ≡ false
  not_short = le-ltb 1000 limit (omega arith)

  one_frame : credit_of (due_on nine limit power_up) its aui 0 ≡ 1
  unfolding step_computes
  one_frame = rw not_short

  one_frame_octets : credit_of (due_on nine limit power_up) its aui 1 ≡ 64
  unfolding step_computes
  one_frame_octets = rw not_short

  one_frame_total : (due_on nine limit power_up).octets ≡ 64
  unfolding step_computes
  one_frame_total = rw not_short

-- FRAME AFTER FRAME

pub record Fresh (p : Point) : Type 0 where
  pub repeater : repeater_at p ≡ power_up
  pub limit : limit_at p ≤ 81

pub fresh_start : (given : Supply) → Fresh (start given)
fresh_start given = record { repeater = refl; limit = (settled_in given.kept.choices).1 }

module _ (p : Point) (u : Fresh p) where
  repeater_burst : repeater_at (happens p frame).after ≡ (burst_of (repeater_at p) (activity_of its)).repeater
  unfolding happening step_of taken noted_on burst_on burst_core moved
  repeater_burst = rw asks

  up_after : Fresh (happens p frame).after
  up_after = record {
    repeater = repeater_burst ∙ ap (λ (r : Repeater). (burst_of r (activity_of its)).repeater) u.repeater ∙ still;
    limit = omega (arith, limit_after p frame, u.limit);
  }

  credited : (r : ℕ) → credit aui r (happens p frame) ≡ credit_of (due_on p.chip.attributes (limit_at p) power_up) its aui r
  credited r =
      credit_burst p frame its asks aui r
      ∙ ap (λ (s : List ℕ). credit_of (due_in p its s) its aui r) sent_by
      ∙ ap (λ (x : Repeater). credit_of (due_on p.chip.attributes (limit_at p) x) its aui r) u.repeater

  credited_total : octet_credit (happens p frame) ≡ (due_on p.chip.attributes (limit_at p) power_up).octets
  credited_total =
      octets_burst p frame its asks
      ∙ ap (λ (s : List ℕ). (due_in p its s).octets) sent_by
      ∙ ap (λ (x : Repeater). (due_on p.chip.attributes (limit_at p) x).octets) u.repeater

pub frames_from : (p : Point) → Fresh p → (k : ℕ)
    → (sum_of (credit aui 0) (history p (again k frame)) ≡ k)
    × (sum_of (credit aui 1) (history p (again k frame)) ≡ 64 * k)
    × (sum_of octet_credit (history p (again k frame)) ≡ 64 * k)
unfolding again history_of sum_of
frames_from p u zero = (refl, refl, refl)
frames_from p u (suc k) =
    let more = frames_from (happens p frame).after (up_after p u) k in
    let a = credited p u 0 ∙ one_frame p.chip.attributes (limit_at p) u.limit in
    let b = credited p u 1 ∙ one_frame_octets p.chip.attributes (limit_at p) u.limit in
    let c = credited_total p u ∙ one_frame_total p.chip.attributes (limit_at p) u.limit in
    (omega (arith, a, more.0), omega (arith, b, more.1), omega (arith, c, more.2))

pub frames_still : (p : Point) → Fresh p → (k : ℕ) → Fresh (run p (again k frame))
unfolding again run_of
frames_still p u zero = u
frames_still p u (suc k) = frames_still (happens p frame).after (up_after p u) k
