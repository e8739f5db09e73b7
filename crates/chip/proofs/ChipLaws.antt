-- The cases of the chip's definitions, as the code asks them, and what is chosen at power-up. The tables are computed first. Assumes nothing.
--   moved_still, moved_quietly == where no port's partition state changed, as by link pulses and ticks
--   fits_seven, seven_fits == a limit fits exactly if it is one of the seven
--   refusal_fit, refusal_other, settled_fit, settled_other == what power-up makes of it
--   settled_in      == the chip goes by one of the seven, whatever was asked for
use Rattle.std.proofs.Common.{◌≡◌, ℕ, ◌≤◌, Bool, true, false, cond, leb, refl, arith, le-leb, leb-true}
use lib.Bits.{xor_self}
use Rattle.ports.specs.declared.Quiet.{Quiet}
use Rattle.ports.proofs.Sets.{and_first, and_second}
use Rattle.repeater.specs.declared.Repeater.{Repeater}
use Rattle.repeater.specs.Repeater.{partitioned_of, quieted}
use Rattle.repeater.proofs.Kept.{partitioned_quieted}
use Rattle.attributes.specs.Credits.{short_from, short_to}
use Rattle.chip.specs.declared.Core.{Core}
use Rattle.chip.specs.declared.Choices.{Choices}
use Rattle.chip.specs.Chip.{usual, limit_refused, fits, refusal_of, settled_of, moved_by, moved}
use Rattle.chip.proofs.Sheet

-- where no port's partition state changed
pub moved_still : (c : Core) (q : Repeater) (loopback sqe : Bool) (address : ℕ) → partitioned_of q ≡ partitioned_of c.repeater
    → moved_by c q 0 loopback sqe address ≡ moved c q loopback sqe address
unfolding moved
moved_still c q loopback sqe address e = rw (e, xor_self (partitioned_of c.repeater))

-- link pulses and ticks change none
pub moved_quietly : (c : Core) (quiet : Quiet) → moved_by c (quieted quiet c.repeater) 0 false false 0 ≡ moved c (quieted quiet c.repeater) false false 0
moved_quietly c quiet = moved_still c (quieted quiet c.repeater) false false 0 (partitioned_quieted quiet c.repeater)

abbrev pub Seven : ℕ → Type 0
Seven limit = (short_from ≤ limit) × (limit ≤ short_to)

module _ (choices : Choices) where
  abbrev l : ℕ
  l = choices.short_limit

  pub fits_seven : fits choices ≡ true → Seven l
  fits_seven e = (leb-true short_from l (and_first (leb short_from l) (leb l short_to) e), leb-true l short_to (and_second (leb short_from l) (leb l short_to) e))

  pub seven_fits : Seven l → fits choices ≡ true
  seven_fits s = rw (le-leb short_from l s.0, le-leb l short_to s.1)

  pub refusal_fit : fits choices ≡ true → refusal_of choices ≡ 0
  unfolding refusal_of
  refusal_fit e = rw e

  pub refusal_other : fits choices ≡ false → refusal_of choices ≡ limit_refused
  unfolding refusal_of
  refusal_other e = rw e

  pub settled_fit : fits choices ≡ true → settled_of choices ≡ choices
  unfolding settled_of
  settled_fit e = rw e

  pub settled_other : fits choices ≡ false → settled_of choices ≡ usual
  unfolding settled_of
  settled_other e = rw e

  pub settled_in : Seven (settled_of choices).short_limit
  unfolding settled_of
  settled_in = go (fits choices) refl
    where
      go : (t : Bool) → fits choices ≡ t → Seven (cond t choices usual).short_limit
      go true e = fits_seven e
      go false e = (omega arith, omega arith)
