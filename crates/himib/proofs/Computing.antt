-- What has to unfold for a record on a chip to compute: `unfolding computing` opens every definition that power-up and a step go through. Assumes nothing.
use Prim.Native.Nat.{ℕ}
use Rattle.record.proofs.Computing.{reading}
use Rattle.access.proofs.Computing.{accessing}
use Rattle.chip.specs.Chip.{settled_of}
use Rattle.himib.specs.Bursts.{activity_of, burst_core, noted_on, burst_on}
use Rattle.himib.specs.Step.{addressed_at, taken, step_of}

unfoldable pub computing : ℕ
unfolding reading accessing settled_of activity_of burst_core noted_on burst_on addressed_at taken step_of
computing = 0
