-- Document 01, 'Boundary sheet': every starred row, its first two at each short event limit, and the sample run, by computing. Assumes nothing.
use mathlib.Core.Path.{◌≡◌, refl}
use mathlib.Core.Bool.{true}
use Rattle.himib.specs.Runs.{happening, history_of, run_of, history, answers_in, start, all_at}
use Rattle.himib.specs.Sheet.{credits_in, moved_in, same, led, all_led, holds, holding, sheet, limits, sample, sample_answers}
use Rattle.himib.proofs.Computing.{computing}

pub boundary_sheet : holding sheet ≡ true
unfolding computing happening run_of credits_in moved_in same led all_led holds holding sheet
boundary_sheet = refl

pub limits_hold : holding limits ≡ true
unfolding computing happening run_of credits_in moved_in same led all_led holds holding limits
limits_hold = refl

pub sample_run : answers_in (history (start (all_at 0)) sample) ≡ sample_answers
unfolding computing happening history_of
sample_run = refl
