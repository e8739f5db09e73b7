-- Document 01, 'Numbers turned away with' and 'Forms to follow': the paper's number and value for each case of what the octet check answers.
-- Settles that the check turned away carries its number and no yes, and that a check which is not carries the number 0.
--   number_of a  == the number that the check was turned away with, 0 where it was not
--   says_yes a   == the check says yes
--   Decided f o == the check asked about f frames and o octets: turned away with 10 exactly above 2,829,359 frames, and with no other number; and yes
--                  exactly up to there with 64 to 1518 octets a frame
-- Assumes nothing.
use Rattle.std.specs.Prelude.{◌≡◌, ℕ, ◌*◌, ◌<◌, ◌≤◌, Bool, true, false, ◌≢◌, Result, Ok, Err}
use Rattle.attributes.specs.declared.octets.TooManyFrames.{TooManyFrames}
use Rattle.attributes.specs.Octets.{too_many, turned_away_with, check_of}

abbrev pub number_of : Result Bool TooManyFrames → ℕ
number_of (Ok fits) = 0
number_of (Err e) = turned_away_with e

abbrev pub says_yes : Result Bool TooManyFrames → Bool
says_yes (Ok fits) = fits
says_yes (Err e) = false

pub record Decided (f o : ℕ) : Type 0 where
  pub above : 2829359 < f → check_of f o ≡ Err too_many
  pub ten : number_of (check_of f o) ≡ 10 → 2829359 < f
  pub no_other : (number_of (check_of f o) ≢ 10) → number_of (check_of f o) ≡ 0
  pub between : f ≤ 2829359 → 64 * f ≤ o → o ≤ 1518 * f → says_yes (check_of f o) ≡ true
  pub yes : says_yes (check_of f o) ≡ true → (f ≤ 2829359) × (64 * f ≤ o) × (o ≤ 1518 * f)
