-- Document 01, 'Burst', on credits, in other words than classOf: a single heard port without collision gets exactly one of six classes.
--   classes             == the registers of the six classes
--   Falls limit burst r       == the burst falls in the class of register r: the paper's conditions, each without those before it
--   OnlyClass credits r == of the six classes the credits, by register, have one in register r and none in the others
--   credits_in credits rs == the credits of the registers rs together
-- Assumes nothing.
use Rattle.std.specs.Prelude.{◌≡◌, ℕ, ◌+◌, ◌<◌, ◌≤◌, true, false, List, [], ◌∷◌, ◌≢◌}
use Rattle.record.specs.declared.Burst.{Burst}
use Rattle.attributes.specs.Nine.{readable_frames, fcs_errors, alignment_errors, frames_too_long, short_events, runts}
use Rattle.attributes.specs.Credits.{shortest, longest}

abbrev pub classes : List ℕ
classes = readable_frames ∷ fcs_errors ∷ alignment_errors ∷ frames_too_long ∷ short_events ∷ runts ∷ []

unfoldable pub credits_in : (ℕ → ℕ) → List ℕ → ℕ
credits_in credits [] = 0
credits_in credits (r ∷ rs) = credits r + credits_in credits rs

pub data Among : ℕ → List ℕ → Type 0 where
  here : {r : ℕ} {rs : List ℕ} → Among r (r ∷ rs)
  later : {q r : ℕ} {rs : List ℕ} → Among r rs → Among r (q ∷ rs)

pub data Falls (limit : ℕ) (burst : Burst) : ℕ → Type 0 where
  short : burst.d < limit → Falls limit burst short_events
  runt : limit ≤ burst.d → burst.n < shortest → Falls limit burst runts
  too_long : limit ≤ burst.d → longest < burst.n → Falls limit burst frames_too_long
  misaligned : limit ≤ burst.d → shortest ≤ burst.n → burst.n ≤ longest → burst.fcs_bad ≡ true → 0 < burst.k → Falls limit burst alignment_errors
  faulty : limit ≤ burst.d → shortest ≤ burst.n → burst.n ≤ longest → burst.fcs_bad ≡ true → burst.k ≡ 0 → Falls limit burst fcs_errors
  good : limit ≤ burst.d → shortest ≤ burst.n → burst.n ≤ longest → burst.fcs_bad ≡ false → Falls limit burst readable_frames

pub record OnlyClass (credits : ℕ → ℕ) (r : ℕ) : Type 0 where
  pub listed : Among r classes
  pub is : credits r ≡ 1
  pub alone : (q : ℕ) → Among q classes → (q ≢ r) → credits q ≡ 0
