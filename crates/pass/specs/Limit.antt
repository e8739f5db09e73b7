-- Demand 2, request Q-6: the short event limit is chosen at power-up, 75 to 81 bit times. A burst of fewer is a short event, from power-up to the end of the run and
-- over every reset; and power-up turns any other limit away.
--   Seven l          == l is one of the seven limits
--   limit_of given    == the limit that power-up is given; with_limit given l == the same power-up with another limit
--   Answered given   == what power-up answers: 0 and a chip with the limit, or 13 and a chip with 78 that nobody runs
--   HeardAlone h b i == the record of h is the burst b, accepted, heard at port i alone and without collision
--   Judges l h b i   == it is counted in Short Events (R 5) if it lasts fewer bit times than l, and not otherwise; at l itself it is a runt (R 6)
--   Decided          == so it is of every power-up, and after any records; LimitDecides == that is the promise
-- Assumes nothing.
use Rattle.std.specs.Prelude.{ℕ, ◌+◌, ◌%◌, ◌^◌, ◌≤◌, ◌<◌, ◌≡◌, false, List, Some}
use Rattle.history.specs.Exactly.{Exactly}
use Rattle.record.specs.declared.Burst.{Burst}
use Rattle.record.specs.declared.Asked.TheVariants as ask
use Rattle.chip.specs.declared.Supply.{Supply}
use Rattle.chip.specs.Chip.{limited_to, with_choices, powered_up}
use Rattle.himib.specs.Runs.{Happening, start, Given, asked, counter_at, limit_at}
use Rattle.pass.specs.Judged.{happens, run}
use Rattle.pass.specs.Pass.{burst_at}

abbrev pub Seven : ℕ → Type 0
Seven l = (75 ≤ l) × (l ≤ 81)

abbrev pub limit_of : Supply → ℕ
limit_of given = given.kept.choices.short_limit

abbrev pub with_limit : Supply → ℕ → Supply
with_limit given l = record { attributes = given.attributes; kept = with_choices given.kept (limited_to l given.kept.choices) }

-- 13 exactly outside the seven, else 0; and beside a 13 stands the chip of the usual limit
pub record Answered (given : Supply) : Type 0 where
  pub taken : Exactly ((powered_up given).number ≡ 0) (Seven (limit_of given))
  pub refused : Exactly ((powered_up given).number ≡ 13) (Seven (limit_of given) → ⊥)
  pub beside : (Seven (limit_of given) → ⊥) → (powered_up given).chip ≡ (powered_up (with_limit given 78)).chip

pub record HeardAlone (h : Happening) (b : Burst) (i : ℕ) : Type 0 where
  pub burst : asked h ≡ ask.Burst b
  pub port : i < 9
  pub single : (burst_at h b).effect.single ≡ Some i
  pub calm : (burst_at h b).effect.collision ≡ false

-- counter R of port i before and after it
abbrev pub once_more : ℕ → ℕ → Happening → Type 0
once_more i r h = counter_at i r h.after ≡ (counter_at i r h.before + 1) % 2 ^ 32

abbrev pub as_before : ℕ → ℕ → Happening → Type 0
as_before i r h = counter_at i r h.after ≡ counter_at i r h.before

pub record Judges (l : ℕ) (h : Happening) (b : Burst) (i : ℕ) : Type 0 where
  pub below : b.d < l → once_more i 5 h × as_before i 6 h
  pub from : l ≤ b.d → as_before i 5 h
  pub exactly : b.d ≡ l → once_more i 6 h

pub record Decided : Type 0 where
  pub answers : (given : Supply) → Answered given
  pub stays : (given : Supply) → Seven (limit_of given) → (rs : List (List ℕ)) → limit_at (run (start given) rs) ≡ limit_of given
  pub judges : (given : Supply) → Given given → Seven (limit_of given) → (before : List (List ℕ)) (r : List ℕ) (b : Burst) (i : ℕ)
      → HeardAlone (happens (run (start given) before) r) b i → Judges (limit_of given) (happens (run (start given) before) r) b i

abbrev pub LimitDecides : Type 0
LimitDecides = Decided
