-- Document 01, 'Link (TP)', as an observer tells it: a link passes if its test is off, or if something raised it and nothing has broken it since. A disabled port's
-- link goes by the same.
--   active i d      == a burst has port i in its mask; pulsed i d == link pulses do
--   started, stopped == its link test is switched on from off, and off from on; opened == it is enabled from disabled under test
--   silent i n past == the last n ticks came with no pulse and no activity of port i among them or after them, and since its test was last switched on
--   trained i n ticks past == before so many ticks there were n pulses of port i, fewer than a hundred ticks in each gap, with no reset, no opening and no
--                      switching among them
--   raises, breaks  == what brings the link up, and what brings it down
--   passes_by i past == the link passes
-- Assumes nothing.
use Rattle.std.specs.Prelude.{ℕ, zero, suc, ◌+◌, Bool, true, false, cond, not, ◌&&◌, ◌||◌, List, [], ◌∷◌, ltb}
use Rattle.ports.specs.Sets.{has}
use Rattle.past.specs.Deeds.{Deed, is_reset, is_tick, pulse_mask, burst_mask}
use Rattle.past.specs.Since.{came_since}
use Rattle.past.specs.Settings.{enabling, stopping, starting, commanded, enabled_by, tested_by}

abbrev pub active : ℕ → Deed → Bool
active i d = has (burst_mask d) i

abbrev pub pulsed : ℕ → Deed → Bool
pulsed i d = has (pulse_mask d) i

abbrev pub started : ℕ → List Deed → Deed → Bool
started i before d = commanded (starting i) d && not (tested_by i before)

abbrev pub stopped : ℕ → List Deed → Deed → Bool
stopped i before d = commanded (stopping i) d && tested_by i before

abbrev pub opened : ℕ → List Deed → Deed → Bool
opened i before d = commanded (enabling i) d && not (enabled_by i before) && tested_by i before

unfoldable pub silent : ℕ → ℕ → List Deed → Bool
silent i zero past = true
silent i (suc n) [] = false
silent i (suc n) (d ∷ past) =
    not (pulsed i d || active i d || started i past d) && cond (is_tick d) (silent i n past) (silent i (suc n) past)

unfoldable pub trained : ℕ → ℕ → ℕ → List Deed → Bool
trained i zero ticks past = true
trained i (suc n) ticks [] = false
trained i (suc n) ticks (d ∷ past) =
    not (is_reset d || opened i past d || started i past d || stopped i past d)
    && cond (is_tick d) (trained i (suc n) (ticks + 1) past)
    (cond (pulsed i d) (ltb ticks 100 && trained i n 0 past)
    (trained i (suc n) ticks past))

-- under test: activity; the fourth of four pulses
unfoldable pub raises : ℕ → List Deed → Deed → Bool
raises i before d = started i before d || (tested_by i before && (active i d || (pulsed i d && trained i 3 0 before)))

-- under test: the hundredth silent tick
unfoldable pub breaks : ℕ → List Deed → Deed → Bool
breaks i before d = is_reset d || opened i before d || (tested_by i before && is_tick d && silent i 99 before)

unfoldable pub passes_by : ℕ → List Deed → Bool
passes_by i past = not (tested_by i past) || came_since (raises i) (breaks i) past
