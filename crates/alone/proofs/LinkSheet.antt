-- Settings and links at their boundaries, computed: deeds from power-up, a port, and whether it is enabled, its link is tested, and its link passes.
-- Assumes nothing.
--   shown_so == the chip shows them so
--   told_so  == and the past tells them so
use Prim.Native.Nat.{ℕ}
use mathlib.Core.Path.{◌≡◌, refl}
use mathlib.Core.Bool.{Bool, true, false}
use mathlib.Core.List.{List, [], ◌∷◌, ◌++◌, map}
use lib.ListN.{replicate}
use Rattle.ports.specs.Sets.{has}
use Rattle.port.specs.declared.Port.{Port}
use Rattle.repeater.specs.declared.Repeater.{Repeater}
use Rattle.repeater.specs.Door.{port_at}
use Rattle.repeater.specs.Reset.{power_up}
use Rattle.repeater.proofs.Computing.{repeating}
use Rattle.past.specs.Deeds.{Deed, pulses, ticks, commands, resets}
use Rattle.past.specs.Since.{came_since}
use Rattle.past.specs.Settings.{enabled_by, tested_by}
use Rattle.past.specs.Link.{silent, trained, raises, breaks, passes_by}
use Rattle.alone.specs.Doing.{repeater_by}

pub record Seen : Type 0 where
  pub enabled : Bool
  pub tested : Bool
  pub passes : Bool

pub record Row : Type 0 where
  pub past : List Deed
  pub place : ℕ
  pub wanted : Seen

abbrev pub seen : Bool → Bool → Bool → Seen
seen enabled tested passes = record { enabled = enabled; tested = tested; passes = passes }

abbrev pub row : List Deed → ℕ → Bool → Bool → Bool → Row
row past i enabled tested passes = record { past = past; place = i; wanted = seen enabled tested passes }

abbrev pub after : List Deed → Repeater
after [] = power_up
after (d ∷ past) = repeater_by d (after past)

abbrev pub shown : Row → Seen
shown w =
    let p : Port = port_at (after w.past) w.place in
    seen p.enabled p.link_test p.link_pass

abbrev pub told : Row → Seen
told w = seen (enabled_by w.place w.past) (tested_by w.place w.past) (passes_by w.place w.past)

abbrev pub tick : ℕ → List Deed
tick n = replicate n ticks

abbrev pub pulse : ℕ → List Deed
pulse n = replicate n (pulses 1)

abbrev pub command : ℕ → Deed
command c = commands false c

-- TP0, the newest deed first: three pulses and four; disabled, and enabled from it, and enabled while it is so; pulses before an enabling do not count; a
-- disabled port's link; the test off, and on again; a reset; another port's commands; and AUI's
abbrev pub rows : List Row
rows =
    row [] 0 true true false
    ∷ row (pulse 3) 0 true true false
    ∷ row (pulse 4) 0 true true true
    ∷ row (command 0x20 ∷ pulse 4) 0 false true true
    ∷ row (command 0x30 ∷ command 0x20 ∷ pulse 4) 0 true true false
    ∷ row (command 0x30 ∷ pulse 4) 0 true true true
    ∷ row (pulse 1 ++ (command 0x30 ∷ command 0x20 ∷ pulse 3)) 0 true true false
    ∷ row (pulse 4 ++ (command 0x20 ∷ [])) 0 false true true
    ∷ row (command 0x40 ∷ []) 0 true false true
    ∷ row (command 0x50 ∷ command 0x40 ∷ []) 0 true true true
    ∷ row (resets ∷ command 0x20 ∷ command 0x40 ∷ pulse 4) 0 true true false
    ∷ row (command 0x21 ∷ command 0x2f ∷ pulse 4) 0 true true true
    ∷ row (command 0x2f ∷ []) 8 false false true
    ∷ row (command 0x3f ∷ command 0x2f ∷ []) 8 true false true
    ∷ []

-- with many ticks: a gap of 99 and of 100; 99 silent ones and 100; a pulse between them; the same after the test was switched on; AUI's link never fails
abbrev pub long_rows : List Row
long_rows =
    row (pulse 1 ++ tick 99 ++ pulse 3) 0 true true true
    ∷ row (pulse 1 ++ tick 100 ++ pulse 3) 0 true true false
    ∷ row (tick 99 ++ pulse 4) 0 true true true
    ∷ row (tick 100 ++ pulse 4) 0 true true false
    ∷ row (tick 99 ++ pulse 1 ++ tick 99 ++ pulse 4) 0 true true true
    ∷ row (tick 99 ++ (command 0x50 ∷ command 0x40 ∷ [])) 0 true true true
    ∷ row (tick 100 ++ (command 0x50 ∷ command 0x40 ∷ [])) 0 true true false
    ∷ row (tick 100) 8 true false true
    ∷ []

pub shown_so : map shown (rows ++ long_rows) ≡ map (λ (w : Row). w.wanted) (rows ++ long_rows)
unfolding repeater_by repeating
shown_so = refl

-- a past with many ticks takes too long to ask: what it tells is what is shown (Link: linked)
pub told_so : map told rows ≡ map (λ (w : Row). w.wanted) rows
unfolding enabled_by tested_by came_since silent trained raises breaks passes_by has
told_so = refl
