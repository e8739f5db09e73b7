-- The boundary sheet and the shortcuts, computed on whole repeaters from power-up: each table is one equation. Assumes nothing.
--   sheet_holds          == every row of the boundary sheet that the repeater decides
--   fragments_hold       == the rows on short and long clean bursts
--   shortcuts_hold       == the rows against two shortcuts
--   links_hold           == the rows on links
--   scenes_follow        == what follows from a burst, case by case; data goes out to partitioned ports as well
--   orders_kept          == the sets of a burst are those from before it: a link that its own mask brings, and a port that it partitions or connects again
--   story_told           == the events that inputs of every kind are to a port
use mathlib.Core.Path.{◌≡◌, refl}
use mathlib.Core.List.{List, map}
use Rattle.port.specs.Standing.{event_of}
use Rattle.repeater.specs.Reset.{power_up}
use Rattle.repeater.specs.Events.{followed_event, burst_event, disables, set_event, input_events}
use Rattle.repeater.specs.Sheet.{Row, found, Scene, followed_by, Order, ordered, sheet, fragments, shortcuts, links, scenes, orders, story, told}
use Rattle.repeater.proofs.Computing.{repeating}

-- the wanted of every row
abbrev pub Holds : List Row → Type 0
Holds rows = map found rows ≡ map (λ (w : Row). w.wanted) rows

abbrev pub Followed : List Scene → Type 0
Followed rows = map followed_by rows ≡ map (λ (w : Scene). w.wanted) rows

abbrev pub Ordered : List Order → Type 0
Ordered rows = map ordered rows ≡ map (λ (w : Order). w.wanted) rows

pub orders_kept : Ordered orders
unfolding repeating
orders_kept = refl

computed : Holds sheet × Holds shortcuts × Holds links × Followed scenes × (input_events 0 power_up story ≡ told) × Holds fragments
unfolding repeating event_of followed_event burst_event disables set_event
computed = (refl, refl, refl, refl, refl, refl)

pub sheet_holds : Holds sheet
sheet_holds = computed.0

pub shortcuts_hold : Holds shortcuts
shortcuts_hold = computed.1

pub links_hold : Holds links
links_hold = computed.2

pub scenes_follow : Followed scenes
scenes_follow = computed.3

pub story_told : input_events 0 power_up story ≡ told
story_told = computed.4

pub fragments_hold : Holds fragments
fragments_hold = computed.5
