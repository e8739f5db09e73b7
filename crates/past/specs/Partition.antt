-- Document 01, 'Partition', by the past: what each deed was to each port, by the ports sent to and heard at its moment, which go by what came before it.
--   sent_to past       == T after a past, as a set
--   struck_in all i    == port i's events among those of all nine leave it partitioned (`history`: demand 3's condition)
--   listened_to past all, heard_at past all b == L, and H of a burst that comes next
--   event_by past all d i == what the deed d after a past is to port i
--   all_events past    == the events of the nine ports, each port's oldest first
--   partitioned_by past i == port i is partitioned after a past
--   heard_by past b    == H of a burst after a past
-- Assumes nothing.
use Rattle.std.specs.Prelude.{ℕ, Bool, cond, not, ◌&&◌, ◌||◌, List, [], ◌∷◌, ◌++◌, get_or, replicate}
use Rattle.ports.specs.Sets.{port_count, has, set_of}
use Rattle.ports.specs.Each.{each}
use Rattle.history.specs.History.{Event, neither, cleared, since, struck}
use Rattle.record.specs.declared.Burst.{Burst}
use Rattle.past.specs.Deeds.{Deed, is_reset, if_burst}
use Rattle.past.specs.Settings.{disabling, commanded, enabled_by, alternate_by}
use Rattle.past.specs.Link.{passes_by}
use Rattle.past.specs.Bursts.{in_e, met_by}

unfoldable pub sent_to : List Deed → ℕ
sent_to past = set_of (λ i. enabled_by i past && passes_by i past)

unfoldable pub struck_in : List (List Event) → ℕ → Bool
struck_in all i = struck (since (get_or all i []))

-- the ports of T that are not partitioned
unfoldable pub listened_to : ℕ → List (List Event) → ℕ
listened_to t all = set_of (λ i. has t i && not (struck_in all i))

unfoldable pub heard_at : ℕ → Burst → ℕ
heard_at l b = set_of (λ i. in_e b i && has l i)

abbrev pub burst_at : List Deed → ℕ → ℕ → Burst → ℕ → Event
burst_at past t l b i = met_by (alternate_by i past) b t (heard_at l b) i

-- a reset, and the disabling of an enabled port, clear
unfoldable pub event_by : List Deed → ℕ → ℕ → Deed → ℕ → Event
event_by past t l d i =
    cond (is_reset d || (commanded (disabling i) d && enabled_by i past)) cleared (if_burst neither (λ b source. burst_at past t l b i) d)

unfoldable pub all_events : List Deed → List (List Event)
all_events [] = replicate port_count []
all_events (d ∷ past) =
    let all : List (List Event) = all_events past in
    let t : ℕ = sent_to past in
    let l : ℕ = listened_to t all in
    each (λ i events. events ++ (event_by past t l d i ∷ [])) all

unfoldable pub partitioned_by : List Deed → ℕ → Bool
partitioned_by past i = struck_in (all_events past) i

unfoldable pub heard_by : List Deed → Burst → ℕ
heard_by past b = heard_at (listened_to (sent_to past) (all_events past)) b
