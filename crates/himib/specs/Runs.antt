-- Runs of the chip over lists of records, and the histories that promises are read off. Each record is any list of bytes at all.
--   Point             == where a run stands: the chip and the host's record; at c h is one
--   Happening         == a record, its answer, and where the run stood before and after it
--   happening p r     == what happens to the record r at the point p
--   Model             == anything that says what happens to a record at a point: `happening`, which is the chip, or something else in its place
--   history_of m p rs, run_of m p rs == what happens to the records rs from p, the oldest first, by the model m, and where it leads
--   history, run      == the chip's
--   answers_in hs      == the answers of a history, in order
--   start given       == power-up; Given says what counters and addresses the caller can give; all_at v gives v for every counter, zeros for the addresses, and
--                        what is usual; all_with limit v gives another limit of short events
--   asked, source, accepted, selects, writes, reads, resets, if_burst == what a record asked for
--   repeater_at, partitioned_at, linked_at, enabled_at, counter_at, transmit_collisions, total_octets, address_at, limit_at == what stands at a point
-- Assumes nothing.
use Rattle.std.specs.Prelude.{ℕ, ◌^◌, ◌<◌, Bool, true, false, ◌&&◌, List, [], ◌∷◌, eqb}
use Rattle.ports.specs.Sets.{has}
use Rattle.record.specs.declared.Burst.{Burst}
use Rattle.record.specs.declared.Asked.{Asked}
use Rattle.record.specs.declared.Asked.TheVariants as ask
use Rattle.record.specs.Record.{c_write_kind, d_write_kind, d_read_kind, reset_kind}
use Rattle.record.specs.Refusals.{record_of}
use Rattle.record.specs.Accepted.{kind_number}
use Rattle.repeater.specs.declared.Repeater.{Repeater}
use Rattle.repeater.specs.Repeater.{partitioned_of, linked_of, enabled_of}
use Rattle.host.specs.declared.Host.{Host}
use Rattle.host.specs.Sequence.{power_up}
use Rattle.answer.specs.declared.Answer.{Answer}
use Rattle.answer.specs.declared.Answer.TheVariants.{Done, Sent, Value, Refused}
use Rattle.attributes.specs.Nine.{all_counters, counter_of, address_of, Proper}
use Rattle.attributes.specs.Credits.{short_below}
use Rattle.chip.specs.declared.Supply.{Supply}
use Rattle.chip.specs.declared.Chip.{Chip}
use Rattle.chip.specs.Chip.{usual, limited_to, chip_up}
use Rattle.himib.specs.declared.Stepped.{Stepped}
use Rattle.himib.specs.Step.{step_of}

-- ---- Runs and their histories

pub record Point : Type 0 where
  pub chip : Chip
  pub host : Host

abbrev pub at : Chip → Host → Point
at c h = record { chip = c; host = h }

pub record Happening : Type 0 where
  pub before : Point
  pub bytes : List ℕ
  pub answer : Answer
  pub after : Point

unfoldable pub happening : Point → List ℕ → Happening
happening p r =
    let t : Stepped = step_of p.chip p.host r in
    record { before = p; bytes = r; answer = t.answer; after = at t.chip t.host }

abbrev pub Model : Type 0
Model = Point → List ℕ → Happening

unfoldable pub history_of : Model → Point → List (List ℕ) → List Happening
history_of m p [] = []
history_of m p (r ∷ rs) = m p r ∷ history_of m (m p r).after rs

unfoldable pub run_of : Model → Point → List (List ℕ) → Point
run_of m p [] = p
run_of m p (r ∷ rs) = run_of m (m p r).after rs

abbrev pub history : Point → List (List ℕ) → List Happening
history = history_of happening

abbrev pub run : Point → List (List ℕ) → Point
run = run_of happening

abbrev pub answers_in : List Happening → List Answer
answers_in [] = []
answers_in (h ∷ hs) = h.answer ∷ answers_in hs

-- ---- Power-up

-- with any counters and addresses that the caller gives
abbrev pub start : Supply → Point
start given = at (chip_up given) power_up

-- such as there are: nine ports of thirteen counters, each counter below 2^32
pub record Given (given : Supply) : Type 0 where
  pub attributes : Proper given.attributes
  pub collisions-low : given.kept.transmit_collisions < 2 ^ 32
  pub octets-low : given.kept.total_octets < 2 ^ 32

abbrev pub all_with : ℕ → ℕ → Supply
all_with limit v = record {
  attributes = all_counters v;
  kept = record { transmit_collisions = v; total_octets = v; choices = limited_to limit usual };
}

abbrev pub all_at : ℕ → Supply
all_at v = all_with short_below v

-- ---- Reading a history

abbrev pub asked : Happening → Asked
asked h = (record_of h.bytes).asked

abbrev pub source : Happening → List ℕ
source h = (record_of h.bytes).source

unfoldable pub accepted : Answer → Bool
accepted Done = true
accepted (Sent w out) = true
accepted (Value v) = true
accepted (Refused k) = false

abbrev pub selects : Happening → Bool
selects h = eqb (kind_number (asked h)) c_write_kind

abbrev pub writes : Happening → Bool
writes h = eqb (kind_number (asked h)) d_write_kind && accepted h.answer

abbrev pub reads : Happening → Bool
reads h = eqb (kind_number (asked h)) d_read_kind && accepted h.answer

abbrev pub resets : Happening → Bool
resets h = eqb (kind_number (asked h)) reset_kind

-- f of a burst, and a for any other record
unfoldable pub if_burst : {A : Type 0} → A → (Burst → A) → Asked → A
if_burst a f (ask.Burst b) = f b
if_burst a f (ask.Quiet q) = a
if_burst a f (ask.Access x) = a
if_burst a f ask.Reset = a
if_burst a f (ask.Refused k) = a

abbrev pub repeater_at : Point → Repeater
repeater_at p = p.chip.core.repeater

abbrev pub partitioned_at : Point → ℕ → Bool
partitioned_at p i = has (partitioned_of (repeater_at p)) i

abbrev pub linked_at : Point → ℕ → Bool
linked_at p i = has (linked_of (repeater_at p)) i

abbrev pub enabled_at : Point → ℕ → Bool
enabled_at p i = has (enabled_of (repeater_at p)) i

abbrev pub counter_at : ℕ → ℕ → Point → ℕ
counter_at i r p = counter_of p.chip.attributes i r

abbrev pub transmit_collisions : Point → ℕ
transmit_collisions p = p.chip.core.kept.transmit_collisions

abbrev pub total_octets : Point → ℕ
total_octets p = p.chip.core.kept.total_octets

abbrev pub address_at : ℕ → Point → List ℕ
address_at i p = address_of p.chip.attributes i

-- the limit of short events
abbrev pub limit_at : Point → ℕ
limit_at p = p.chip.core.kept.choices.short_limit
