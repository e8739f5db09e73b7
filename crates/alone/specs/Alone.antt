-- What a pass means, demand 3 to its end: the past alone decides. What the chip shows after any records from power-up is what `past` says of these records, where
-- nothing of the chip occurs. proofs/ShownByPast.antt shows that each statement holds, and docs/PASS.md has the same in plain English.
-- Assumes nothing.
use Rattle.std.specs.Prelude.{ℕ, suc, ◌+◌, ◌%◌, ◌^◌, ◌<◌, ◌≡◌, true, false, List, [], length, get_or}
use Rattle.ports.specs.Sets.{has}
use Rattle.history.specs.Exactly.{Exactly}
use Rattle.history.specs.History.{since, Struck}
use Rattle.record.specs.declared.Burst.{Burst}
use Rattle.record.specs.declared.Asked.TheVariants as ask
use Rattle.record.specs.Refusals.{record_of}
use Rattle.repeater.specs.Door.{port_at}
use Rattle.repeater.specs.Repeater.{alternate_for}
use Rattle.host.specs.Sequence.{place_for}
use Rattle.chip.specs.declared.Supply.{Supply}
use Rattle.himib.specs.Runs.{Point, start, Given, answers_in, repeater_at, partitioned_at, linked_at, enabled_at, counter_at, address_at, transmit_collisions, total_octets}
use Rattle.pass.specs.Pass.{bytes_of}
use Rattle.past.specs.Deeds.{Deed, deeds_from}
use Rattle.past.specs.Settings.{enabled_by, tested_by, alternate_by}
use Rattle.past.specs.Link.{passes_by}
use Rattle.past.specs.Partition.{all_events}
use Rattle.past.specs.Credits.{sum_by, collision_by, octets_by}
use Rattle.past.specs.Addresses.{address_by, counter_by}
use Rattle.past.specs.Status.{g_by}
use Rattle.past.specs.Changes.{change_by, allowed_by, error_by}
use Rattle.past.specs.Reads.{Start, place_by}
use Rattle.past.specs.Answers.{answers_by, answer_to}
use Rattle.alone.specs.Seen.{start_of, Reported}
use Rattle.alone.specs.Judged.{happens, history, run}

-- the deeds of records from power-up, the newest first
abbrev pub past_of : List (List ℕ) → List Deed
past_of rs = deeds_from [] rs

-- where a run from power-up stands
abbrev pub after : Supply → List (List ℕ) → Point
after given rs = run (start given) rs

-- such counters as there are, and addresses of six bytes
pub record Supplied (given : Supply) : Type 0 where
  pub given_proper : Given given
  pub six : (i : ℕ) → i < 9 → length (address_at i (start given)) ≡ 6

-- ---- The ports

pub record SetAs (p : Point) (past : List Deed) (i : ℕ) : Type 0 where
  pub enabled : enabled_at p i ≡ enabled_by i past
  pub tested : (port_at (repeater_at p) i).link_test ≡ tested_by i past
  pub alternate : alternate_for (repeater_at p).alternate_aui (repeater_at p).alternate_tp i ≡ alternate_by i past

abbrev pub SettingsByPast : Type 0
SettingsByPast = (given : Supply) → Supplied given → (rs : List (List ℕ)) (i : ℕ) → i < 9 → SetAs (after given rs) (past_of rs) i

abbrev pub LinksByPast : Type 0
LinksByPast = (given : Supply) → Supplied given → (rs : List (List ℕ)) (i : ℕ) → i < 8 → linked_at (after given rs) i ≡ passes_by i (past_of rs)

abbrev pub PartitionByRecords : Type 0
PartitionByRecords =
    (given : Supply) → Supplied given → (rs : List (List ℕ)) (i : ℕ) → i < 9
    → Exactly (partitioned_at (after given rs) i ≡ true) (Struck (since (get_or (all_events (past_of rs)) i [])))

-- ---- The counters and addresses

pub record CountedAs (first : Start) (past : List Deed) (p : Point) : Type 0 where
  pub counters : (i r : ℕ) → i < 9 → r < 13 → counter_at i r p ≡ counter_by first.limit first.counters first.addresses past i r
  pub addresses : (i : ℕ) → i < 9 → address_at i p ≡ address_by first.addresses past i
  pub collisions : transmit_collisions p ≡ (first.collisions + sum_by collision_by past) % 2 ^ 32
  pub octets : total_octets p ≡ (first.octets + sum_by octets_by past) % 2 ^ 32

abbrev pub CountersByRecords : Type 0
CountersByRecords = (given : Supply) → Supplied given → (rs : List (List ℕ)) → CountedAs (start_of given) (past_of rs) (after given rs)

-- ---- Status bits, change bits, enables, interface error, G

pub record NoticedAs (first : Start) (past : List Deed) (p : Point) : Type 0 where
  pub status : Reported past (repeater_at p)
  pub changes : (r j : ℕ) → r < 8 → j < 8 → has (get_or p.chip.core.changes r 0) j ≡ change_by first.addresses past r j
  pub enables : (r : ℕ) → r < 8 → get_or p.chip.core.enables r 0 ≡ allowed_by past r
  pub error : p.chip.core.interface_error ≡ error_by past
  pub g : p.chip.core.g ≡ g_by past

abbrev pub StatusByPast : Type 0
StatusByPast = (given : Supply) → Supplied given → (rs : List (List ℕ)) → NoticedAs (start_of given) (past_of rs) (after given rs)

-- ---- Byte sequences

-- where the next D read stands in its sequence: where the reads in a row before it leave it, modulo the register's bytes; so a sequence begins where they leave 0
abbrev pub PlacesByPast : Type 0
PlacesByPast =
    (given : Supply) → Supplied given → (rs : List (List ℕ)) (n : ℕ) → bytes_of (after given rs) ≡ suc n
    → place_for false (suc n) (after given rs).host ≡ place_by (past_of rs) (suc n)

-- ---- Every answer

abbrev pub AnswersByPast : Type 0
AnswersByPast =
    (given : Supply) → Supplied given → (rs : List (List ℕ)) (r : List ℕ) → (happens (after given rs) r).answer ≡ answer_to (start_of given) rs r

abbrev pub AllAnswersByPast : Type 0
AllAnswersByPast = (given : Supply) → Supplied given → (rs : List (List ℕ)) → answers_in (history (start given) rs) ≡ answers_by (start_of given) [] rs

-- ---- Whatever the caller gives

-- of two runs of the same records: the same ports, answers of bursts, and change bits of R 0 to 4
pub record SamePorts (p q : Point) : Type 0 where
  pub enabled : (i : ℕ) → i < 9 → enabled_at p i ≡ enabled_at q i
  pub linked : (i : ℕ) → i < 8 → linked_at p i ≡ linked_at q i
  pub partitioned : (i : ℕ) → i < 9 → partitioned_at p i ≡ partitioned_at q i
  pub bursts : (r : List ℕ) (b : Burst) → (record_of r).asked ≡ ask.Burst b → (happens p r).answer ≡ (happens q r).answer
  pub changes : (r j : ℕ) → r < 5 → j < 8 → has (get_or p.chip.core.changes r 0) j ≡ has (get_or q.chip.core.changes r 0) j

abbrev pub WhateverIsGiven : Type 0
WhateverIsGiven = (one other : Supply) → Supplied one → Supplied other → (rs : List (List ℕ)) → SamePorts (after one rs) (after other rs)
