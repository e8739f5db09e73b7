-- The statements of specs/Alone.antt at one list of records: what the chip shows and what the past says, each computed by itself; and that of specs/Limit.antt.
-- Assumes nothing.
--   zero_supplied  == counters and addresses of 0 can be given
--   sample_shown, sample_told == the answers of the sample run of document 01
--   tale           == links, a frame, a collision that partitions, Sets, a Get, an enable, an address write
--   one_shown      == the same answers and ports with counters that start at 1
--   ports_shown, ports_told; counts_shown, counts_told; bits_shown, bits_told == the ports, the counters, the bits after it
--   between        == a burst that is a runt with one limit and a short event with another: runt_shown, short_shown, cores_shown
use Prim.Native.Nat.{ℕ, ◌+◌, ◌<◌}
use mathlib.Core.Path.{◌≡◌, refl, ap}
use mathlib.Core.Bool.{Bool, true, false}
use mathlib.Core.List.{List, [], ◌∷◌, ◌++◌, map}
use lib.Dec.{lit<}
use lib.ListN.{length, get_or, replicate}
use Rattle.ports.specs.Sets.{has}
use Rattle.burst.specs.declared.Word.TheVariants.{Rep, Jam}
use Rattle.record.specs.Records.{d_read_record}
use Rattle.repeater.specs.Door.{port_at}
use Rattle.answer.specs.declared.Answer.{Answer}
use Rattle.answer.specs.declared.Answer.TheVariants.{Done, Sent, Value, Refused}
use Rattle.attributes.proofs.NineLaws.{address_alike}
use Rattle.chip.specs.declared.Core.{Core}
use Rattle.chip.specs.Chip.{limited_to, with_choices, with_kept}
use Rattle.himib.specs.Runs.{Point, Happening, happening, history_of, run_of, answers_in, start, all_at, repeater_at}
use Rattle.himib.specs.Runs.{partitioned_at, linked_at, enabled_at, counter_at, address_at, transmit_collisions, total_octets, limit_at}
use Rattle.himib.proofs.Runs.{all_given, found, found_once}
use Rattle.pass.specs.Limit.{with_limit}
use Rattle.pass.proofs.Computing.{step_computes}
use Rattle.past.specs.Deeds.{Deed, deeds_from}
use Rattle.past.specs.Settings.{enabled_by, tested_by, alternate_by}
use Rattle.past.specs.Link.{passes_by}
use Rattle.past.specs.Partition.{partitioned_by}
use Rattle.past.specs.Credits.{sum_by, collision_by, octets_by}
use Rattle.past.specs.Addresses.{address_by, counter_by}
use Rattle.past.specs.Status.{sqe_by, g_by}
use Rattle.past.specs.Changes.{change_by, allowed_by, error_by}
use Rattle.past.specs.Answers.{answers_by}
use Rattle.past.specs.Sheet.{burst, clash, tp0, both, aui_port, tested, someone, up, frame, through_s, select, writes, enable, sample, sample_answers}
use Rattle.past.specs.Sheet as sheet
use Rattle.past.proofs.Computing.{telling}
use Rattle.alone.specs.Judged.{happens, history, run}
use Rattle.alone.specs.Alone.{Supplied}

pub zero_supplied : Supplied (all_at 0)
zero_supplied = record { given_proper = all_given 0 (lit< tt); six = λ i l. ap length (address_alike _ i l) }

-- EVERY ANSWER

sample_shown : answers_in (history (start (all_at 0)) sample) ≡ sample_answers
unfolding step_computes happening history_of
sample_shown = refl

sample_told : answers_by (sheet.all_at 0) [] sample ≡ sample_answers
unfolding telling
sample_told = refl

-- WHAT STANDS AFTER RECORDS

-- TP0 and TP1 pass; a frame of TP0; both are partitioned; the alternate algorithm of the TP ports; TP0 is disabled; SQE Test; a Get through S; an enable; AUI's
-- address
abbrev tale : List (List ℕ)
tale =
    up ++ frame ++ (clash both 0 2000 0 1025 ∷ through_s 0x10) ++ through_s 0x20 ++ (burst aui_port tested 100 0 ∷ through_s 0xff) ++ enable 1 0xff
    ++ select 31 14
    ++ writes someone

-- of TP0 and TP1: enabled, under test, alternate, passing, partitioned
abbrev ports_at : Point → List Happening → List Bool
ports_at p hs =
    enabled_at p 0 ∷ enabled_at p 1
    ∷ (port_at (repeater_at p) 0).link_test
    ∷ (repeater_at p).alternate_tp ∷ (repeater_at p).alternate_aui
    ∷ linked_at p 0 ∷ linked_at p 2
    ∷ partitioned_at p 0 ∷ partitioned_at p 1
    ∷ []

abbrev ports_by : List Deed → List Bool
ports_by past =
    enabled_by 0 past ∷ enabled_by 1 past
    ∷ tested_by 0 past
    ∷ alternate_by 0 past ∷ alternate_by 8 past
    ∷ passes_by 0 past ∷ passes_by 2 past
    ∷ partitioned_by past 0 ∷ partitioned_by past 1
    ∷ []

abbrev ports : List Bool
ports = false ∷ true ∷ true ∷ true ∷ false ∷ true ∷ false ∷ false ∷ true ∷ []

ports_shown : found happens ports_at (start (all_at 0)) tale ≡ ports
unfolding step_computes happening run_of history_of
ports_shown = found_once happens ports_at (start (all_at 0)) tale refl

ports_told : ports_by (deeds_from [] tale) ≡ ports
unfolding telling
ports_told = refl

-- TP0's frames, octets, collisions, auto partitions, address changes; TP1's auto partitions; the totals
abbrev counts_at : Point → List Happening → List ℕ
counts_at p hs =
    map (λ r. counter_at 0 r p) (0 ∷ 1 ∷ 7 ∷ 11 ∷ 12 ∷ [])
    ++ (counter_at 1 11 p ∷ transmit_collisions p ∷ total_octets p ∷ address_at 0 p)
    ++ address_at 8 p

abbrev counts_by : List Deed → List ℕ
counts_by past =
    map (λ r. counter_by 78 (sheet.all_at 0).counters (sheet.all_at 0).addresses past 0 r) (0 ∷ 1 ∷ 7 ∷ 11 ∷ 12 ∷ [])
    ++ (counter_by 78 (sheet.all_at 0).counters (sheet.all_at 0).addresses past 1 11 ∷ sum_by collision_by past ∷ sum_by octets_by past
    ∷ address_by (sheet.all_at 0).addresses past 0)
    ++ address_by (sheet.all_at 0).addresses past 8

abbrev counts : List ℕ
counts = (1 ∷ 64 ∷ 1 ∷ 1 ∷ 1 ∷ 1 ∷ 1 ∷ 64 ∷ someone) ++ someone

counts_shown : found happens counts_at (start (all_at 0)) tale ≡ counts
unfolding step_computes happening run_of history_of
counts_shown = found_once happens counts_at (start (all_at 0)) tale refl

counts_told : counts_by (deeds_from [] tale) ≡ counts
unfolding telling
counts_told = refl

-- SQE Test, the change bits of TP1's partition and of AUI's SQE Test, the interface error; the enables of R 1, and G
abbrev bits_at : Point → List Happening → List Bool × List ℕ
bits_at p hs = (
  (repeater_at p).status.sqe ∷ has (get_or p.chip.core.changes 0 0) 1 ∷ has (get_or p.chip.core.changes 4 0) 7 ∷ p.chip.core.interface_error ∷ [],
  get_or p.chip.core.enables 1 0 ∷ p.chip.core.g ∷ [],
)

abbrev bits_by : List Deed → List Bool × List ℕ
bits_by past = (
  sqe_by past ∷ change_by (sheet.all_at 0).addresses past 0 1 ∷ change_by (sheet.all_at 0).addresses past 4 7 ∷ error_by past ∷ [],
  allowed_by past 1 ∷ g_by past ∷ [],
)

abbrev bits : List Bool × List ℕ
bits = (true ∷ true ∷ true ∷ true ∷ [], 0x80 ∷ 0x01 ∷ [])

bits_shown : found happens bits_at (start (all_at 0)) tale ≡ bits
unfolding step_computes happening run_of history_of
bits_shown = found_once happens bits_at (start (all_at 0)) tale refl

bits_told : bits_by (deeds_from [] tale) ≡ bits
unfolding telling
bits_told = refl

-- WHATEVER IS GIVEN

-- counters from 1 on: the sample's bursts are answered as from 0 on, and the ports stand so; the byte that the counter shows is another
abbrev from_one : List Answer
from_one = replicate 4 Done ++ (Sent Rep 0x102 ∷ Done ∷ Done ∷ Value 0x02 ∷ Sent Jam 0x103 ∷ Refused 8 ∷ [])

one_shown : (answers_in (history (start (all_at 1)) sample) ≡ from_one) × (found happens ports_at (start (all_at 1)) tale ≡ ports)
unfolding step_computes happening run_of history_of
one_shown = (refl, found_once happens ports_at (start (all_at 1)) tale refl)

-- WHATEVER THE LIMIT

-- TP0's link passes, and TP0 is heard alone for 77 bit times: a runt with the limit 75, and a short event with 81
abbrev between : List (List ℕ)
between = up ++ (burst tp0 0 77 9 ∷ [])

-- one more burst, and reads of Short Events and of Runts
abbrev more : List (List ℕ)
more = (burst tp0 0 600 64 ∷ select 16 5) ++ (d_read_record ∷ select 16 6) ++ (d_read_record ∷ [])

-- the limit, TP0's Short Events, Runts and the sum of both, its other counters, and Total Octets
abbrev parted_at : Point → List Happening → List ℕ
parted_at p hs =
    (limit_at p ∷ counter_at 0 5 p ∷ counter_at 0 6 p ∷ (counter_at 0 5 p + counter_at 0 6 p) ∷ [])
    ++ map (λ r. counter_at 0 r p) (0 ∷ 1 ∷ 2 ∷ 3 ∷ 4 ∷ 7 ∷ 8 ∷ 9 ∷ 10 ∷ 11 ∷ 12 ∷ [])
    ++ (total_octets p ∷ [])

-- the answers to all of it, with these bytes for the two reads
abbrev answers_with : ℕ → ℕ → List Answer
answers_with shorts runts = replicate 4 Done ++ (Sent Rep 0x102 ∷ Sent Rep 0x102 ∷ Done ∷ Done ∷ Value shorts ∷ Done ∷ Done ∷ Value runts ∷ [])

abbrev at75 : Point
at75 = start (with_limit (all_at 0) 75)

abbrev at81 : Point
at81 = start (with_limit (all_at 0) 81)

runt_shown : (found happens parted_at at75 between ≡ (75 ∷ 0 ∷ 1 ∷ 1 ∷ []) ++ replicate 12 0)
    × (answers_in (history at75 (between ++ more)) ≡ answers_with 0 1)
unfolding step_computes happening run_of history_of
runt_shown = (found_once happens parted_at at75 between refl, refl)

short_shown : (found happens parted_at at81 between ≡ (81 ∷ 1 ∷ 0 ∷ 1 ∷ []) ++ replicate 12 0)
    × (answers_in (history at81 (between ++ more)) ≡ answers_with 1 0)
unfolding step_computes happening run_of history_of
short_shown = (found_once happens parted_at at81 between refl, refl)

cores_shown :
    let c : Core = (run at75 between).chip.core in
    let q : Point = run at81 between in
    q.chip.core ≡ with_kept c (with_choices c.kept (limited_to (limit_at q) c.kept.choices))
unfolding step_computes happening run_of
cores_shown = refl
