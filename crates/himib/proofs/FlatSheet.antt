-- Document 01 by two layouts, computed: a whole record on a chip as it is kept, by number of place, and the same on the chip that it stands for. Assumes nothing.
--   full, after_frame == every counter full, and what a frame of AUI leaves of it: three places of counters and six bytes
--   a_frame_followed  == the step's two contracts hold of it
--   an_address_followed == six bytes written at P 31 R 14, the sixth of which completes AUI's address
use Prim.Native.Nat.{ℕ}
use mathlib.Core.Path.{◌≡◌, refl}
use mathlib.Core.Bool.{true}
use mathlib.Core.List.{List, [], ◌∷◌}
use lib.ListN.{set, replicate}
use Rattle.ports.specs.Each.{each}
use Rattle.burst.specs.declared.Word.TheVariants.{Rep}
use Rattle.record.specs.Records.{burst_record, d_write_record}
use Rattle.host.specs.declared.Host.{Host}
use Rattle.host.specs.Sequence.{power_up}
use Rattle.answer.specs.declared.Answer.TheVariants.{Done, Sent}
use Rattle.attributes.specs.Flat.{flat_size, spots_size}
use Rattle.chip.specs.declared.FlatChip.{FlatChip}
use Rattle.chip.specs.Flat.{chip_of, Sized}
use Rattle.himib.specs.Step.{step_of}
use Rattle.himib.specs.Flat.{stepped_by}
use Rattle.himib.specs.Runs.{start, all_at}
use Rattle.himib.proofs.Computing.{computing}

abbrev source : List ℕ
source = 2 ∷ 7 ∷ 6 ∷ 5 ∷ 4 ∷ 3 ∷ []

abbrev full : FlatChip
full = record {
  core = (start (all_at 4294967295)).chip.core;
  flat = record { counters = replicate flat_size 4294967295; addresses = replicate spots_size 0 };
}

abbrev frame : List ℕ
frame = burst_record 256 0 600 64 0 0 0 source

abbrev known : List ℕ
known = set (set (set (set (set (set (replicate spots_size 0) 48 2) 49 7) 50 6) 51 5) 52 4) 53 3

abbrev after_frame : FlatChip
after_frame = record {
  core = (step_of (chip_of full) power_up frame).chip.core;
  flat = record { counters = set (set (set (replicate flat_size 4294967295) 8 0) 17 63) 116 0; addresses = known };
}

-- no other port's link passes, so nothing is sent
pub a_frame_followed : (stepped_by (record { chip = after_frame; host = power_up; answer = Sent Rep 0 }) ≡ step_of (chip_of full) power_up frame) × Sized full × Sized after_frame
unfolding computing each
a_frame_followed = (refl, record { counters = refl; addresses = refl }, record { counters = refl; addresses = refl })

-- five of the six bytes are there
abbrev writing : Host
writing = record { page = 31; register = 14; bytes = 2 ∷ 7 ∷ 6 ∷ 5 ∷ 4 ∷ 0 ∷ []; place = 5; writing = true }

abbrev written : Host
written = (step_of (chip_of full) writing (d_write_record 3)).host

pub an_address_followed : stepped_by (record { chip = record { core = full.core; flat = record { counters = full.flat.counters; addresses = known } }; host = written; answer = Done })
    ≡ step_of (chip_of full) writing (d_write_record 3)
unfolding computing each
an_address_followed = refl
