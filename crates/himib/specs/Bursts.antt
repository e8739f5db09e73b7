-- Document 01, 'Burst', on the whole chip: the repeater's burst, the credits, and what it notes.
--   activity_of b            == the part of a burst record that is the repeater's
--   met_by c t               == what of a burst is credited, as the repeater met it, with the limit that the core keeps
--   noted_on c nine b source == the core after a burst, and what it is due
--   burst_on c nine b source == the core, the attributes and the answer after a burst
-- Assumes nothing.
use Rattle.std.specs.Prelude.{ℕ, List}
use Rattle.ports.specs.Sets.{without}
use Rattle.record.specs.declared.Burst.{Burst}
use Rattle.burst.specs.declared.Activity.{Activity}
use Rattle.repeater.specs.declared.Bursted.{Bursted}
use Rattle.repeater.specs.Repeater.{burst_of, partitioned_of}
use Rattle.attributes.specs.declared.Nine.{Nine}
use Rattle.attributes.specs.declared.Met.{Met}
use Rattle.attributes.specs.declared.Due.{Due}
use Rattle.attributes.specs.Credits.{due_of, credited_all}
use Rattle.answer.specs.declared.Answer.TheVariants.{Sent}
use Rattle.chip.specs.declared.Core.{Core}
use Rattle.chip.specs.Chip.{moved, totalled}
use Rattle.himib.specs.declared.Credited.{Credited}
use Rattle.himib.specs.declared.Noted.{Noted}

unfoldable pub activity_of : Burst → Activity
activity_of b = record {
  mask = b.mask;
  rate_error = b.rate_error;
  collision_signal = b.collision_signal;
  loopback_missing = b.loopback_missing;
  sqe_test = b.sqe_test;
  d = b.d;
  x = b.x;
}

abbrev pub met_by : Core → Bursted → Met
met_by c t = record {
  heard = t.hearing.h;
  single = t.effect.single;
  collision = t.effect.collision;
  cut = without (partitioned_of t.repeater) (partitioned_of c.repeater);
  limit = c.kept.choices.short_limit;
}

-- what a burst leaves of the core: the repeater after it, the events noted, the two counters
unfoldable pub burst_core : Core → Bursted → Due → Core
burst_core c t due =
    totalled (moved c t.repeater t.marks.loopback t.marks.sqe due.changed) t.effect.transmit_collision due.octets

-- the core after a burst, what the burst is due, and its answer; the attributes are only asked for the last source address
unfoldable pub noted_on : Core → Nine → Burst → List ℕ → Noted
noted_on c nine b source =
    let t : Bursted = burst_of c.repeater (activity_of b) in
    let due : Due = due_of nine (met_by c t) b source in
    record { core = burst_core c t due; due = due; answer = Sent t.effect.word t.effect.out }

unfoldable pub burst_on : Core → Nine → Burst → List ℕ → Credited
burst_on c nine b source =
    let noted : Noted = noted_on c nine b source in
    record { core = noted.core; attributes = credited_all noted.due b source nine; answer = noted.answer }
