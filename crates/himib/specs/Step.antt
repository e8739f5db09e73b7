-- Document 01 as a whole: one record, any bytes at all, on a chip and a host's record.
--   addressed_at port ..     == the attributes after an access that completed the address of a port, or of nobody
--   taken asked source s h == the chip, the host's record and the answer after what a record asks for
--   step_of s h bs          == the same after the bytes bs
-- Assumes nothing.
use Rattle.std.specs.Prelude.{ℕ, false, cond, List, Option, Some, None, ltb}
use Rattle.ports.specs.Sets.{port_count}
use Rattle.record.specs.declared.Asked as Ask
use Rattle.record.specs.declared.Asked.TheVariants as ask
use Rattle.record.specs.Refusals.{record_of}
use Rattle.repeater.specs.Repeater.{quieted}
use Rattle.host.specs.declared.Host.{Host}
use Rattle.host.specs.Sequence.{power_up}
use Rattle.attributes.specs.declared.Nine.{Nine}
use Rattle.attributes.specs.Nine.{readdressed}
use Rattle.answer.specs.declared.Answer.TheVariants.{Done, Refused}
use Rattle.chip.specs.declared.Chip.{Chip}
use Rattle.chip.specs.Chip.{core_reset, moved, with_core}
use Rattle.access.specs.declared.Acted.{Acted}
use Rattle.access.specs.Access.{served}
use Rattle.himib.specs.declared.Credited.{Credited}
use Rattle.himib.specs.declared.Stepped.{Stepped}
use Rattle.himib.specs.Bursts.{burst_on}

abbrev pub after_burst : Host → Credited → Stepped
after_burst h t = record { chip = record { core = t.core; attributes = t.attributes }; host = h; answer = t.answer }

-- a completed address write is no change: nothing is counted or noted
unfoldable pub addressed_at : Option ℕ → List ℕ → Nine → Nine
addressed_at (Some port) source nine = cond (ltb port port_count) (readdressed port source nine) nine
addressed_at None source nine = nine

abbrev pub after_access : Nine → Acted → Stepped
after_access nine t =
    record { chip = record { core = t.core; attributes = addressed_at t.port t.host.bytes nine }; host = t.host; answer = t.answer }

abbrev pub finished : Chip → Host → Stepped
finished s h = record { chip = s; host = h; answer = Done }

abbrev pub turned : Chip → Host → ℕ → Stepped
turned s h k = record { chip = s; host = h; answer = Refused k }

unfoldable pub taken : Ask.Asked → List ℕ → Chip → Host → Stepped
taken (ask.Burst b) source s h = after_burst h (burst_on s.core s.attributes b source)
taken (ask.Quiet q) source s h = finished (with_core s (moved s.core (quieted q s.core.repeater) false false 0)) h
taken (ask.Access a) source s h = after_access s.attributes (served a s.core s.attributes h)
taken ask.Reset source s h = finished (with_core s (core_reset s.core)) power_up
taken (ask.Refused k) source s h = turned s h k

unfoldable pub step_of : Chip → Host → List ℕ → Stepped
step_of s h bs = taken (record_of bs).asked (record_of bs).source s h
