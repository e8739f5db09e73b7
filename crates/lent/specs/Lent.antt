-- Document 01, 'Host registers': the record that the caller lends, and what each access makes of it.
--   together r h      == what a function over the lent record gives back, with the record h that it leaves
--   requested q c h   == chip, record and answer after the request q, on the chip c and the record h
--   bare asked        == a request with no source address: only a burst has one
--   request_for access == an access as a request
--   c_write byte, d_write byte, c_read, d_read == the four accesses as requests; a C write of a byte that selects neither P nor R is turned away with 7
-- Assumes nothing.
use Rattle.std.specs.Prelude.{ℕ, cond}
use Rattle.record.specs.declared.Access.{Access}
use Rattle.record.specs.declared.Asked.{Asked}
use Rattle.record.specs.declared.Record.{Record}
use Rattle.record.specs.Records.{no_address}
use Rattle.record.specs.Refusals.{selects_neither}
use Rattle.host.specs.declared.Host.{Host}
use Rattle.chip.specs.declared.Chip.{Chip}
use Rattle.chip.specs.Flat.{chip_of}
use Rattle.himib.specs.declared.Stepped.{Stepped}
use Rattle.himib.specs.Step.{taken}
use Rattle.lent.specs.declared.Rest.{Rest}

abbrev pub together : Rest → Host → Stepped
together r h = record { chip = chip_of r.chip; host = h; answer = r.answer }

abbrev pub requested : Record → Chip → Host → Stepped
requested q c h = taken q.asked q.source c h

abbrev pub bare : Asked → Record
bare asked = record { asked = asked; source = no_address }

abbrev pub request_for : Access → Record
request_for access = bare (Asked.Access access)

abbrev pub c_write : ℕ → Record
c_write byte = cond (selects_neither byte) (bare (Asked.Refused 7)) (request_for (Access.WriteC byte))

abbrev pub d_write : ℕ → Record
d_write byte = request_for (Access.WriteD byte)

abbrev pub c_read : Record
c_read = request_for Access.ReadC

abbrev pub d_read : Record
d_read = request_for Access.ReadD
