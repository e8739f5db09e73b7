-- Document 01, 'Commands' and 'Reset and power-up': the status bits. B is AUI's bit rate error and `rates` the TP ports', S is SQE Test,
-- L loopback, M jabber (MJLP). A bit stays one until a Get clears it or a reset comes.
--   clear_status              == nothing reported: at power-up and after a reset
--   marked status marks      == the status with the bits of marks set as well
--   with_rate status rate, .. == the status with this bit anew, the rest as it was
--   cleared_by query status   == the status after a Get
-- Assumes nothing.
use Rattle.std.specs.Prelude.{ℕ, Bool, false, ◌||◌}
use Rattle.std.specs.Int.Bits.{bit_or}
use Rattle.management.specs.declared.Status.{Status}
use Rattle.management.specs.declared.Query.{Query}
use Rattle.management.specs.declared.Query.TheVariants.{Aui, AuiClearB, AuiClearSl, AuiClearBsl, Partition, Rates, Link, Mjlp, Version}

abbrev pub clear_status : Status
clear_status = record { rate = false; sqe = false; loopback = false; rates = 0; mjlp = false }

unfoldable pub marked : Status → Status → Status
marked status marks = record {
  rate = status.rate || marks.rate;
  sqe = status.sqe || marks.sqe;
  loopback = status.loopback || marks.loopback;
  rates = bit_or status.rates marks.rates;
  mjlp = status.mjlp || marks.mjlp;
}

abbrev pub with_rate : Status → Bool → Status
with_rate status rate = record { rate = rate; sqe = status.sqe; loopback = status.loopback; rates = status.rates; mjlp = status.mjlp }

abbrev pub with_sl : Status → Bool → Bool → Status
with_sl status sqe loopback = record { rate = status.rate; sqe = sqe; loopback = loopback; rates = status.rates; mjlp = status.mjlp }

abbrev pub with_rates : Status → ℕ → Status
with_rates status rates = record { rate = status.rate; sqe = status.sqe; loopback = status.loopback; rates = rates; mjlp = status.mjlp }

abbrev pub with_mjlp : Status → Bool → Status
with_mjlp status mjlp = record { rate = status.rate; sqe = status.sqe; loopback = status.loopback; rates = status.rates; mjlp = mjlp }

unfoldable pub cleared_by : Query → Status → Status
cleared_by Aui status = status
cleared_by AuiClearB status = with_rate status false
cleared_by AuiClearSl status = with_sl status false false
cleared_by AuiClearBsl status = with_sl (with_rate status false) false false
cleared_by Partition status = status
cleared_by Rates status = with_rates status 0
cleared_by Link status = status
cleared_by Mjlp status = with_mjlp status false
cleared_by Version status = status
