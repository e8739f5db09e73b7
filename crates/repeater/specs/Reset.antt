-- Document 01, 'Reset and power-up', as far as it is the repeater's: every port as at power-up; standard algorithms; status all zero.
--   power_up == the repeater at power-up, and after a reset
-- Assumes nothing.
use Rattle.std.specs.Prelude.{false}
use Rattle.port.specs.Reset.{tp_up, aui_up}
use Rattle.management.specs.Status.{clear_status}
use Rattle.repeater.specs.declared.Repeater.{Repeater}
use Rattle.repeater.specs.Door.{alike}

abbrev pub power_up : Repeater
power_up = record { ports = alike tp_up aui_up; alternate_aui = false; alternate_tp = false; status = clear_status }
