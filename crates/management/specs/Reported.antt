-- Document 01, 'Commands': status bits in the order in which document 01 names them, for the table that proofs/Listed.antt computes.
--   bits b s l rates m == B, S and L of AUI, the TP ports' bit rate errors, M
--   all                == every one of them
-- Assumes nothing.
use Rattle.std.specs.Prelude.{ℕ, Bool, true}
use Rattle.management.specs.declared.Status.{Status}

abbrev pub bits : Bool → Bool → Bool → ℕ → Bool → Status
bits b s l rates m = record { rate = b; sqe = s; loopback = l; rates = rates; mjlp = m }

abbrev pub all : Status
all = bits true true true 0xff true
