-- Document 01, 'Commands', last three sentences: which status bits a burst sets.
--   jabber_above             == a burst of more bit times than this trips the jabber lock-up protection, and is a very long event
--   marks_of effect activity == the bits that the burst sets
-- Assumes nothing.
use Rattle.std.specs.Prelude.{ℕ, not, ◌&&◌, eqb, ltb}
use Rattle.ports.specs.Sets.{aui, is_at, has, gather}
use Rattle.management.specs.declared.Status.{Status}
use Rattle.burst.specs.declared.Activity.{Activity}
use Rattle.burst.specs.declared.Effect.{Effect}

abbrev pub jabber_above : ℕ
jabber_above = 65536

unfoldable pub marks_of : Effect → Activity → Status
marks_of effect activity = record {
  rate = activity.rate_error && is_at effect.single aui;
  sqe = activity.sqe_test;
  loopback = activity.loopback_missing && has effect.out aui;
  rates = gather 8 (λ i. activity.rate_error && is_at effect.single i);
  mjlp = ltb jabber_above activity.d && not (eqb effect.out 0);
}
