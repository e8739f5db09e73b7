-- Document 01, 'Partition', with Q-2: what a burst is for the ports. Where 004 gives a period of 512 for reconnecting, the paper takes over 512; for Q-2 the
-- same time is the no-collision time of the standard's partition diagram, and a burst that ends before it leaves the count alone.
--   lasting_above             == a clean burst of more bit times than this lasts: it zeroes a connected port's count, or connects a partitioned port again
--   is_jam word, is_rep word   == the word is jam, is rep
--   data_to effect i          == data, not jam, goes out to port i
--   clean_at hearing effect i == the burst is clean for port i, if that is a port of T; nobody asks it of another
--   lasting_at hearing effect activity i == and it lasts
--   reconnecting_at effect lasting alternate i == of the ports that it is clean for and lasts, it connects port i again, by the standard or the alternate
--                               algorithm, if the port is partitioned
-- Assumes nothing.
use Rattle.std.specs.Prelude.{ℕ, Bool, true, false, not, ◌&&◌, ◌||◌, ltb}
use Rattle.ports.specs.Sets.{has}
use Rattle.burst.specs.declared.Activity.{Activity}
use Rattle.burst.specs.declared.Word.{Word}
use Rattle.burst.specs.declared.Word.TheVariants.{Nil, Rep, Jam}
use Rattle.burst.specs.declared.Hearing.{Hearing}
use Rattle.burst.specs.declared.Effect.{Effect}

abbrev pub lasting_above : ℕ
lasting_above = 512

abbrev pub is_jam : Word → Bool
is_jam Nil = false
is_jam Rep = false
is_jam Jam = true

abbrev pub is_rep : Word → Bool
is_rep Nil = false
is_rep Rep = true
is_rep Jam = false

unfoldable pub data_to : Effect → ℕ → Bool
data_to effect i = is_rep effect.word && has effect.out i

unfoldable pub clean_at : Hearing → Effect → ℕ → Bool
clean_at hearing effect i = not (is_jam effect.word) && not (has effect.collided i) && (has hearing.e i || data_to effect i)

unfoldable pub lasting_at : Hearing → Effect → Activity → ℕ → Bool
lasting_at hearing effect activity i = clean_at hearing effect i && ltb lasting_above activity.d

-- a port that goes by the alternate algorithm is connected again only by data that is sent to it
unfoldable pub reconnecting_at : Effect → ℕ → Bool → ℕ → Bool
reconnecting_at effect lasting alternate i = has lasting i && (not alternate || data_to effect i)
