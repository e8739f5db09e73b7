-- Document 01, 'Burst' and the first half of 'Partition', and Q-2, with sets alone: what follows from a burst b when t are the ports sent to and h the ports heard.
-- No single heard port is named: it is the one in h.
--   in_e b i        == port i is active
--   none, one, more == nothing, exactly one port, several are heard
--   signalled b h  == AUI alone is heard, and carries its collision signal
--   crash b h      == it is a collision for the credits
--   word_by b h     == the word; told_data b h == it is data
--   out_by t h i    == something goes out to port i
--   collided_by b t h i == port i collides
--   clean_by b t h i == the burst is clean for port i of T
--   lasting_by b t h i == and is longer than a fragment, which is nothing to a port
--   reconnects_by alternate b t h i == such a burst connects port i again if it is partitioned
--   met_by alternate b t h i == the event that the burst is to port i
-- Assumes nothing.
use Rattle.std.specs.Prelude.{ℕ, Bool, cond, not, ◌&&◌, ◌||◌, eqb, leb, ltb}
use Rattle.std.specs.Int.Count.{ones}
use Rattle.ports.specs.Sets.{aui, has}
use Rattle.history.specs.History.{Event, collided, clean, neither}
use Rattle.record.specs.declared.Burst.{Burst}
use Rattle.burst.specs.declared.Word.{Word}
use Rattle.burst.specs.declared.Word.TheVariants.{Nil, Rep, Jam}

abbrev pub in_e : Burst → ℕ → Bool
in_e b i = has b.mask i || (b.collision_signal && eqb i aui)

abbrev pub none : ℕ → Bool
none h = eqb (ones h) 0

abbrev pub one : ℕ → Bool
one h = eqb (ones h) 1

abbrev pub more : ℕ → Bool
more h = leb 2 (ones h)

abbrev pub signalled : Burst → ℕ → Bool
signalled b h = one h && has h aui && b.collision_signal

abbrev pub crash : Burst → ℕ → Bool
crash b h = more h || signalled b h

unfoldable pub word_by : Burst → ℕ → Word
word_by b h = cond (none h) Nil (cond (crash b h || b.rate_error) Jam Rep)

-- one is heard, and neither its signal nor a rate error spoils it
abbrev pub told_data : Burst → ℕ → Bool
told_data b h = one h && not (signalled b h) && not b.rate_error

abbrev pub jams : Burst → ℕ → Bool
jams b h = crash b h || (one h && b.rate_error)

unfoldable pub out_by : ℕ → ℕ → ℕ → Bool
out_by t h i = has t i && (more h || (one h && not (has h i)))

-- every active port of T, but for a single heard port that has no collision signal; and with nothing heard AUI alone, by its signal
unfoldable pub collided_by : Burst → ℕ → ℕ → ℕ → Bool
collided_by b t h i =
    in_e b i && has t i && (crash b h || (one h && not (has h i)) || (none h && eqb i aui && b.collision_signal))

unfoldable pub clean_by : Burst → ℕ → ℕ → ℕ → Bool
clean_by b t h i = not (jams b h) && not (collided_by b t h i) && (in_e b i || (told_data b h && out_by t h i))

unfoldable pub lasting_by : Burst → ℕ → ℕ → ℕ → Bool
lasting_by b t h i = clean_by b t h i && ltb 512 b.d

unfoldable pub reconnects_by : Bool → Burst → ℕ → ℕ → ℕ → Bool
reconnects_by alternate b t h i = not alternate || (told_data b h && out_by t h i)

unfoldable pub met_by : Bool → Burst → ℕ → ℕ → ℕ → Event
met_by alternate b t h i =
    cond (not (has t i)) neither
    (cond (collided_by b t h i) (collided b.x)
    (cond (lasting_by b t h i) (clean (reconnects_by alternate b t h i))
    neither))
