-- Document 01, 'Burst': which ports are active (E), what the heard ports (H) say, and what follows from it. H and the ports sent to (T) come from the
-- ports' states; here they are given. What the expansion bus brings decides beside H: for each value of it, and each case of H where that matters, one
-- clause says all that follows.
--   in_e activity i         == port i is in E
--   heard_of h              == nothing, one port, or more, by the count of ones of the mask h
--   signalled p activity   == port p is AUI, and carries its collision signal
--   word_of_one p activity   == the word for the single heard port p
--   effect_with bus heard hearing activity == what follows: the word, the ports that something goes out to, the ports that collide, the single heard port
--                             or none, whether it is a collision for the credits, and whether two or more are heard
--   effect_of bus hearing activity == the same, for the hearing's own count
-- Assumes nothing.
use Rattle.std.specs.Prelude.{ℕ, Bool, true, false, cond, not, ◌&&◌, ◌||◌, Some, None, eqb}
use Rattle.std.specs.Int.Count.{ones, count_trailing_zeros}
use Rattle.ports.specs.Sets.{aui, has, set_of}
use Rattle.burst.specs.declared.Activity.{Activity}
use Rattle.burst.specs.declared.Bus.{Bus}
use Rattle.burst.specs.declared.Word.{Word}
use Rattle.burst.specs.declared.Word.TheVariants.{Nil, Rep, Jam}
use Rattle.burst.specs.declared.Heard.{Heard}
use Rattle.burst.specs.declared.Hearing.{Hearing}
use Rattle.burst.specs.declared.Effect.{Effect}

-- E: the mask's ports, and AUI with its collision signal
abbrev pub in_e : Activity → ℕ → Bool
in_e activity i = has activity.mask i || (activity.collision_signal && eqb i aui)

-- the count of ones decides; the trailing zeros name the port
unfoldable pub heard_of : ℕ → Heard
heard_of h = cond (eqb (ones h) 0) Heard.Nothing (cond (eqb (ones h) 1) (Heard.One (count_trailing_zeros 16 h)) Heard.More)

abbrev pub signalled : ℕ → Activity → Bool
signalled p activity = eqb p aui && activity.collision_signal

-- jam for AUI with its signal and for a rate error, else data
abbrev pub word_of_one : ℕ → Activity → Word
word_of_one p activity = cond (signalled p activity || activity.rate_error) Jam Rep

-- None heard: AUI collides by its signal. One: all of E within T collide if it is AUI with its signal, else all but the heard port. More: all of E within T.
unfoldable pub effect_with : Bus → Heard → Hearing → Activity → Effect
effect_with Bus.Nothing Heard.Nothing hearing activity = record {
  word = Nil;
  out = set_of (λ i. false);
  collided = set_of (λ i. activity.collision_signal && eqb i aui && has hearing.t i);
  single = None;
  collision = false;
  transmit_collision = false;
}
effect_with Bus.Nothing (Heard.One p) hearing activity = record {
  word = word_of_one p activity;
  out = set_of (λ i. has hearing.t i && not (eqb i p));
  collided = set_of (λ i. has hearing.e i && has hearing.t i && (signalled p activity || not (eqb i p)));
  single = Some p;
  collision = signalled p activity;
  transmit_collision = false;
}
effect_with Bus.Nothing Heard.More hearing activity = record {
  word = Jam;
  out = set_of (λ i. has hearing.t i);
  collided = set_of (λ i. has hearing.e i && has hearing.t i);
  single = None;
  collision = true;
  transmit_collision = true;
}

unfoldable pub effect_of : Bus → Hearing → Activity → Effect
effect_of bus hearing activity = effect_with bus hearing.heard hearing activity
