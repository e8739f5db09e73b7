-- Document 01, 'Burst': what the masks of a hearing say port by port, what the number of ports in H says of it, and what the effect of a burst says of H.
-- Assumes nothing.
--   nothing_heard, one_heard, more_heard == what is heard is nothing, port p alone, or more, exactly if no port, port p alone, two different ports or more
--                                           are in H
--   active_at, transmitting_at, heard_at_lem == a port is in the masks E, T and H exactly if the definition says so
--   transmitting_below, heard_below      == only places of ports are in T and in H
--   burst_hearing, burst_effect, burst_marks == the hearing and the effect of a burst, and the status bits that it sets
--   single_port, single_nobody           == the effect's single port is p, or there is none, exactly if p alone, or no port alone, is heard
--   single_heard, unheard_single         == the single port is heard; what is not heard is not it
--   several_heard                        == it is a transmit collision exactly if two different ports or more are heard
--   collision_of_none, -of-one, -of-several == when it is a collision for the credits
use Prim.Native.Nat.{ℕ, ◌<◌}
use mathlib.Core.Path.{◌≡◌, refl, sym, ◌∙◌}
use mathlib.Core.Bool.{Bool, true, false, true≢false}
use borrow.Author.Tests.{leb-true, leb-false}
use lib.Dec.{leb}
use Rattle.std.specs.declared.option.Option.TheVariants as option
use Rattle.ports.specs.Sets.{is_at, has, set_of, None, Only, Several}
use Rattle.history.specs.Exactly.{Exactly}
use Rattle.ports.proofs.Sets.{gather_lt, has_gather, set_true, and_second}
use Rattle.burst.specs.declared.Activity.{Activity}
use Rattle.burst.specs.declared.Bus.{Bus}
use Rattle.burst.specs.declared.Heard.TheVariants.{Nothing, One, More}
use Rattle.burst.specs.Burst.{in_e, heard_of, signalled, effect_of}
use Rattle.burst.specs.Marks.{marks_of}
use Rattle.burst.proofs.Counted as counted
use Rattle.burst.proofs.Counted.{heard_nothing, heard_one, heard_more}
use Rattle.repeater.specs.declared.Repeater.{Repeater}
use Rattle.repeater.specs.Those.{Transmitting, Listening}
use Rattle.repeater.specs.Door.{places_of}
use Rattle.repeater.specs.Hearing.{in_t, in_l, in_h, hearing_of}
use Rattle.repeater.specs.Repeater.{followed, burst_of, among}
use Rattle.repeater.proofs.DoorLaws.{past_among}

module _ (r : Repeater) (activity : Activity) where
  -- H is counted
  tied : (hearing_of r activity).heard ≡ heard_of (hearing_of r activity).h
  unfolding hearing_of
  tied = refl

  heard_lt : (hearing_of r activity).h < 65536
  unfolding hearing_of
  heard_lt = gather_lt 16 (in_h r activity)

  pub nothing_heard : Exactly ((hearing_of r activity).heard ≡ Nothing) (None (hearing_of r activity).h)
  unfolding hearing_of
  nothing_heard = heard_nothing (set_of (in_h r activity)) (gather_lt 16 (in_h r activity))

  pub one_heard : (p : ℕ) → Exactly ((hearing_of r activity).heard ≡ One p) (Only (hearing_of r activity).h p)
  unfolding hearing_of
  one_heard p = heard_one (set_of (in_h r activity)) (gather_lt 16 (in_h r activity)) p

  pub more_heard : Exactly ((hearing_of r activity).heard ≡ More) (Several (hearing_of r activity).h)
  unfolding hearing_of
  more_heard = heard_more (set_of (in_h r activity)) (gather_lt 16 (in_h r activity))

  pub active_at : (i : ℕ) → i < 16 → has (hearing_of r activity).e i ≡ in_e activity i
  unfolding hearing_of
  active_at i h = has_gather 16 (in_e activity) i h

  pub transmitting_at : (i : ℕ) → i < 16 → has (hearing_of r activity).t i ≡ in_t r i
  unfolding hearing_of
  transmitting_at i h = has_gather 16 (in_t r) i h

  pub heard_at_lem : (i : ℕ) → i < 16 → has (hearing_of r activity).h i ≡ in_h r activity i
  unfolding hearing_of
  heard_at_lem i h = has_gather 16 (in_h r activity) i h

  -- only ports are sent to, and only they are heard
  pub transmitting_below : (i : ℕ) → has (hearing_of r activity).t i ≡ true → i < places_of r
  unfolding hearing_of among
  transmitting_below i h = go (leb (places_of r) i) refl
    where
      go : (a : Bool) → leb (places_of r) i ≡ a → i < places_of r
      go true e = absurd (true≢false (sym (set_true (in_t r) i h) ∙ past_among Transmitting r i (leb-true (places_of r) i e)))
      go false e = leb-false (places_of r) i e

  pub heard_below : (i : ℕ) → has (hearing_of r activity).h i ≡ true → i < places_of r
  unfolding hearing_of among
  heard_below i h = go (leb (places_of r) i) refl
    where
      go : (a : Bool) → leb (places_of r) i ≡ a → i < places_of r
      go true e =
          let k : in_l r i ≡ true = and_second (in_e activity i) (in_l r i) (set_true (in_h r activity) i h) in
          absurd (true≢false (sym k ∙ past_among Listening r i (leb-true (places_of r) i e)))
      go false e = leb-false (places_of r) i e

  -- WHAT FOLLOWS

  pub burst_hearing : (burst_of r activity).hearing ≡ hearing_of r activity
  unfolding burst_of followed
  burst_hearing = refl

  pub burst_effect : (burst_of r activity).effect ≡ effect_of Bus.Nothing (hearing_of r activity) activity
  unfolding burst_of followed
  burst_effect = refl

  pub burst_marks : (burst_of r activity).marks ≡ marks_of (burst_of r activity).effect activity
  unfolding burst_of followed
  burst_marks = refl

  pub single_port : (p : ℕ) → Exactly ((burst_of r activity).effect.single ≡ option.Some p) (Only (burst_of r activity).hearing.h p)
  single_port p = rw (burst_effect, burst_hearing) (counted.single_port (hearing_of r activity) activity tied heard_lt p)

  pub single_nobody : Exactly ((burst_of r activity).effect.single ≡ option.None) ((p : ℕ) → Only (burst_of r activity).hearing.h p → ⊥)
  single_nobody = rw (burst_effect, burst_hearing) (counted.single_nobody (hearing_of r activity) activity tied heard_lt)

  pub single_heard : (i : ℕ) → is_at (burst_of r activity).effect.single i ≡ true → has (burst_of r activity).hearing.h i ≡ true
  single_heard = rw (burst_effect, burst_hearing) (counted.single_heard (hearing_of r activity) activity tied heard_lt)

  pub unheard_single : (i : ℕ) → has (burst_of r activity).hearing.h i ≡ false → is_at (burst_of r activity).effect.single i ≡ false
  unheard_single = rw (burst_effect, burst_hearing) (counted.unheard_single (hearing_of r activity) activity tied heard_lt)

  pub several_heard : Exactly ((burst_of r activity).effect.transmit_collision ≡ true) (Several (burst_of r activity).hearing.h)
  several_heard = rw (burst_effect, burst_hearing) (counted.several_heard (hearing_of r activity) activity tied heard_lt)

  pub collision_of_none : None (burst_of r activity).hearing.h → (burst_of r activity).effect.collision ≡ false
  collision_of_none = rw (burst_effect, burst_hearing) (counted.collision_of_none (hearing_of r activity) activity tied heard_lt)

  pub collision_of_one : (p : ℕ) → Only (burst_of r activity).hearing.h p → (burst_of r activity).effect.collision ≡ signalled p activity
  collision_of_one = rw (burst_effect, burst_hearing) (counted.collision_of_one (hearing_of r activity) activity tied heard_lt)

  pub collision_of_several : Several (burst_of r activity).hearing.h → (burst_of r activity).effect.collision ≡ true
  collision_of_several = rw (burst_effect, burst_hearing) (counted.collision_of_several (hearing_of r activity) activity tied heard_lt)
