-- Document 01, 'Burst': what the count of ones says of the heard ports, and what the masks of a burst's effect say port by port. Assumes nothing.
--   heard_nothing, heard_one, heard_more == the count says so exactly if no port, port p alone, two different ports or more are in the mask
--   out_transmitting, collided_transmitting == only ports of T are sent to, and only they collide
-- While the bus brings nothing:
--   out_at_none, -one, -more, collided_at_none, -one, -more == which ports are sent to, and which collide, by what is heard
-- and for every hearing that counts its own heard ports:
--   single_port, single_nobody == the effect's single port is p exactly if p alone is heard, and there is none exactly if no port is heard alone
--   single_heard, unheard_single == the single port is heard; what is not heard is not it
--   several_heard        == it is a transmit collision exactly if two different ports or more are heard
--   collision_of_none, -of-one, -of-several == when it is a collision for the credits
use Prim.Native.Nat.{ℕ, zero, suc, ◌<◌}
use mathlib.Core.Path.{◌≡◌, refl, sym, ap, ◌∙◌}
use mathlib.Core.Bool.{true, false, not, ◌&&◌, ◌||◌, false≢true, true≢false}
use Rattle.std.specs.Prelude.{Option, unwrap_or}
use Rattle.std.specs.declared.option.Option.TheVariants as option
use Rattle.std.proofs.lemmas.Option.{none-some}
use native.Mathlib.Omega.{arith}
use borrow.Author.Tests.{ne_eqb}
use lib.Dec.{eqb}
use lib.Count.{ones, count_trailing_zeros}
use Rattle.ports.specs.Sets.{aui, is_at, has, None, Only, Several}
use Rattle.history.specs.Exactly.{Exactly}
use Rattle.ports.proofs.Sets.{count_none, count_one, count_several, none_only, none_several, only_several, only_same}
use Rattle.ports.proofs.Sets.{has_gather, set_true, and_first, and_second, at_some, not_at}
use Rattle.burst.specs.declared.Activity.{Activity}
use Rattle.burst.specs.declared.Bus.{Bus}
use Rattle.burst.specs.declared.Heard.{Heard}
use Rattle.burst.specs.declared.Heard.TheVariants.{Nothing, One, More}
use Rattle.burst.specs.declared.Hearing.{Hearing}
use Rattle.burst.specs.Burst.{heard_of, signalled, effect_with, effect_of}

-- AT SMALL SETS

at_none : heard_of 0b000000000 ≡ Nothing
unfolding heard_of ones
at_none = refl

at_one : heard_of 0b100000000 ≡ One 8
unfolding heard_of ones count_trailing_zeros
at_one = refl

at_two : heard_of 0b100000001 ≡ More
unfolding heard_of ones
at_two = refl

-- THE COUNT

-- the three cases, with what each means
data Account (h : ℕ) : Type 0 where
  nothing : heard_of h ≡ Nothing → None h → Account h
  one : (p : ℕ) → heard_of h ≡ One p → Only h p → Account h
  more : heard_of h ≡ More → Several h → Account h

account : (h : ℕ) → h < 65536 → Account h
unfolding heard_of
account h l = go (ones h) refl
  where
    go : (n : ℕ) → ones h ≡ n → Account h
    go zero e = nothing (rw e) (count_none h e)
    go (suc zero) e = one (count_trailing_zeros 16 h) (rw e) (count_one 16 h l e)
    go (suc (suc n)) e =
        more (rw (e, ne_eqb (suc (suc n)) 0 (λ z. omega arith), ne_eqb (suc (suc n)) 1 (λ z. omega arith))) (count_several 16 h l (omega arith))

-- different answers are not equal
nothing_one : {A : Type 0} {k : Heard} {p : ℕ} → k ≡ Nothing → k ≡ One p → A
nothing_one {A} {k} {p} a b = let z : ◌≡◌ {A = ℕ} 0 1 = cc in absurd (omega arith)

nothing_more : {A : Type 0} {k : Heard} → k ≡ Nothing → k ≡ More → A
nothing_more {A} {k} a b = let z : ◌≡◌ {A = ℕ} 0 1 = cc in absurd (omega arith)

one_more : {A : Type 0} {k : Heard} {p : ℕ} → k ≡ One p → k ≡ More → A
one_more {A} {k} {p} a b = let z : ◌≡◌ {A = ℕ} 0 1 = cc in absurd (omega arith)

same_one : {k : Heard} {p q : ℕ} → k ≡ One p → k ≡ One q → p ≡ q
same_one {k} {p} {q} a b = cc

module _ (h : ℕ) (l : h < 65536) where
  pub heard_nothing : Exactly (heard_of h ≡ Nothing) (None h)
  heard_nothing = go (account h l)
    where
      go : Account h → Exactly (heard_of h ≡ Nothing) (None h)
      go (nothing e n) = record { forth = λ a. n; back = λ a. e }
      go (one p e o) = record { forth = λ a. nothing_one a e; back = λ n. absurd (none_only n o) }
      go (more e s) = record { forth = λ a. nothing_more a e; back = λ n. absurd (none_several n s) }

  pub heard_one : (p : ℕ) → Exactly (heard_of h ≡ One p) (Only h p)
  heard_one p = go (account h l)
    where
      go : Account h → Exactly (heard_of h ≡ One p) (Only h p)
      go (nothing e n) = record { forth = λ a. nothing_one e a; back = λ o. absurd (none_only n o) }
      go (one q e o) = record { forth = λ a. rw (same_one a e) o; back = λ b. rw (only_same b o) e }
      go (more e s) = record { forth = λ a. one_more a e; back = λ o. absurd (only_several o s) }

  pub heard_more : Exactly (heard_of h ≡ More) (Several h)
  heard_more = go (account h l)
    where
      go : Account h → Exactly (heard_of h ≡ More) (Several h)
      go (nothing e n) = record { forth = λ a. nothing_more e a; back = λ s. absurd (none_several n s) }
      go (one p e o) = record { forth = λ a. one_more e a; back = λ s. absurd (only_several o s) }
      go (more e s) = record { forth = λ a. s; back = λ a. e }

-- WITHIN T

out_within : (bus : Bus) (heard : Heard) (hearing : Hearing) (activity : Activity) (i : ℕ)
    → has (effect_with bus heard hearing activity).out i ≡ true → has hearing.t i ≡ true
unfolding effect_with
out_within Bus.Nothing Nothing hearing activity i h = absurd (false≢true (set_true (λ i. false) i h))
out_within Bus.Nothing (One p) hearing activity i h =
    and_first (has hearing.t i) (not (eqb i p)) (set_true (λ i. has hearing.t i && not (eqb i p)) i h)
out_within Bus.Nothing More hearing activity i h = set_true (λ i. has hearing.t i) i h

collided_within : (bus : Bus) (heard : Heard) (hearing : Hearing) (activity : Activity) (i : ℕ)
    → has (effect_with bus heard hearing activity).collided i ≡ true → has hearing.t i ≡ true
unfolding effect_with
collided_within Bus.Nothing Nothing hearing activity i h =
    and_second (activity.collision_signal && eqb i aui) (has hearing.t i)
    (set_true (λ i. activity.collision_signal && eqb i aui && has hearing.t i) i h)
collided_within Bus.Nothing (One p) hearing activity i h =
    let k = set_true (λ i. has hearing.e i && has hearing.t i && (signalled p activity || not (eqb i p))) i h in
    and_second (has hearing.e i) (has hearing.t i) (and_first (has hearing.e i && has hearing.t i) (signalled p activity || not (eqb i p)) k)
collided_within Bus.Nothing More hearing activity i h =
    and_second (has hearing.e i) (has hearing.t i) (set_true (λ i. has hearing.e i && has hearing.t i) i h)

module _ (bus : Bus) (hearing : Hearing) (activity : Activity) (i : ℕ) where
  pub out_transmitting : has (effect_of bus hearing activity).out i ≡ true → has hearing.t i ≡ true
  unfolding effect_of
  out_transmitting h = out_within bus hearing.heard hearing activity i h

  pub collided_transmitting : has (effect_of bus hearing activity).collided i ≡ true → has hearing.t i ≡ true
  unfolding effect_of
  collided_transmitting h = collided_within bus hearing.heard hearing activity i h

-- WHILE THE BUS BRINGS NOTHING

module _ (hearing : Hearing) (activity : Activity) (i : ℕ) (l : i < 16) where
  pub out_at_none : hearing.heard ≡ Nothing → has (effect_of Bus.Nothing hearing activity).out i ≡ false
  unfolding effect_of effect_with
  out_at_none e = rw e (has_gather 16 (λ j. false) i l)

  pub out_at_one : (p : ℕ) → hearing.heard ≡ One p → has (effect_of Bus.Nothing hearing activity).out i ≡ (has hearing.t i && not (eqb i p))
  unfolding effect_of effect_with
  out_at_one p e = rw e (has_gather 16 (λ j. has hearing.t j && not (eqb j p)) i l)

  pub out_at_more : hearing.heard ≡ More → has (effect_of Bus.Nothing hearing activity).out i ≡ has hearing.t i
  unfolding effect_of effect_with
  out_at_more e = rw e (has_gather 16 (λ j. has hearing.t j) i l)

  pub collided_at_none : hearing.heard ≡ Nothing
      → has (effect_of Bus.Nothing hearing activity).collided i ≡ (activity.collision_signal && eqb i aui && has hearing.t i)
  unfolding effect_of effect_with
  collided_at_none e = rw e (has_gather 16 (λ j. activity.collision_signal && eqb j aui && has hearing.t j) i l)

  pub collided_at_one : (p : ℕ) → hearing.heard ≡ One p
      → has (effect_of Bus.Nothing hearing activity).collided i ≡ (has hearing.e i && has hearing.t i && (signalled p activity || not (eqb i p)))
  unfolding effect_of effect_with
  collided_at_one p e = rw e (has_gather 16 (λ j. has hearing.e j && has hearing.t j && (signalled p activity || not (eqb j p))) i l)

  pub collided_at_more : hearing.heard ≡ More → has (effect_of Bus.Nothing hearing activity).collided i ≡ (has hearing.e i && has hearing.t i)
  unfolding effect_of effect_with
  collided_at_more e = rw e (has_gather 16 (λ j. has hearing.e j && has hearing.t j) i l)

some_same : {p q : ℕ} → option.Some p ≡ option.Some q → p ≡ q
some_same e = ap (λ (o : Option ℕ). unwrap_or o 0) e

module _ (hearing : Hearing) (activity : Activity) (counted : hearing.heard ≡ heard_of hearing.h) (l : hearing.h < 65536) where
  of_none : heard_of hearing.h ≡ Nothing → (effect_of Bus.Nothing hearing activity).single ≡ option.None
  unfolding effect_of effect_with
  of_none e = rw (counted ∙ e)

  of_one : (p : ℕ) → heard_of hearing.h ≡ One p → (effect_of Bus.Nothing hearing activity).single ≡ option.Some p
  unfolding effect_of effect_with
  of_one p e = rw (counted ∙ e)

  of_more : heard_of hearing.h ≡ More → (effect_of Bus.Nothing hearing activity).single ≡ option.None
  unfolding effect_of effect_with
  of_more e = rw (counted ∙ e)

  pub single_port : (p : ℕ) → Exactly ((effect_of Bus.Nothing hearing activity).single ≡ option.Some p) (Only hearing.h p)
  single_port p = go (account hearing.h l)
    where
      go : Account hearing.h → Exactly ((effect_of Bus.Nothing hearing activity).single ≡ option.Some p) (Only hearing.h p)
      go (nothing e n) = record { forth = λ a. absurd (none-some _ (sym (of_none e) ∙ a)); back = λ o. absurd (none_only n o) }
      go (one q e o) = record { forth = λ a. rw (some_same (sym a ∙ of_one q e)) o; back = λ k. rw (only_same k o) (of_one q e) }
      go (more e s) = record { forth = λ a. absurd (none-some _ (sym (of_more e) ∙ a)); back = λ o. absurd (only_several o s) }

  pub single_nobody : Exactly ((effect_of Bus.Nothing hearing activity).single ≡ option.None) ((p : ℕ) → Only hearing.h p → ⊥)
  single_nobody = go (account hearing.h l)
    where
      go : Account hearing.h → Exactly ((effect_of Bus.Nothing hearing activity).single ≡ option.None) ((p : ℕ) → Only hearing.h p → ⊥)
      go (nothing e n) = record { forth = λ a p o. none_only n o; back = λ a. of_none e }
      go (one q e o) = record { forth = λ a. absurd (none-some _ (sym a ∙ of_one q e)); back = λ a. absurd (a q o) }
      go (more e s) = record { forth = λ a p o. only_several o s; back = λ a. of_more e }

  pub single_heard : (i : ℕ) → is_at (effect_of Bus.Nothing hearing activity).single i ≡ true → has hearing.h i ≡ true
  single_heard i e = ((single_port i).forth (at_some _ i e)).is

  pub unheard_single : (i : ℕ) → has hearing.h i ≡ false → is_at (effect_of Bus.Nothing hearing activity).single i ≡ false
  unheard_single i u = not_at _ i (λ e. true≢false (sym ((single_port i).forth e).is ∙ u))

  transmitted : (heard : Heard) → heard_of hearing.h ≡ heard
      → (effect_of Bus.Nothing hearing activity).transmit_collision ≡ (effect_with Bus.Nothing heard hearing activity).transmit_collision
  unfolding effect_of
  transmitted heard e = rw (counted ∙ e)

  pub several_heard : Exactly ((effect_of Bus.Nothing hearing activity).transmit_collision ≡ true) (Several hearing.h)
  unfolding effect_with
  several_heard = go (account hearing.h l)
    where
      go : Account hearing.h → Exactly ((effect_of Bus.Nothing hearing activity).transmit_collision ≡ true) (Several hearing.h)
      go (nothing e n) = record { forth = λ a. absurd (true≢false (sym a ∙ transmitted Nothing e)); back = λ s. absurd (none_several n s) }
      go (one p e o) = record { forth = λ a. absurd (true≢false (sym a ∙ transmitted (One p) e)); back = λ s. absurd (only_several o s) }
      go (more e s) = record { forth = λ a. s; back = λ a. transmitted More e }

  credited : (heard : Heard) → heard_of hearing.h ≡ heard
      → (effect_of Bus.Nothing hearing activity).collision ≡ (effect_with Bus.Nothing heard hearing activity).collision
  unfolding effect_of
  credited heard e = rw (counted ∙ e)

  pub collision_of_none : None hearing.h → (effect_of Bus.Nothing hearing activity).collision ≡ false
  unfolding effect_with
  collision_of_none n = credited Nothing ((heard_nothing hearing.h l).back n)

  pub collision_of_one : (p : ℕ) → Only hearing.h p → (effect_of Bus.Nothing hearing activity).collision ≡ signalled p activity
  unfolding effect_with
  collision_of_one p o = credited (One p) ((heard_one hearing.h l p).back o)

  pub collision_of_several : Several hearing.h → (effect_of Bus.Nothing hearing activity).collision ≡ true
  unfolding effect_with
  collision_of_several s = credited More ((heard_more hearing.h l).back s)
