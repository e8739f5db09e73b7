-- What the crates above may rely on, of any bytes whatever.
--     kind_decides       what an accepted record asks for is what its kind byte says
--     refused_exactly    the record is refused with k exactly if k is the number of the first row that holds
--     bounded            what a record asks for is within its bounds; bounded_as says it of a record that was matched
--     source_zero        the source address is all zero in whatever is no burst
-- Above each stand bytes at which it says something. Assumes nothing.
use Prim.Native.Nat.{ℕ, ◌+◌, ◌*◌, ◌/◌, ◌≤◌, ◌<◌}
use mathlib.Core.Path.{◌≡◌, refl, sym, ap, subst, ◌∙◌}
use mathlib.Core.List.{List, [], ◌∷◌, ◌++◌}
use mathlib.Core.Option.{Option, none, some}
use mathlib.Core.Bool.{Bool, true, false, ◌||◌, ◌&&◌, not, cond}
use mathlib.Core.Logic.{◌⊎◌, inl, inr, ◌↔◌}
use native.Mathlib.Omega.{arith}
use lib.Dec.{leb, ltb, eqb}
use borrow.Author.Tests.{leb-false, ltb-true, ltb-false, eqb-true, eqb-false, not-false}
use Rattle.record.specs.Record.{burst_kind, tick_kind, mask, source, byte_at, bytes_from, bytes_in, number_in, burst_of}
use Rattle.record.specs.Record.{Kind, kinds, find, used, unused, all_zero, stray_for, stray}
use Rattle.record.specs.Refusals.{burst_mask_end, pulse_mask_end, longest, most_dribble, bad_numbers, nothing_active, selects_neither}
use Rattle.record.specs.Refusals.{Row, refusals, first_of, asked_by, answer, record_of}
use Rattle.record.specs.Accepted.{kind_number, BurstBounds, Bounded}
use Rattle.record.specs.Records.{no_address, from, pulse_record, tick_record}
use Rattle.record.specs.declared.Asked.{Asked}
use Rattle.record.specs.declared.Burst.{Burst}
use Rattle.record.specs.declared.Record.{Record}
use Rattle.record.proofs.Sheet.{burst}

clash : {X : Type 0} → true ≡ false → X
clash e = let z : ◌≡◌ {A = ℕ} 0 1 = cc in absurd (omega arith)

or_left : (a b : Bool) → (a || b) ≡ false → a ≡ false
or_left true b e = e
or_left false b e = refl

-- no row holds
abbrev Fails : List Row → Type 0
Fails [] = Unit
Fails (r ∷ rs) = (r.holds ≡ false) × Fails rs

none_holds : (rs : List Row) → first_of rs ≡ none → Fails rs
unfolding first_of
none_holds [] e = tt
none_holds (r ∷ rs) e = go r.holds refl (none_holds rs) e
  where
    go : (t : Bool) → r.holds ≡ t → (first_of rs ≡ none → Fails rs) → cond t (some r.number) (first_of rs) ≡ none → Fails (r ∷ rs)
    go true h rest e = let z : ◌≡◌ {A = ℕ} 0 1 = cc in absurd (omega arith)
    go false h rest e = (h, rest e)

-- a test that every row's number passes is passed by the first one's
abbrev numbers_pass : (ℕ → Bool) → List Row → Bool
numbers_pass t [] = true
numbers_pass t (r ∷ rs) = t r.number && numbers_pass t rs

both : (a b : Bool) → (a && b) ≡ true → (a ≡ true) × (b ≡ true)
both true b e = (refl, e)
both false b e = clash (sym e)

first_number : (t : ℕ → Bool) (rs : List Row) → numbers_pass t rs ≡ true → (k : ℕ) → first_of rs ≡ some k → t k ≡ true
unfolding first_of
first_number t [] h k e = let z : ◌≡◌ {A = ℕ} 0 1 = cc in absurd (omega arith)
first_number t (r ∷ rs) h k e =
    let p = both (t r.number) (numbers_pass t rs) h in
    go r.holds p.0 (first_number t rs p.1 k) e
  where
    go : (b : Bool) → t r.number ≡ true → (first_of rs ≡ some k → t k ≡ true) → cond b (some r.number) (first_of rs) ≡ some k → t k ≡ true
    go true first rest e = let z : r.number ≡ k = cc in subst (λ (n : ℕ). t n ≡ true) z first
    go false first rest e = rest e

-- what holds of each kind of a table that has the number q holds of the one that is found
infixr 4 ◌▸◌
data Each (P : Kind → Type 0) (q : ℕ) : List Kind → Type 0 where
  end : Each P q []
  ◌▸◌ : {e : Kind} {es : List Kind} → (q ≡ e.number → P e) → Each P q es → Each P q (e ∷ es)

abbrev Found : (Kind → Type 0) → Option Kind → Type 0
Found P none = Unit
Found P (some e) = P e

found : (P : Kind → Type 0) (q : ℕ) (es : List Kind) → Each P q es → Found P (find es q)
unfolding find
found P q [] h = tt
found P q (e ∷ es) (h ▸ hs) = go (eqb q e.number) refl (found P q es hs)
  where
    go : (t : Bool) → eqb q e.number ≡ t → Found P (find es q) → Found P (cond t (some e) (find es q))
    go true k rest = h (eqb-true q e.number k)
    go false k rest = rest

known : (P : Asked → Type 0) (s : List ℕ) (o : Option Kind) → stray_for o s ≡ false → Found (λ e. P (e.asks s)) o → P (asked_by o s)
known P s none h f = clash h
known P s (some e) h f = f

-- what holds of a refusal by the first row, and of each kind where no row holds, holds of the answer
cases :
    (P : Asked → Type 0) (s : List ℕ) →
    ((k : ℕ) → first_of (refusals s) ≡ some k → P (Asked.Refused k)) →
    (first_of (refusals s) ≡ none → Each (λ e. P (e.asks s)) (byte_at s 0) kinds) →
    P (record_of s).asked
unfolding record_of answer refusals stray
cases P s f g = go (first_of (refusals s)) refl
  where
    go : (o : Option ℕ) → first_of (refusals s) ≡ o → P (answer o s).asked
    go (some k) e = f k e
    go none e =
        known P s (find kinds (byte_at s 0)) (none_holds (refusals s) e).1.0
        (found (λ e. P (e.asks s)) (byte_at s 0) kinds (g e))

decided_at : first_of (refusals (pulse_record 3)) ≡ none
unfolding first_of refusals selects_neither nothing_active bad_numbers stray all_zero unused used find bytes_from
decided_at = refl

pub kind_decides : (s : List ℕ) → first_of (refusals s) ≡ none → kind_number (record_of s).asked ≡ byte_at s 0
kind_decides s h =
    cases (λ a. kind_number a ≡ byte_at s 0) s (λ k e. let z : ◌≡◌ {A = ℕ} 0 1 = cc in absurd (omega arith))
    (λ e.
    (λ q. rw q)
    ▸ (λ q. rw q)
    ▸ (λ q. rw q)
    ▸ (λ q. rw q)
    ▸ (λ q. rw q)
    ▸ (λ q. rw q)
    ▸ (λ q. rw q)
    ▸ (λ q. rw q)
    ▸ end)

refused_at : first_of (refusals (burst 0 512 0 0 0 0 0)) ≡ some 3
unfolding first_of refusals selects_neither nothing_active bad_numbers stray all_zero unused used find bytes_from
refused_at = refl

-- where no row holds the kind is not 0, the number of a refusal
pub refused_exactly : (s : List ℕ) (k : ℕ) → ((record_of s).asked ≡ Asked.Refused k) ↔ (first_of (refusals s) ≡ some k)
unfolding record_of answer refusals stray find
refused_exactly s k = (λ h. go (first_of (refusals s)) refl h, λ e. rw e)
  where
    go : (o : Option ℕ) → first_of (refusals s) ≡ o → (answer o s).asked ≡ Asked.Refused k → o ≡ some k
    go (some j) e h = cc
    go none e h =
        let zero : byte_at s 0 ≡ 0 = sym (rw e at (kind_decides s e)) ∙ ap kind_number h in
        clash (rw zero at (none_holds (refusals s) e).1.0)

all_fail : (a b c d e : Bool) → (a || b || c || d || e) ≡ false → (a ≡ false) × (b ≡ false) × (c ≡ false) × (d ≡ false) × (e ≡ false)
all_fail true b c d e h = clash h
all_fail false true c d e h = clash h
all_fail false false true d e h = clash h
all_fail false false false true e h = clash h
all_fail false false false false e h = (refl, refl, refl, refl, h)

-- a burst of which no row holds
within : (b : Burst) → leb burst_mask_end b.mask ≡ false → bad_numbers b ≡ false → nothing_active b ≡ false → BurstBounds b
unfolding bad_numbers nothing_active
within b high bad still =
    let octets = 8 * b.n + b.k in
    let collision = b.c + b.x in
    let h = all_fail (eqb b.d 0) (ltb longest b.d) (ltb most_dribble b.k) (ltb b.d octets) (ltb b.d collision) bad in
    record {
      mask_below = leb-false burst_mask_end b.mask high;
      active = λ z. not-false b.collision_signal (rw z at still);
      d_above = (let z = eqb-false b.d 0 h.0 in omega arith);
      d_within = ltb-false longest b.d h.1;
      k_within = ltb-false most_dribble b.k h.2;
      octets_within = ltb-false b.d (8 * b.n + b.k) h.3;
      collision_within = ltb-false b.d (b.c + b.x) h.4;
    }

-- a byte that selects P or R
selecting : (w : ℕ) → selects_neither w ≡ false → (w < 32) ⊎ ((224 ≤ w) × (w < 256))
unfolding selects_neither
selecting w h = go (eqb (w / 32) 0) refl (not-false _ h)
  where
    go : (t : Bool) → eqb (w / 32) 0 ≡ t → (t || eqb (w / 32) 7) ≡ true → (w < 32) ⊎ ((224 ≤ w) × (w < 256))
    go true e k = inl (let h = eqb-true (w / 32) 0 e in omega arith)
    go false e k = let h = eqb-true (w / 32) 7 k in inr (omega arith, omega arith)

bounded_at : kind_number (record_of (burst 0 511 1000000 64 7 512 999488)).asked ≡ burst_kind
unfolding record_of answer first_of refusals selects_neither nothing_active bad_numbers stray all_zero unused used find bytes_from
bounded_at = refl

pub bounded : (s : List ℕ) → Bounded (record_of s).asked
unfolding refusals
bounded s = cases Bounded s (λ k e. digit k (first_number one_to_nine (refusals s) refl k e)) (λ e. each (none_holds (refusals s) e))
  where
    one_to_nine : ℕ → Bool
    one_to_nine k = ltb 0 k && ltb k 10

    digit : (k : ℕ) → one_to_nine k ≡ true → (0 < k) × (k < 10)
    digit k h = let p = both (ltb 0 k) (ltb k 10) h in (ltb-true 0 k p.0, ltb-true k 10 p.1)

    each : Fails (refusals s) → Each (λ e. Bounded (e.asks s)) (byte_at s 0) kinds
    each rows =
        (λ q. within (burst_of s) (or_left _ _ (rw q at rows.1.1.0)) (rw q at rows.1.1.1.0) (rw q at rows.1.1.1.1.0))
        ▸ (λ q. leb-false pulse_mask_end (number_in s mask) (rw q at rows.1.1.0))
        ▸ (λ q. tt)
        ▸ (λ q. selecting (byte_at s 13) (rw q at rows.1.1.1.1.1.0))
        ▸ (λ q. tt)
        ▸ (λ q. tt)
        ▸ (λ q. tt)
        ▸ (λ q. tt)
        ▸ end

-- the same for a caller that holds the record r and has matched what it asks for
pub bounded_as : (s : List ℕ) {r : Record} {a : Asked} → r ≡ record_of s → r.asked ≡ a → Bounded a
bounded_as s e h = subst Bounded h (subst (λ (r : Record). Bounded r.asked) (sym e) (bounded s))

module _ (s : List ℕ) where
  zero_head : (i : ℕ) (is : List ℕ) → all_zero s (i ∷ is) ≡ true → (byte_at s i ≡ 0) × (all_zero s is ≡ true)
  unfolding all_zero
  zero_head i is h = let p = both (eqb (byte_at s i) 0) (all_zero s is) h in (eqb-true (byte_at s i) 0 p.0, p.1)

  zero_tail : (is js : List ℕ) → all_zero s (is ++ js) ≡ true → all_zero s js ≡ true
  zero_tail [] js h = h
  zero_tail (i ∷ is) js h = zero_tail is js (zero_head i (is ++ js) h).1

  -- a kind in which bytes 24 to 31 must be zero, after others
  silent : (is : List ℕ) (t : Bool) → (not (all_zero s (is ++ from 24 8)) || t) ≡ false → bytes_in s source ≡ no_address
  unfolding bytes_from
  silent is t h =
      let a = zero_head 24 _ (zero_tail is _ (not-false _ (or_left _ t h))) in
      let b = zero_head 25 _ a.1 in
      let c = zero_head 26 _ b.1 in
      let d = zero_head 27 _ c.1 in
      let e = zero_head 28 _ d.1 in
      let f = zero_head 29 _ e.1 in
      rw (a.0, b.0, c.0, d.0, e.0, f.0)

  abbrev Silent : Kind → Type 0
  Silent e = stray_for (some e) s ≡ false → bytes_in s source ≡ no_address

  silent_if : (o : Option Kind) → stray_for o s ≡ false → Found Silent o → bytes_in s source ≡ no_address
  silent_if none h f = clash h
  silent_if (some e) h f = f h

silent_at : kind_number (record_of tick_record).asked ≡ tick_kind
unfolding record_of answer first_of refusals selects_neither nothing_active bad_numbers stray all_zero unused used find bytes_from
silent_at = refl

pub source_zero : (s : List ℕ) → (byte_at s 0 ≡ burst_kind → ⊥) → (record_of s).source ≡ no_address
unfolding record_of answer refusals stray unused used
source_zero s other = go (first_of (refusals s)) refl
  where
    bare : (t : Bool) → (not (all_zero s (from 1 31)) || t) ≡ false → bytes_in s source ≡ no_address
    bare t = silent s (from 1 23) t

    write : (t : Bool) → (not (all_zero s (from 1 12 ++ from 14 18)) || t) ≡ false → bytes_in s source ≡ no_address
    write t = silent s (from 1 12 ++ from 14 10) t

    each : Each (Silent s) (byte_at s 0) kinds
    each =
        (λ q. absurd (other q))
        ▸ (λ q. silent s (1 ∷ from 4 20) _)
        ▸ (λ q. bare _)
        ▸ (λ q. write _)
        ▸ (λ q. write _)
        ▸ (λ q. bare _)
        ▸ (λ q. bare _)
        ▸ (λ q. bare _)
        ▸ end

    go : (o : Option ℕ) → first_of (refusals s) ≡ o → (answer o s).source ≡ no_address
    go (some k) e = refl
    go none e =
        silent_if s (find kinds (byte_at s 0)) (none_holds (refusals s) e).1.0 (found (Silent s) (byte_at s 0) kinds each)
