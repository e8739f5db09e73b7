-- Credits as the code stores them, register by register at the ports of a mask, and the credits of specs/Credits. Assumes nothing.
--   Lays                                         == the loop over a port's counters: those that are laid by then
--   Bumping, bump_all, bump_more, bump_none      == the loop over the ports of a mask: what is left to be added to what there is
--   then                                         == one after the other adds up
--   given, withheld                              == a credit that depends on a test, as one of a mask that is empty where it is not given
--   tallied                                      == the eight of `count` add up to what is due
--   credited, credit_made                        == and with the address they are the credits of a burst
use Rattle.std.proofs.Common.{◌≡◌, ℕ, zero, suc, ◌+◌, ◌%◌, ◌^◌, ◌<◌, Bool, true, false, cond, ◌&&◌, ◌||◌, eqb, ltb, List, length, get_or, set, sym, refl, ap, ◌∙◌, ap₂, arith, eq-eqb, ne_eqb, eqb-true}
use mathlib.Core.Bool.{and-true, and-false}
use borrow.Author.Tests.{eqb-false}
use lib.Bits.{bit_and, bit_or}
use lib.Pointwise.{pointwise}
use Rattle.std.specs.Prelude.{Option, Some, None}
use Rattle.ports.specs.Sets.{port_count, is_at, has, set_of}
use Rattle.ports.specs.Each.{each}
use Rattle.ports.proofs.Sets.{has_none, has_and, has_or, has_others, has_gather}
use Rattle.ports.proofs.Places.{First, left_itself, left_other}
use Rattle.record.specs.declared.Burst.{Burst}
use Rattle.burst.specs.Marks.{jabber_above}
use Rattle.attributes.specs.declared.Attributes.{Attributes}
use Rattle.attributes.specs.declared.Nine.{Nine}
use Rattle.attributes.specs.declared.Flat.{Flat}
use Rattle.attributes.specs.declared.Due.{Due}
use Rattle.attributes.specs.declared.Met.{Met}
use Rattle.attributes.specs.declared.Share.{Share}
use Rattle.attributes.specs.Nine.{readable_frames, readable_octets, collisions, late_events, very_long_events, rate_mismatches, auto_partitions, address_changes}
use Rattle.attributes.specs.Nine.{counter_count, port_of, with_port, with_address, readdressed}
use Rattle.attributes.specs.Credits.{late_above, mismatch_above, same_address, class_of, due_of, share_of, one, credit_for, credits_of, credit_of, counted, credited_with, credited_at}
use Rattle.attributes.specs.Credits.{credited_all}
use Rattle.attributes.specs.OneClass.{classes, Among}
use Rattle.attributes.specs.OneClass as Class
use Rattle.attributes.specs.Flat.{place, flat_size, spot, spots_size, listed, record_at, nine_of, nine_in, Counters, Counting, Readdressed, Credited}
use Rattle.attributes.specs.Counts.{counted_for, framed_of, framed_port}
use Rattle.attributes.proofs.Sheet.{others_credited}
use Rattle.attributes.proofs.Listed.{listed_same, listed_all, set_listed, each_listed}
use Rattle.attributes.proofs.OneClass.{falls, class_listed}
use Rattle.attributes.proofs.NineLaws.{credits_at}
use Rattle.attributes.proofs.FlatLaws.{port_held, stored_at, fine_stored}

swapped : (t u : Bool) → (t && u) ≡ (u && t)
swapped true true = refl
swapped true false = refl
swapped false true = refl
swapped false false = refl

-- A PORT'S COUNTERS LAID, THE FIRST r OF THEM

pub record Lays (i : ℕ) (numbers : List ℕ) (flat : Flat) (r : ℕ) (now : Flat) : Type 0 where
  pub addresses : now.addresses ≡ flat.addresses
  pub fine : length now.counters ≡ length flat.counters
  pub is : length flat.counters ≡ flat_size → (q k : ℕ) → k < port_count
      → get_or now.counters (place q k) 0 ≡ cond (eqb k i && ltb q r) (get_or numbers q 0) (get_or flat.counters (place q k) 0)

-- A REGISTER AT THE PORTS OF A MASK

pub record Bumping (register n mask m : ℕ) (flat now : Flat) : Type 0 where
  pub low : m < 512
  pub addresses : now.addresses ≡ flat.addresses
  pub fine : Counters flat.counters → Counters now.counters
  pub is : Counters flat.counters → (r i : ℕ) → r < counter_count → i < port_count
      → (get_or now.counters (place r i) 0 + cond (eqb register r && has m i) n 0) % 2 ^ 32 ≡ (get_or flat.counters (place r i) 0 + cond (eqb register r && has mask i) n 0) % 2 ^ 32

module _ (register n mask : ℕ) (flat : Flat) where
  ports_only : (i : ℕ) → i < port_count → has (bit_and mask 511) i ≡ has mask i
  ports_only i h = has_and mask 511 i ∙ rw (has_others 9 0 i (omega arith) h, has_none i) (and-true (has mask i))

  pub bump_all : (m : ℕ) → m ≡ bit_and mask 511 → m < 512 → Bumping register n mask m flat flat
  bump_all m e l = record { low = l; addresses = refl; fine = λ f. f; is = λ f r i h k. rw (e, ports_only i k) }

  pub bump_more : (m p rest v : ℕ) (now : Flat) → register < counter_count → p < port_count → First m p rest → Bumping register n mask m flat now
      → v ≡ (get_or now.counters (place register p) 0 + n) % 2 ^ 32 → Bumping register n mask rest flat (record { counters = set now.counters (place register p) v; addresses = now.addresses })
  bump_more m p rest v now h l first w e = record {
    low = omega (arith, first.less, w.low);
    addresses = w.addresses;
    fine = λ f. fine_stored now.counters (place register p) v (omega arith) (w.fine f);
    is = λ f r i k o. ap (λ (x : ℕ). (x + cond (eqb register r && has rest i) n 0) % 2 ^ 32) (stored_at now.counters register p v r i (w.fine f).long h l o)
        ∙ go r i (eqb register r) (eqb i p) refl refl
        ∙ w.is f r i k o;
  }
    where
      go : (r i : ℕ) (t u : Bool) → eqb register r ≡ t → eqb i p ≡ u
          → (cond (eqb r register && eqb i p) v (get_or now.counters (place r i) 0) + cond (eqb register r && has rest i) n 0) % 2 ^ 32
          ≡ (get_or now.counters (place r i) 0 + cond (eqb register r && has m i) n 0) % 2 ^ 32
      go r i true true a b =
          let x = eqb-true register r a in
          let y = eqb-true i p b in
          rw (← x, y, eq-eqb register register refl, eq-eqb p p refl, left_itself m p rest first, first.is, e) (omega arith)
      go r i true false a b = rw (b, and-false (eqb r register), left_other m p rest first i (eqb-false i p b))
      go r i false u a b =
          let x = eqb-false register r a in
          rw (a, ne_eqb r register (λ z. x (sym z)))

  pub bump_none : (m : ℕ) (now : Flat) → m ≡ 0 → Bumping register n mask m flat now → Counting (λ r i. cond (eqb register r && has mask i) n 0) flat now
  bump_none m now z w = record {
    addresses = w.addresses;
    fine = w.fine;
    is = λ f r i h k.
        let low = (w.fine f).low (place r i) in
        let none : has m i ≡ false = rw z (has_none i) in
        let same : (get_or now.counters (place r i) 0 + 0) % 2 ^ 32 ≡ get_or now.counters (place r i) 0 = omega arith in
        let sum : (get_or now.counters (place r i) 0 + 0) % 2 ^ 32 ≡ (get_or flat.counters (place r i) 0 + cond (eqb register r && has mask i) n 0) % 2 ^ 32 =
        rw (none, and-false (eqb register r)) at (w.is f r i h k) in
        sym same ∙ sum;
  }

-- ONE AFTER THE OTHER

pub then : {f g : ℕ → ℕ → ℕ} {flat now later : Flat} → Counting f flat now → Counting g now later → Counting (λ r i. f r i + g r i) flat later
then {f} {g} {flat} {now} {later} a b = record {
  addresses = b.addresses ∙ a.addresses;
  fine = λ c. b.fine (a.fine c);
  is = λ c r i h k. b.is (a.fine c) r i h k ∙ ap (λ (x : ℕ). (x + g r i) % 2 ^ 32) (a.is c r i h k) ∙ sum (get_or flat.counters (place r i) 0) (f r i) (g r i);
}
  where
    sum : (c x y : ℕ) → ((c + x) % 2 ^ 32 + y) % 2 ^ 32 ≡ (c + (x + y)) % 2 ^ 32
    sum c x y = omega arith

pub counting_as : {f : ℕ → ℕ → ℕ} {flat later : Flat} (g : ℕ → ℕ → ℕ) → ((r i : ℕ) → r < counter_count → i < port_count → f r i ≡ g r i)
    → Counting f flat later → Counting g flat later
counting_as {f} {flat} {later} g e a =
    record { addresses = a.addresses; fine = a.fine; is = λ c r i h k. a.is c r i h k ∙ ap (λ (x : ℕ). (get_or flat.counters (place r i) 0 + x) % 2 ^ 32) (e r i h k) }

-- a register's credit at the ports of a mask, where it is given at all
abbrev pub at_ports : ℕ → ℕ → ℕ → ℕ → ℕ → ℕ
at_ports register mask n r i = cond (eqb register r && has mask i) n 0

pub still : (register n : ℕ) (flat : Flat) → Counting (at_ports register 0 n) flat flat
still register n flat = record {
  addresses = refl;
  fine = λ c. c;
  is = λ c r i h k.
      let low = c.low (place r i) in
      rw (has_none i, and-false (eqb register r)) (omega arith);
}

pub given : (t : Bool) (register mask n : ℕ) (flat later last : Flat) → t ≡ true → last ≡ later → Counting (at_ports register mask n) flat later
    → Counting (at_ports register (cond t mask 0) n) flat last
given t register mask n flat later last e f a = rw (e, f) a

pub withheld : (t : Bool) (register mask n : ℕ) (flat last : Flat) → t ≡ false → last ≡ flat → Counting (at_ports register (cond t mask 0) n) flat last
withheld t register mask n flat last e f = rw (e, f) (still register n flat)

-- WHAT IS DUE

-- the six classes are no other register, and below the last
never : (class k : ℕ) → Among class classes → eqb 0 k ≡ false → eqb 2 k ≡ false → eqb 3 k ≡ false → eqb 4 k ≡ false → eqb 5 k ≡ false → eqb 6 k ≡ false
    → eqb class k ≡ false
never class k Class.here e0 e2 e3 e4 e5 e6 = e0
never class k (Class.later Class.here) e0 e2 e3 e4 e5 e6 = e2
never class k (Class.later (Class.later Class.here)) e0 e2 e3 e4 e5 e6 = e3
never class k (Class.later (Class.later (Class.later Class.here))) e0 e2 e3 e4 e5 e6 = e4
never class k (Class.later (Class.later (Class.later (Class.later Class.here)))) e0 e2 e3 e4 e5 e6 = e5
never class k (Class.later (Class.later (Class.later (Class.later (Class.later Class.here))))) e0 e2 e3 e4 e5 e6 = e6
never class k (Class.later (Class.later (Class.later (Class.later (Class.later (Class.later x)))))) e0 e2 e3 e4 e5 e6 = elim x [ ]

pub class_low : (class : ℕ) → Among class classes → class < counter_count
class_low class Class.here = omega arith
class_low class (Class.later Class.here) = omega arith
class_low class (Class.later (Class.later Class.here)) = omega arith
class_low class (Class.later (Class.later (Class.later Class.here))) = omega arith
class_low class (Class.later (Class.later (Class.later (Class.later Class.here)))) = omega arith
class_low class (Class.later (Class.later (Class.later (Class.later (Class.later Class.here))))) = omega arith
class_low class (Class.later (Class.later (Class.later (Class.later (Class.later (Class.later x)))))) = elim x [ ]

-- the ports of a set that is asked for, or none
has_those : (b : Bool) (m i : ℕ) → has (cond b m 0) i ≡ (b && has m i)
has_those true m i = refl
has_those false m i = has_none i

-- the masks of `count`
pub record Masks (due : Due) (burst : Burst) (own framed crowd late long mistimed changed : ℕ) : Type 0 where
  pub own_is : own ≡ bit_and (set_of (is_at due.single)) (bit_or due.heard due.cut)
  pub framed_is : framed ≡ cond (eqb due.class readable_frames) own 0
  pub crowd_is : crowd ≡ cond due.collision due.heard 0
  pub late_is : late ≡ cond (ltb late_above burst.c) crowd 0
  pub long_is : long ≡ cond (ltb jabber_above burst.d) due.heard 0
  pub mistimed_is : mistimed ≡ cond (burst.rate_error && ltb mismatch_above burst.d) own 0
  pub changed_is : changed ≡ bit_and due.changed (bit_or due.heard due.cut)

-- eight credits, in the order of `count`
abbrev credit : Bool → ℕ → ℕ → ℕ → ℕ
credit t register r n = cond (eqb register r && t) n 0

abbrev eight : (own framed crowd late long mistimed cut changed : Bool) (class n r : ℕ) → ℕ
eight own framed crowd late long mistimed cut changed class n r =
    credit own class r 1
    + credit framed readable_octets r n
    + credit crowd collisions r 1
    + credit late late_events r 1
    + credit long very_long_events r 1
    + credit mistimed rate_mismatches r 1
    + credit cut auto_partitions r 1
    + credit changed address_changes r 1

first : (x : ℕ) → x + 0 + 0 + 0 + 0 + 0 + 0 + 0 ≡ x
first x = omega arith

second : (x : ℕ) → 0 + x + 0 + 0 + 0 + 0 + 0 + 0 ≡ x
second x = omega arith

third : (x : ℕ) → 0 + 0 + x + 0 + 0 + 0 + 0 + 0 ≡ x
third x = omega arith

fourth : (x : ℕ) → 0 + 0 + 0 + x + 0 + 0 + 0 + 0 ≡ x
fourth x = omega arith

fifth : (x : ℕ) → 0 + 0 + 0 + 0 + x + 0 + 0 + 0 ≡ x
fifth x = omega arith

sixth : (x : ℕ) → 0 + 0 + 0 + 0 + 0 + x + 0 + 0 ≡ x
sixth x = omega arith

seventh : (x : ℕ) → 0 + 0 + 0 + 0 + 0 + 0 + x + 0 ≡ x
seventh x = omega arith

eighth : (x : ℕ) → 0 + 0 + 0 + 0 + 0 + 0 + 0 + x ≡ x
eighth x = omega arith

rotated : (a b c : Bool) → ((a && b) && c) ≡ ((c && a) && b)
rotated true true true = refl
rotated true true false = refl
rotated true false true = refl
rotated true false false = refl
rotated false b true = refl
rotated false b false = refl

-- at one port that has a part in the burst: heard, cut, the single one, its address changes; a collision, a late one, a very long burst, a mistimed one
module _ (burst : Burst) (class : ℕ) (is : Among class classes) (heard cut single changed collision : Bool) where
  abbrev share : Share
  share = record { heard = heard; single = single; collision = collision && heard; class = class; cut = cut; changed = changed }

  abbrev Sum : ℕ → Type 0
  Sum r =
      eight single (eqb class readable_frames && single) (collision && heard) (ltb late_above burst.c && (collision && heard))
      (ltb jabber_above burst.d && heard) ((burst.rate_error && ltb mismatch_above burst.d) && single) cut changed class burst.n r
      ≡ credit_for share burst r

  -- the six classes
  of_class : (r : ℕ) → cond (eqb class r && single) 1 0 + 0 + 0 + 0 + 0 + 0 + 0 + 0 ≡ one (single && eqb class r)
  of_class r = first (one (eqb class r && single)) ∙ ap one (swapped (eqb class r) single)

  -- a register that is no class
  besides : (r : ℕ) → eqb 0 r ≡ false → eqb 2 r ≡ false → eqb 3 r ≡ false → eqb 4 r ≡ false → eqb 5 r ≡ false → eqb 6 r ≡ false → eqb class r ≡ false
  besides r a b c d e f = never class r is a b c d e f

  pub shared : (r : ℕ) → r < counter_count → Sum r
  unfolding credit_for
  shared zero l = of_class 0
  shared (suc zero) l =
      rw (besides 1 refl refl refl refl refl refl)
      (second (cond (eqb class 0 && single) burst.n 0) ∙ ap (λ (t : Bool). cond t burst.n 0) (swapped (eqb class 0) single))
  shared (suc (suc zero)) l = of_class 2
  shared (suc (suc (suc zero))) l = of_class 3
  shared (suc (suc (suc (suc zero)))) l = of_class 4
  shared (suc (suc (suc (suc (suc zero))))) l = of_class 5
  shared (suc (suc (suc (suc (suc (suc zero)))))) l = of_class 6
  shared (suc (suc (suc (suc (suc (suc (suc zero))))))) l = rw (besides 7 refl refl refl refl refl refl) (third (one (collision && heard)))
  shared (suc (suc (suc (suc (suc (suc (suc (suc zero)))))))) l =
      rw (besides 8 refl refl refl refl refl refl) (fourth _ ∙ ap one (swapped (ltb late_above burst.c) (collision && heard)))
  shared (suc (suc (suc (suc (suc (suc (suc (suc (suc zero))))))))) l =
      rw (besides 9 refl refl refl refl refl refl) (fifth _ ∙ ap one (swapped (ltb jabber_above burst.d) heard))
  shared (suc (suc (suc (suc (suc (suc (suc (suc (suc (suc zero)))))))))) l =
      rw (besides 10 refl refl refl refl refl refl) (sixth _ ∙ ap one (rotated burst.rate_error (ltb mismatch_above burst.d) single))
  shared (suc (suc (suc (suc (suc (suc (suc (suc (suc (suc (suc zero))))))))))) l = rw (besides 11 refl refl refl refl refl refl) (seventh (one cut))
  shared (suc (suc (suc (suc (suc (suc (suc (suc (suc (suc (suc (suc zero)))))))))))) l = rw (besides 12 refl refl refl refl refl refl) (eighth (one changed))
  shared (suc (suc (suc (suc (suc (suc (suc (suc (suc (suc (suc (suc (suc q))))))))))))) l = absurd (omega arith)

module _ (due : Due) (burst : Burst) (own framed crowd late long mistimed changed : ℕ) (m : Masks due burst own framed crowd late long mistimed changed)
    (i : ℕ) (k : i < port_count) where
  abbrev touched : Bool
  touched = has due.heard i || has due.cut i

  own_at : has own i ≡ (is_at due.single i && touched)
  own_at =
      rw m.own_is (has_and (set_of (is_at due.single)) (bit_or due.heard due.cut) i
      ∙ rw (has_gather 16 (is_at due.single) i (omega arith), has_or due.heard due.cut i))

  changed_at_lem : has changed i ≡ (has due.changed i && touched)
  changed_at_lem = rw m.changed_is (has_and due.changed (bit_or due.heard due.cut) i ∙ rw (has_or due.heard due.cut i))

  framed_at : has framed i ≡ (eqb due.class readable_frames && has own i)
  framed_at = rw m.framed_is (has_those (eqb due.class readable_frames) own i)

  crowd_at : has crowd i ≡ (due.collision && has due.heard i)
  crowd_at = rw m.crowd_is (has_those due.collision due.heard i)

  late_at : has late i ≡ (ltb late_above burst.c && has crowd i)
  late_at = rw m.late_is (has_those (ltb late_above burst.c) crowd i)

  long_at : has long i ≡ (ltb jabber_above burst.d && has due.heard i)
  long_at = rw m.long_is (has_those (ltb jabber_above burst.d) due.heard i)

  mistimed_at_lem : has mistimed i ≡ ((burst.rate_error && ltb mismatch_above burst.d) && has own i)
  mistimed_at_lem = rw m.mistimed_is (has_those (burst.rate_error && ltb mismatch_above burst.d) own i)

  pub tallied : Among due.class classes → (r : ℕ) → r < counter_count
      → eight (has own i) (has framed i) (has crowd i) (has late i) (has long i) (has mistimed i) (has due.cut i) (has changed i) due.class burst.n r
      ≡ counted_for due burst r i
  unfolding counted_for credit_of share_of
  tallied is r l =
      rw (framed_at, late_at, crowd_at, long_at, mistimed_at_lem, own_at, changed_at_lem) (go (has due.heard i) (has due.cut i) refl refl)
    where
      s : Bool
      s = is_at due.single i

      whole : touched ≡ true → eight (s && touched) (eqb due.class readable_frames && (s && touched)) (due.collision && has due.heard i)
          (ltb late_above burst.c && (due.collision && has due.heard i)) (ltb jabber_above burst.d && has due.heard i)
          ((burst.rate_error && ltb mismatch_above burst.d) && (s && touched)) (has due.cut i) (has due.changed i && touched) due.class burst.n r
          ≡ credit_for (share_of due i) burst r
      whole e =
          rw (e, and-true s, and-true (has due.changed i))
          (shared burst due.class is (has due.heard i) (has due.cut i) s (has due.changed i) due.collision r l)

      go : (h c : Bool) → has due.heard i ≡ h → has due.cut i ≡ c → eight (s && touched) (eqb due.class readable_frames && (s && touched)) (due.collision && has due.heard i)
          (ltb late_above burst.c && (due.collision && has due.heard i)) (ltb jabber_above burst.d && has due.heard i)
          ((burst.rate_error && ltb mismatch_above burst.d) && (s && touched)) (has due.cut i) (has due.changed i && touched) due.class burst.n r
          ≡ cond (h || c) (credit_for (share_of due i) burst r) 0
      go true c e f = whole (rw e)
      go false true e f = whole (rw (e, f))
      go false false e f = rw (e, f) (simp and-false refl)

-- THE CREDITS OF A BURST

-- its place, or one past the last port
abbrev pub place_in : Option ℕ → ℕ
place_in (Some p) = p
place_in None = port_count

pub framed_given : (due : Due) (p : ℕ) (t : Bool) → due.single ≡ Some p → (eqb due.class readable_frames && (has due.heard p || has due.cut p)) ≡ t
    → cond t (Some p) None ≡ framed_port due
unfolding framed_port
framed_given due p t e f = rw (e, f)

framed_port_at : (due : Due) (k : ℕ) → k < port_count
    → eqb k (place_in (framed_port due)) ≡ ((has due.heard k || has due.cut k) && (is_at due.single k && eqb due.class readable_frames))
unfolding framed_port
framed_port_at due k l = at due.single
  where
    part : ℕ → Bool
    part j = has due.heard j || has due.cut j

    nowhere : eqb k port_count ≡ false
    nowhere = ne_eqb k port_count (λ e. omega arith)

    there : (t : Bool) → eqb k (place_in (cond t (Some k) None)) ≡ t
    there true = eq-eqb k k refl
    there false = nowhere

    away : (t : Bool) (p : ℕ) → (k ≡ p → ⊥) → eqb k (place_in (cond t (Some p) None)) ≡ false
    away true p n = ne_eqb k p n
    away false p n = nowhere

    go : (p : ℕ) (t u : Bool) → eqb k p ≡ t → eqb k (place_in (cond (u && part p) (Some p) None)) ≡ (part k && (t && u))
    go p true true e = rw (← (eqb-true k p e), and-true (part k)) (there (part k))
    go p true false e = rw (and-false (part k)) nowhere
    go p false u e = rw (and-false (part k)) (away (u && part p) p (eqb-false k p e))

    at : (o : Option ℕ) → eqb k (place_in (framed_of due o)) ≡ (part k && (is_at o k && eqb due.class readable_frames))
    at (Some p) = go p (eqb k p) (eqb due.class readable_frames) refl
    at None = rw (and-false (part k)) nowhere

module _ (due : Due) (burst : Burst) (source : List ℕ) (flat later : Flat) (c : Counters flat.counters) (counting : Counting (counted_for due burst) flat later) where
  abbrev kept : ℕ → List ℕ
  kept k = listed 6 (λ j. get_or flat.addresses (spot k j) 0)

  -- at one port
  port_credited : (k : ℕ) → k < port_count
      → record { counters = listed counter_count (λ r. get_or later.counters (place r k) 0); address = cond (eqb k (place_in (framed_port due))) source (kept k) }
      ≡ credited_at due burst source k (record_at flat.counters flat.addresses k)
  unfolding credited_at record_at credited_with counted counted_for credit_of share_of
  port_credited k l = rw (framed_port_at due k l) (go (has due.heard k || has due.cut k) refl)
    where
      framed : Bool
      framed = is_at due.single k && eqb due.class readable_frames

      counters_of_lem : (t : Bool) → (has due.heard k || has due.cut k) ≡ t → (r : ℕ) → r < counter_count
          → get_or later.counters (place r k) 0 ≡ (get_or flat.counters (place r k) 0 + cond t (credit_of due burst k r) 0) % 2 ^ 32
      counters_of_lem t e r h = counting.is c r k h l ∙ ap (λ (x : ℕ). (get_or flat.counters (place r k) 0 + x) % 2 ^ 32) (told t e r)
        where
          told : (t : Bool) → (has due.heard k || has due.cut k) ≡ t → (r : ℕ) → counted_for due burst r k ≡ cond t (credit_of due burst k r) 0
          told t e r = rw e

      go : (t : Bool) → (has due.heard k || has due.cut k) ≡ t
          → record { counters = listed counter_count (λ r. get_or later.counters (place r k) 0); address = cond (t && framed) source (kept k) }
          ≡ cond t (credited_with (share_of due k) burst source (record { counters = listed counter_count (λ r. get_or flat.counters (place r k) 0); address = kept k }))
          (record { counters = listed counter_count (λ r. get_or flat.counters (place r k) 0); address = kept k })
      go true e =
          ap (λ (x : List ℕ). record { counters = x; address = cond framed source (kept k) })
          (listed_same counter_count (λ r. get_or later.counters (place r k) 0) (λ r. (get_or flat.counters (place r k) 0 + get_or (credits_of (share_of due k) burst) r 0) % 2 ^ 32)
          (λ r h. counters_of_lem true e r h ∙ ap (λ (x : ℕ). (get_or flat.counters (place r k) 0 + x) % 2 ^ 32) (sym (credits_at (share_of due k) burst r h)))
          ∙ sym (each_listed counter_count (λ r. get_or flat.counters (place r k) 0) (λ r n. (n + get_or (credits_of (share_of due k) burst) r 0) % 2 ^ 32)))
      go false e =
          ap (λ (x : List ℕ). record { counters = x; address = kept k })
          (listed_same counter_count (λ r. get_or later.counters (place r k) 0) (λ r. get_or flat.counters (place r k) 0)
          (λ r h. let low = c.low (place r k) in counters_of_lem false e r h ∙ omega arith))

  pub credited : (nine : Nine) → nine ≡ readdressed (place_in (framed_port due)) source (nine_of later.counters flat.addresses)
      → nine ≡ credited_all due burst source (nine_in flat)
  unfolding nine_of readdressed with_port credited_all record_at
  credited nine e =
      e
      ∙ ap (λ (ports : List Attributes). record { ports = ports })
      (set_listed port_count (record_at later.counters flat.addresses) fp (with_address (port_of (nine_of later.counters flat.addresses) fp) source)
      ∙ listed_same port_count (λ k. cond (eqb k fp) (with_address (port_of (nine_of later.counters flat.addresses) fp) source) (record_at later.counters flat.addresses k))
      (λ k. credited_at due burst source k (record_at flat.counters flat.addresses k)) (λ k h. go k h (eqb k fp) refl ∙ port_credited k h)
      ∙ sym (each_listed port_count (record_at flat.counters flat.addresses) (credited_at due burst source)))
    where
      fp : ℕ
      fp = place_in (framed_port due)

      go : (k : ℕ) → k < port_count → (t : Bool) → eqb k fp ≡ t
          → cond (eqb k fp) (with_address (port_of (nine_of later.counters flat.addresses) fp) source) (record_at later.counters flat.addresses k)
          ≡ record { counters = listed counter_count (λ r. get_or later.counters (place r k) 0); address = cond (eqb k fp) source (kept k) }
      go k h true e =
          let q = eqb-true k fp e in
          rw (e, ← q) (ap (λ (p : Attributes). with_address p source) (port_held later.counters flat.addresses k h))
      go k h false e = rw e

grouped : (a b c d e f : Bool) → (a && (b && (c && (d && (e && (f && true)))))) ≡ (((((a && b) && c) && d) && e) && f)
grouped false b c d e f = refl
grouped true false c d e f = refl
grouped true true false d e f = refl
grouped true true true false e f = refl
grouped true true true true false f = refl
grouped true true true true true f = and-true f

-- two addresses compared as arrays, and byte by byte
pub address_compared : (s a : List ℕ) → length s ≡ 6 → length a ≡ 6 → pointwise eqb s a ≡ same_address s a
unfolding same_address listed each
address_compared s a e f =
    let same : ℕ → Bool = λ k. eqb (get_or s k 0) (get_or a k 0) in
    ap₂ (λ (x y : List ℕ). pointwise eqb x y) (sym (listed_all 6 s 0 e)) (sym (listed_all 6 a 0 f))
    ∙ grouped (same 0) (same 1) (same 2) (same 3) (same 4) (same 5)

due_class : (nine : Nine) (met : Met) (burst : Burst) (source : List ℕ) → Among (due_of nine met burst source).class classes
unfolding due_of
due_class nine met burst source = class_listed met.limit burst (class_of met.limit burst) (falls met.limit burst)

module _ (met : Met) (burst : Burst) (source : List ℕ) (flat : Flat) (due : Due) (is : due ≡ due_of (nine_in flat) met burst source) where
  pub class_due : Among due.class classes
  class_due = rw is (due_class (nine_in flat) met burst source)

  pub credit_made : (later last : Flat) (port : Option ℕ) → Counting (counted_for due burst) flat later → port ≡ framed_port due → Readdressed (place_in port) source later last
      → Credited met burst source flat due last
  credit_made later last port counting e r =
      let spots : length flat.addresses ≡ spots_size → length later.addresses ≡ spots_size = λ f. ap (λ (l : List ℕ). length l) counting.addresses ∙ f in
      record {
        due = is;
        fine = λ f. record { counters = rw r.counters (counting.fine f.counters); spots = r.fine ∙ spots f.spots };
        is = λ f. credited due burst source flat later f.counters counting (nine_in last) (rw (e, counting.addresses) at (r.is (spots f.spots)));
      }
