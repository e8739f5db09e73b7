-- Laws of the nine ports' counters and addresses, for the crates above: what a burst and an address write do to each of them, by place and register.
-- The list itself is looked into here alone. Assumes nothing.
--   proper_alike, proper_nothing, proper_credited, proper_readdressed, proper_with_port == what is kept stays such as there is
--   counter_credited, address_credited       == what a burst makes of a counter and of an address
--   counter_readdressed, address_readdressed == what an address write makes of them; readdressed_past == past the last port, nothing
--   credits_at                               == a credit by its register
--   due_consistent                           == what due_of gives is consistent if the single port is heard
--   frame_credit, octets_credit, change_credit == three of the credits; frame_once, octets_sized == their size
--   changed_exactly, changed_heard, change_seen, write_unseen == at which ports an address changes, and that it is seen at the counter and nowhere else
--   octets_summed                            == Total Octets gets what the nine ports get
use Rattle.std.proofs.Common.{◌≡◌, ℕ, ◌+◌, ◌*◌, ◌%◌, ◌^◌, ◌<◌, ◌≤◌, Bool, true, false, cond, not, ◌&&◌, ◌||◌, eqb, ltb, List, [], ◌∷◌, length, get_or, set, replicate, sym, refl, ap, ◌∙◌, true≢false, arith, length-set, get_or-set_other, get_or-set_same, ltb-false, ltb-true, lt-ltb, eq-eqb, ne_eqb, eqb-true}
use mathlib.Core.Bool.{and-false}
use borrow.Author.Tests.{eqb-false}
use lib.ListN.{get_or-replicate}
use lib.Seq.{set_out}
use Rattle.std.specs.Prelude.{Option, Some, None}
use Rattle.std.proofs.lemmas.Option.{none-some}
use Rattle.ports.specs.Sets.{port_count, is_at, has, gather, set_of}
use Rattle.ports.specs.Each.{each}
use Rattle.ports.proofs.Sets.{has_none, has_gather, set_true, set_false, not_at}
use Rattle.ports.proofs.Each.{each_at, each_length, set_keeps}
use Rattle.record.specs.declared.Burst.{Burst}
use Rattle.attributes.specs.declared.Attributes.{Attributes}
use Rattle.attributes.specs.declared.Nine.{Nine}
use Rattle.attributes.specs.declared.Met.{Met}
use Rattle.attributes.specs.declared.Due.{Due}
use Rattle.attributes.specs.declared.Share.{Share}
use Rattle.attributes.specs.Nine.{readable_frames, readable_octets, address_changes, counter_count, no_attributes, all_alike, all_counters, nothing_counted}
use Rattle.attributes.specs.Nine.{port_of}
use Rattle.attributes.specs.Nine.{counter_of, address_of, with_port, with_address, readdressed, Proper}
use Rattle.attributes.specs.Credits.{shortest, longest, class_of, same_address, class_port, framed, changed_by, due_of, share_of, one, in_class}
use Rattle.attributes.specs.Credits.{credit_for, credits_of, credit_of, frame_at, counted, credited_with, credited_at, credited_all, SingleHeard}
use Rattle.attributes.specs.Credits.{Consistent}
use Rattle.attributes.specs.OneClass.{here}
use Rattle.attributes.specs.Sums.{sum_over}
use Rattle.attributes.proofs.Computing.{crediting}
use Rattle.attributes.proofs.OneClass.{at_most_one, octets_fit}
use Rattle.attributes.proofs.Sums.{sum_none, sum_one}

-- AN INSTANCE: TP1 stands at the last of 2^32 readable frames, and a frame from 2:0:0:0:0:1 is heard at it alone

abbrev frame : Burst
frame = record {
  mask = 2;
  fcs_bad = false;
  rate_error = false;
  collision_signal = false;
  loopback_missing = false;
  sqe_test = false;
  d = 600;
  n = 64;
  k = 0;
  c = 0;
  x = 0;
}

abbrev sender : List ℕ
sender = 2 ∷ 0 ∷ 0 ∷ 0 ∷ 0 ∷ 1 ∷ []

abbrev before : Nine
before = with_port nothing_counted 1 (record { counters = 4294967295 ∷ replicate 12 0; address = replicate 6 0 })

abbrev alone : Met
alone = record { heard = 2; single = Some 1; collision = false; cut = 0; limit = 78 }

abbrev after : Nine
after = credited_all (due_of before alone frame sender) frame sender before

-- the frame count goes round, and the second frame from there changes no address
a_frame_counted : (counter_of after 1 readable_frames ≡ 0)
    × (counter_of after 1 readable_octets ≡ 64)
    × (counter_of after 1 address_changes ≡ 1)
    × (counter_of after 0 readable_frames ≡ 0)
    × (address_of after 1 ≡ sender)
    × (address_of after 0 ≡ replicate 6 0)
    × ((due_of before alone frame sender).changed ≡ 2)
    × ((due_of before alone frame sender).octets ≡ 64)
    × ((due_of after alone frame sender).changed ≡ 0)
    × (sum_over port_count (λ i. credit_of (due_of before alone frame sender) frame i readable_octets) ≡ 64)
unfolding crediting has gather each
a_frame_counted = (refl, refl, refl, refl, refl, refl, refl, refl, refl, refl)

an_address_written : (address_of (readdressed 1 sender before) 1 ≡ sender)
    × (address_of (readdressed 1 sender before) 2 ≡ replicate 6 0)
    × (counter_of (readdressed 1 sender before) 1 readable_frames ≡ 4294967295)
    × (counter_of (readdressed 1 sender before) 1 address_changes ≡ 0)
    × (readdressed 9 sender before ≡ before)
unfolding crediting
an_address_written = (refl, refl, refl, refl, refl)

no : {A : Type 0} {t : Bool} → t ≡ true → t ≡ false → A
no p q = absurd (true≢false (sym p ∙ q))

-- AN ADDRESS WRITE

module _ (p : ℕ) (source : List ℕ) (nine : Nine) where
  counters_readdressed : (i : ℕ) → (port_of (readdressed p source nine) i).counters ≡ (port_of nine i).counters
  unfolding port_of readdressed with_port
  counters_readdressed i =
      set_keeps (λ (port : Attributes). port.counters) nine.ports p i (with_address (get_or nine.ports p no_attributes) source) no_attributes refl

  pub counter_readdressed : (i r : ℕ) → counter_of (readdressed p source nine) i r ≡ counter_of nine i r
  unfolding counter_of
  counter_readdressed i r = ap (λ (counters : List ℕ). get_or counters r 0) (counters_readdressed i)

  pub proper_readdressed : Proper nine → Proper (readdressed p source nine)
  unfolding readdressed with_port
  proper_readdressed k = record {
    ports = length-set nine.ports p (with_address (port_of nine p) source) ∙ k.ports;
    thirteen = λ i l. ap length (counters_readdressed i) ∙ k.thirteen i l;
    low = λ i r l m. rw (counter_readdressed i r) (k.low i r l m);
  }

  pub address_readdressed : Proper nine → (i : ℕ) → i < port_count → address_of (readdressed p source nine) i ≡ cond (eqb p i) source (address_of nine i)
  unfolding address_of port_of readdressed with_port
  address_readdressed k i l = go (eqb p i) refl
    where
      new : Attributes
      new = with_address (get_or nine.ports p no_attributes) source

      go : (t : Bool) → eqb p i ≡ t → (get_or (set nine.ports p new) i no_attributes).address ≡ cond t source (get_or nine.ports i no_attributes).address
      go true e =
          let q = eqb-true p i e in
          rw (← q) (ap (λ (port : Attributes). port.address) (get_or-set_same nine.ports p new no_attributes (omega (arith, k.ports))))
      go false e = ap (λ (port : Attributes). port.address) (get_or-set_other nine.ports p i new no_attributes (λ q. eqb-false p i e (sym q)))

  pub address_readdressed_there : Proper nine → p < port_count → address_of (readdressed p source nine) p ≡ source
  address_readdressed_there k l = address_readdressed k p l ∙ rw (eq-eqb p p refl)

  pub address_readdressed_elsewhere : Proper nine → (i : ℕ) → i < port_count → (i ≡ p → ⊥) → address_of (readdressed p source nine) i ≡ address_of nine i
  address_readdressed_elsewhere k i l n = address_readdressed k i l ∙ rw (ne_eqb p i (λ q. n (sym q)))

  pub readdressed_past : Proper nine → port_count ≤ p → readdressed p source nine ≡ nine
  unfolding readdressed with_port
  readdressed_past k l =
      ap (λ (ports : List Attributes). record { ports = ports }) (set_out nine.ports p (with_address (port_of nine p) source) (omega (arith, k.ports)))

  -- it is no address change
  pub write_unseen : (i : ℕ) → not (eqb (counter_of nine i address_changes) (counter_of (readdressed p source nine) i address_changes)) ≡ false
  write_unseen i =
      rw (eq-eqb (counter_of nine i address_changes) (counter_of (readdressed p source nine) i address_changes) (sym (counter_readdressed i address_changes)))

-- A BURST

-- a credit by its register
pub credits_at : (share : Share) (b : Burst) (r : ℕ) → r < counter_count → get_or (credits_of share b) r 0 ≡ credit_for share b r
unfolding credits_of
credits_at share b r l = each_at {A = ℕ} (λ r none. credit_for share b r) (replicate counter_count 0) r 0 0 l

-- no part in the burst, no credit
same : (t : Bool) → ◌≡◌ {A = ℕ} (cond t 0 0) 0
same true = refl
same false = refl

no_credit : (share : Share) (b : Burst) (r : ℕ) → share.heard ≡ false → share.single ≡ false → share.collision ≡ false → share.cut ≡ false
    → share.changed ≡ false → credit_for share b r ≡ 0
unfolding credit_for
no_credit share b r h i j k l = simp (h, i, j, k, l, same)

module _ (due : Due) (b : Burst) (source : List ℕ) (i : ℕ) (port : Attributes) where
  -- with a part in the burst, or with none
  parted : (P : Attributes → Type 0) → P (credited_with (share_of due i) b source port) → (has due.heard i ≡ false → has due.cut i ≡ false → P port)
      → P (credited_at due b source i port)
  unfolding credited_at
  parted P given left = go (has due.heard i) (has due.cut i) refl refl
    where
      go : (h k : Bool) → has due.heard i ≡ h → has due.cut i ≡ k → P (cond (h || k) (credited_with (share_of due i) b source port) port)
      go true k p q = given
      go false true p q = given
      go false false p q = left p q

  counters_length : length (credited_at due b source i port).counters ≡ length port.counters
  unfolding credited_with counted
  counters_length =
      parted (λ (p : Attributes). length p.counters ≡ length port.counters)
      (each_length (λ k c. (c + get_or (credits_of (share_of due i) b) k 0) % 2 ^ 32) port.counters)
      (λ u c. refl)

  counter_at_lem : (r : ℕ) → r < length port.counters
      → get_or (credited_with (share_of due i) b source port).counters r 0 ≡ (get_or port.counters r 0 + get_or (credits_of (share_of due i) b) r 0) % 2 ^ 32
  unfolding credited_with counted
  counter_at_lem r l = each_at (λ k c. (c + get_or (credits_of (share_of due i) b) k 0) % 2 ^ 32) port.counters r 0 0 l

  counter_low : (r : ℕ) → r < length port.counters → get_or port.counters r 0 < 2 ^ 32 → get_or (credited_at due b source i port).counters r 0 < 2 ^ 32
  counter_low r l low = parted (λ (p : Attributes). get_or p.counters r 0 < 2 ^ 32) (rw (counter_at_lem r l) (omega arith)) (λ u c. low)

  -- a port that is not heard is neither the single one nor one whose address changes
  module _ (k : Consistent due) (inside : i < port_count) (u : has due.heard i ≡ false) where
    another : due.single ≡ Some i → ⊥
    another e = no {A = ⊥} (k.single_heard i e inside) u

    not_single : (share_of due i).single ≡ false
    unfolding share_of
    not_single = not_at due.single i another

    not_changed : has due.changed i ≡ false
    not_changed = go (has due.changed i) refl
      where
        go : (t : Bool) → has due.changed i ≡ t → has due.changed i ≡ false
        go true e = absurd (another (k.changed_single i e))
        go false e = e

    apart : has due.cut i ≡ false → (r : ℕ) → credit_for (share_of due i) b r ≡ 0
    unfolding share_of
    apart c r = no_credit (share_of due i) b r u not_single (rw u (and-false due.collision)) c not_changed

  counter_moved : Consistent due → i < port_count → (r : ℕ) → r < counter_count → length port.counters ≡ counter_count → get_or port.counters r 0 < 2 ^ 32
      → get_or (credited_at due b source i port).counters r 0 ≡ (get_or port.counters r 0 + credit_for (share_of due i) b r) % 2 ^ 32
  counter_moved k inside r l n low =
      parted (λ (p : Attributes). get_or p.counters r 0 ≡ (get_or port.counters r 0 + credit_for (share_of due i) b r) % 2 ^ 32)
      (counter_at_lem r (rw n l) ∙ ap (λ (c : ℕ). (get_or port.counters r 0 + c) % 2 ^ 32) (credits_at (share_of due i) b r l))
      (λ u c. rw (apart k inside u c r) (omega arith))

  address_moved : Consistent due → i < port_count
      → (credited_at due b source i port).address ≡ cond (in_class (share_of due i) readable_frames) source port.address
  unfolding credited_with
  address_moved k inside =
      parted (λ (p : Attributes). p.address ≡ cond (in_class (share_of due i) readable_frames) source port.address) refl
      (λ u c. rw (not_single k inside u))

module _ (due : Due) (b : Burst) (source : List ℕ) (nine : Nine) (proper : Proper nine) where
  port_credited : (i : ℕ) → i < port_count → port_of (credited_all due b source nine) i ≡ credited_at due b source i (port_of nine i)
  unfolding port_of credited_all
  port_credited i l = each_at (credited_at due b source) nine.ports i no_attributes no_attributes (rw proper.ports l)

  pub proper_credited : Proper (credited_all due b source nine)
  unfolding credited_all counter_of
  proper_credited = record {
    ports = each_length (credited_at due b source) nine.ports ∙ proper.ports;
    thirteen = λ i l.
        ap (λ (port : Attributes). length port.counters) (port_credited i l)
        ∙ counters_length due b source i (port_of nine i)
        ∙ proper.thirteen i l;
    low = λ i r l m.
        rw (port_credited i l) (counter_low due b source i (port_of nine i) r (rw (proper.thirteen i l) m) (proper.low i r l m));
  }

  module _ (consistent : Consistent due) where
    pub counter_credited : (i r : ℕ) → i < port_count → r < counter_count
        → counter_of (credited_all due b source nine) i r ≡ (counter_of nine i r + credit_of due b i r) % 2 ^ 32
    unfolding counter_of credit_of
    counter_credited i r l m =
        ap (λ (port : Attributes). get_or port.counters r 0) (port_credited i l)
        ∙ counter_moved due b source i (port_of nine i) consistent l r m (proper.thirteen i l) (proper.low i r l m)

    pub address_credited : (i : ℕ) → i < port_count → address_of (credited_all due b source nine) i ≡ cond (frame_at due i) source (address_of nine i)
    unfolding address_of frame_at
    address_credited i l =
        ap (λ (port : Attributes). port.address) (port_credited i l) ∙ address_moved due b source i (port_of nine i) consistent l

    -- an address change is seen at its counter
    pub change_seen : (i : ℕ) → i < port_count
        → has due.changed i ≡ not (eqb (counter_of nine i address_changes) (counter_of (credited_all due b source nine) i address_changes))
    unfolding credit_of credit_for share_of
    change_seen i l =
        rw (counter_credited i address_changes l (omega arith))
        (seen (counter_of nine i address_changes) (has due.changed i) (proper.low i address_changes l (omega arith)))
      where
        seen : (n : ℕ) (t : Bool) → n < 2 ^ 32 → t ≡ not (eqb n ((n + one t) % 2 ^ 32))
        seen n true h = rw (ne_eqb n ((n + 1) % 2 ^ 32) (λ e. omega arith))
        seen n false h = rw (eq-eqb n ((n + 0) % 2 ^ 32) (omega arith))

-- THE CREDITS

module _ (due : Due) (b : Burst) (i : ℕ) where
  pub frame_credit : credit_of due b i readable_frames ≡ one (frame_at due i)
  unfolding credit_of credit_for frame_at
  frame_credit = refl

  pub octets_credit : credit_of due b i readable_octets ≡ cond (frame_at due i) b.n 0
  unfolding credit_of credit_for frame_at
  octets_credit = refl

  pub change_credit : credit_of due b i address_changes ≡ one (has due.changed i)
  unfolding credit_of credit_for share_of
  change_credit = refl

  pub frame_once : credit_of due b i readable_frames ≤ 1
  unfolding credit_of
  frame_once = at_most_one (share_of due i) b readable_frames here

module _ (nine : Nine) (met : Met) (b : Burst) (source : List ℕ) where
  abbrev due : Due
  due = due_of nine met b source

  pub octets_sized : (i : ℕ)
      → (shortest * credit_of (due_of nine met b source) b i readable_frames ≤ credit_of (due_of nine met b source) b i readable_octets)
      × (credit_of (due_of nine met b source) b i readable_octets ≤ longest * credit_of (due_of nine met b source) b i readable_frames)
  unfolding credit_of share_of due_of
  octets_sized i = octets_fit met.limit (share_of due i) b refl

  -- the set of the port whose address changes, by place
  module _ (p k i : ℕ) where
    abbrev other : ℕ → Bool
    other j = not (same_address source (address_of nine j))

    within : (t w : Bool) → eqb i p ≡ t → i < port_count → has (cond w (set_of (λ j. eqb j p)) 0) i ≡ (t && w)
    within true true e l = has_gather 16 (λ j. eqb j p) i (omega arith) ∙ e
    within false true e l = set_false (λ j. eqb j p) i e
    within true false e l = has_none i
    within false false e l = has_none i

    changed_at_some : i < port_count → has (changed_by nine (framed (Some p) k) (Some p) source) i ≡ (eqb i p && eqb k readable_frames && other i)
    unfolding changed_by
    changed_at_some l = within (eqb i p) (framed (Some p) k && other p) refl l ∙ go (eqb i p) refl
      where
        go : (t : Bool) → eqb i p ≡ t → (t && (framed (Some p) k && other p)) ≡ (t && eqb k readable_frames && other i)
        go true e =
            let q = eqb-true i p e in
            rw (lt-ltb p port_count (omega arith), q)
        go false e = refl

    there_some : has (changed_by nine (framed (Some p) k) (Some p) source) i ≡ true → (i ≡ p) × (p < port_count)
    unfolding changed_by
    there_some = go (ltb p port_count) (eqb k readable_frames) (other p) refl
      where
        go : (u v w : Bool) → ltb p port_count ≡ u → has (cond (u && v && w) (set_of (λ j. eqb j p)) 0) i ≡ true → (i ≡ p) × (p < port_count)
        go true true true e h = (eqb-true i p (set_true (λ j. eqb j p) i h), ltb-true p port_count e)
        go true true false e h = no h (has_none i)
        go true false w e h = no h (has_none i)
        go false v w e h = no h (has_none i)

  -- the same where there may be no such port
  changed_at_lem : (o : Option ℕ) (k i : ℕ) → i < port_count
      → has (changed_by nine (framed o k) o source) i ≡ (is_at o i && eqb k readable_frames && not (same_address source (address_of nine i)))
  unfolding changed_by
  changed_at_lem (Some p) k i l = changed_at_some p k i l
  changed_at_lem None k i l = has_none i

  changed_there : (o : Option ℕ) (k i : ℕ) → has (changed_by nine (framed o k) o source) i ≡ true → (o ≡ Some i) × (i < port_count)
  unfolding changed_by
  changed_there (Some p) k i h = let t = there_some p k i h in (rw t.0, rw t.0 t.1)
  changed_there None k i h = no h (has_none i)

  -- an address changes exactly at the port that gets a readable frame from another address than its last
  pub changed_exactly : (i : ℕ) → i < port_count
      → has (due_of nine met b source).changed i ≡ (frame_at (due_of nine met b source) i && not (same_address source (address_of nine i)))
  unfolding due_of frame_at share_of
  changed_exactly i l = changed_at_lem (class_port met) (class_of met.limit b) i l

  class_heard : SingleHeard met → (p : ℕ) → class_port met ≡ Some p → p < port_count → has met.heard p ≡ true
  unfolding class_port
  class_heard h p = go met.collision
    where
      go : (t : Bool) → cond t None met.single ≡ Some p → p < port_count → has met.heard p ≡ true
      go true e l = absurd (none-some p e)
      go false e l = h p e l

  pub due_consistent : SingleHeard met → Consistent (due_of nine met b source)
  unfolding due_of
  due_consistent h = record {
    single_heard = class_heard h;
    changed_single = λ i c. (changed_there (class_port met) (class_of met.limit b) i c).0;
  }

  -- and at a heard port
  pub changed_heard : SingleHeard met → (i : ℕ) → has (due_of nine met b source).changed i ≡ true → has met.heard i ≡ true
  unfolding due_of
  changed_heard h i c =
      let t = changed_there (class_port met) (class_of met.limit b) i c in
      class_heard h i t.0 t.1

  -- the nine ports' octets are those of Total Octets
  summed : (o : Option ℕ) (k : ℕ) → sum_over port_count (λ i. cond (is_at o i && eqb k readable_frames) b.n 0) ≡ cond (framed o k) b.n 0
  summed None k = sum_none port_count (λ i. 0) (λ i l. refl)
  summed (Some p) k = go (ltb p port_count) refl
    where
      u : Bool
      u = eqb k readable_frames

      go : (t : Bool) → ltb p port_count ≡ t → sum_over port_count (λ i. cond (eqb i p && u) b.n 0) ≡ cond (t && u) b.n 0
      go true e =
          sum_one port_count p (λ i. cond (eqb i p && u) b.n 0) (ltb-true p port_count e) (λ i n. rw (ne_eqb i p n)) ∙ rw (eq-eqb p p refl)
      go false e =
          let past = ltb-false p port_count e in
          sum_none port_count (λ i. cond (eqb i p && u) b.n 0) (λ i l. rw (ne_eqb i p (λ q. omega arith)))

  pub octets_summed : sum_over port_count (λ i. credit_of (due_of nine met b source) b i readable_octets) ≡ (due_of nine met b source).octets
  unfolding due_of credit_of credit_for share_of
  octets_summed = summed (class_port met) (class_of met.limit b)

-- ALL PORTS ALIKE, AS AT THE START

module _ (port : Attributes) where
  port_alike : (i : ℕ) → i < port_count → port_of (all_alike port) i ≡ port
  unfolding port_of all_alike
  port_alike i l = get_or-replicate port_count i port no_attributes l

  pub counter_alike : (i r : ℕ) → i < port_count → counter_of (all_alike port) i r ≡ get_or port.counters r 0
  unfolding counter_of
  counter_alike i r l = ap (λ (a : Attributes). get_or a.counters r 0) (port_alike i l)

  pub address_alike : (i : ℕ) → i < port_count → address_of (all_alike port) i ≡ port.address
  unfolding address_of
  address_alike i l = ap (λ (a : Attributes). a.address) (port_alike i l)

  pub proper_alike : length port.counters ≡ counter_count → ((r : ℕ) → r < counter_count → get_or port.counters r 0 < 2 ^ 32) → Proper (all_alike port)
  unfolding all_alike
  proper_alike n low = record {
    ports = refl;
    thirteen = λ i l. ap (λ (a : Attributes). length a.counters) (port_alike i l) ∙ n;
    low = λ i r l m. rw (counter_alike i r l) (low r m);
  }

pub proper_nothing : Proper nothing_counted
proper_nothing = proper_alike no_attributes refl (λ r m. rw (get_or-replicate {A = ℕ} counter_count r 0 0 m) (omega arith))

-- every counter at one number
pub proper_all : (v : ℕ) → v < 2 ^ 32 → Proper (all_counters v)
proper_all v low =
    proper_alike (record { counters = replicate counter_count v; address = replicate 6 0 }) refl (λ r l. rw (get_or-replicate counter_count r v 0 l) low)

-- WITH A PORT PUT IN PLACE

module _ (nine : Nine) (p : ℕ) (port : Attributes) (proper : Proper nine) where
  port_with_port : (i : ℕ) → i < port_count → port_of (with_port nine p port) i ≡ cond (eqb p i) port (port_of nine i)
  unfolding port_of with_port
  port_with_port i l = go (eqb p i) refl
    where
      go : (t : Bool) → eqb p i ≡ t → get_or (set nine.ports p port) i no_attributes ≡ cond t port (get_or nine.ports i no_attributes)
      go true e = let q = eqb-true p i e in rw (← q) (get_or-set_same nine.ports p port no_attributes (omega (arith, proper.ports)))
      go false e = get_or-set_other nine.ports p i port no_attributes (λ q. eqb-false p i e (sym q))

  pub counter_with_port : (i r : ℕ) → i < port_count → counter_of (with_port nine p port) i r ≡ cond (eqb p i) (get_or port.counters r 0) (counter_of nine i r)
  unfolding counter_of
  counter_with_port i r l = ap (λ (a : Attributes). get_or a.counters r 0) (port_with_port i l) ∙ go (eqb p i)
    where
      go : (t : Bool) → get_or (cond t port (port_of nine i)).counters r 0 ≡ cond t (get_or port.counters r 0) (get_or (port_of nine i).counters r 0)
      go true = refl
      go false = refl

  pub address_with_port : (i : ℕ) → i < port_count → address_of (with_port nine p port) i ≡ cond (eqb p i) port.address (address_of nine i)
  unfolding address_of
  address_with_port i l = ap (λ (a : Attributes). a.address) (port_with_port i l) ∙ go (eqb p i)
    where
      go : (t : Bool) → (cond t port (port_of nine i)).address ≡ cond t port.address (port_of nine i).address
      go true = refl
      go false = refl

  pub proper_with_port : length port.counters ≡ counter_count
      → ((r : ℕ) → r < counter_count → get_or port.counters r 0 < 2 ^ 32) → Proper (with_port nine p port)
  unfolding with_port counter_of
  proper_with_port n low = record {
    ports = length-set nine.ports p port ∙ proper.ports;
    thirteen = λ i l. ap (λ (a : Attributes). length a.counters) (port_with_port i l) ∙ thirteen_there (eqb p i) i l;
    low = λ i r l m. rw (port_with_port i l) (low_there (eqb p i) i r l m);
  }
    where
      thirteen_there : (t : Bool) (i : ℕ) → i < port_count → length (cond t port (port_of nine i)).counters ≡ counter_count
      thirteen_there true i l = n
      thirteen_there false i l = proper.thirteen i l

      low_there : (t : Bool) (i r : ℕ) → i < port_count → r < counter_count → get_or (cond t port (port_of nine i)).counters r 0 < 2 ^ 32
      low_there true i r l m = low r m
      low_there false i r l m = proper.low i r l m
