-- What the chip credits a burst with is what the past credits it with. The chip names one port and one class; the past asks each port and each class by itself.
-- Assumes nothing.
--   Measured limit b == what the class of an accepted burst goes by: the limit is low, and the octets fit the bit times
--   same_seen       == two addresses of six bytes
--   Cuts past p b source == the ports that the burst partitions at the point p are those that the past tells
--   cuts_seen       == so it is if both tell which ports are partitioned before it and after it
--   frame_seen      == the port that a readable frame goes to
--   credit_seen     == the credit of each counter
--   collision_seen  == the credit of Transmit Collisions
--   due_seen_lem        == the address that changes, and the octets
use Prim.Native.Nat.{ℕ, zero, suc, ◌+◌, ◌*◌, ◌≤◌, ◌<◌}
use mathlib.Core.Path.{◌≡◌, refl, sym, ap, ap₂, ◌∙◌}
use mathlib.Core.Bool.{Bool, true, false, cond, not, ◌&&◌, and-true, and-false, and_comm, true≢false}
use mathlib.Core.List.{List, [], ◌∷◌}
use native.Mathlib.Omega.{arith}
use borrow.Author.Tests.{eq-eqb, ne_eqb, eqb-true, lt-ltb, le-ltb, lt-leb, le-leb, ltb-true}
use lib.Dec.{eqb, ltb}
use lib.Count.{ones, count_trailing_zeros}
use lib.ListN.{length}
use Rattle.std.specs.Prelude.{Option, Some, None}
use Rattle.ports.specs.Sets.{is_at, has, without, Only}
use Rattle.ports.proofs.Sets.{and_first, and_second, has_without, set_true, gather_lt, count_one, at_some}
use Rattle.record.specs.declared.Burst.{Burst}
use Rattle.repeater.specs.Repeater.{partitioned_of}
use Rattle.repeater.proofs.Kept.{partitioned_lt}
use Rattle.attributes.specs.declared.Share.{Share}
use Rattle.attributes.specs.declared.Due.{Due}
use Rattle.attributes.specs.OneClass.{Falls}
use Rattle.attributes.specs.OneClass as fall
use Rattle.attributes.specs.Credits.{short_to, class_of, class_port, framed, same_address, due_of, share_of, credit_for, frame_at}
use Rattle.attributes.specs.Credits as Att
use Rattle.attributes.specs.Nine.{readable_frames}
use Rattle.attributes.proofs.OneClass.{falls}
use Rattle.attributes.proofs.NineLaws.{changed_exactly}
use Rattle.himib.specs.Bursts.{met_by, noted_on}
use Rattle.himib.specs.Runs.{Point, repeater_at, address_at, limit_at}
use Rattle.past.specs.Deeds.{Deed, bursts}
use Rattle.past.specs.Settings.{enabled_by}
use Rattle.past.specs.Link.{passes_by}
use Rattle.past.specs.Bursts.{one, crash, in_e}
use Rattle.past.specs.Partition.{sent_to, struck_in, listened_to, heard_at, all_events, partitioned_by, heard_by}
use Rattle.past.specs.Credits.{short, runt, too_long, misaligned, faulty, readable, alone, if, credit_of, partition_credit, frames_at, collision_by, octets_by}
use Rattle.past.specs.Addresses.{address_by, same, newcomer, credit_by}
use Rattle.past.specs.Reads.{Start}
use Rattle.alone.specs.Seen.{burst_seen, BurstSeen, due_seen, DueSeen, Parted}

-- CLASSES

-- the class, by each of the six tests
abbrev Classed : ℕ → Burst → ℕ → Type 0
Classed limit b class =
    (eqb class 0 ≡ readable b)
    × (eqb class 2 ≡ faulty b)
    × (eqb class 3 ≡ misaligned b)
    × (eqb class 4 ≡ too_long b)
    × (eqb class 5 ≡ short limit b)
    × (eqb class 6 ≡ runt limit b)

-- what the class of an accepted burst goes by: with such a limit a burst with 64 octets or more is no short event
pub record Measured (limit : ℕ) (b : Burst) : Type 0 where
  pub low : limit ≤ short_to
  pub octets : 8 * b.n + b.k ≤ b.d

classed : (limit : ℕ) (b : Burst) (class : ℕ) → Measured limit b → Falls limit b class → Classed limit b class
classed limit b class measured (fall.short d) =
    let low = measured.low in
    let octets = measured.octets in
    let m : b.n < 64 = omega arith in
    let l : b.n ≤ 1518 = omega arith in
    rw (lt-ltb b.d limit d, lt-leb limit b.d d, lt-leb 64 b.n m, le-ltb 1518 b.n l) (refl, refl, refl, refl, refl, refl)
classed limit b class measured (fall.runt d n) =
    let m : b.n ≤ 1518 = omega arith in
    rw (le-ltb b.d limit d, le-leb limit b.d d, lt-ltb b.n 64 n, lt-leb 64 b.n n, le-ltb 1518 b.n m) (refl, refl, refl, refl, refl, refl)
classed limit b class measured (fall.too_long d n) =
    let m : 64 ≤ b.n = omega arith in
    rw (le-ltb b.d limit d, le-leb limit b.d d, le-ltb b.n 64 m, le-leb 64 b.n m, lt-ltb 1518 b.n n, lt-leb b.n 1518 n)
    (refl, refl, refl, refl, refl, refl)
classed limit b class measured (fall.misaligned d m l f k) =
    rw (
      le-ltb b.d limit d,
      le-leb limit b.d d,
      le-ltb b.n 64 m,
      le-leb 64 b.n m,
      le-ltb 1518 b.n l,
      le-leb b.n 1518 l,
      f,
      lt-ltb 0 b.k k,
    )
    (rw (ne_eqb b.k 0 (λ z. omega arith)) (refl, refl, refl, refl, refl, refl))
classed limit b class measured (fall.faulty d m l f k) =
    rw (le-ltb b.d limit d, le-leb limit b.d d, le-ltb b.n 64 m, le-leb 64 b.n m, le-ltb 1518 b.n l, le-leb b.n 1518 l, f, k)
    (refl, refl, refl, refl, refl, refl)
classed limit b class measured (fall.good d m l f) =
    rw (le-ltb b.d limit d, le-leb limit b.d d, le-ltb b.n 64 m, le-leb 64 b.n m, le-ltb 1518 b.n l, le-leb b.n 1518 l, f)
    (refl, refl, refl, refl, refl, refl)

class_seen : (limit : ℕ) (b : Burst) → Measured limit b → Classed limit b (class_of limit b)
class_seen limit b measured = classed limit b (class_of limit b) measured (falls limit b)

-- ADDRESSES

data Six : List ℕ → Type 0 where
  six : (a b c d e f : ℕ) → Six (a ∷ b ∷ c ∷ d ∷ e ∷ f ∷ [])

six_of : (l : List ℕ) → length l ≡ 6 → Six l
six_of [] z = absurd (omega arith)
six_of (a ∷ []) z = absurd (omega arith)
six_of (a ∷ b ∷ []) z = absurd (omega arith)
six_of (a ∷ b ∷ c ∷ []) z = absurd (omega arith)
six_of (a ∷ b ∷ c ∷ d ∷ []) z = absurd (omega arith)
six_of (a ∷ b ∷ c ∷ d ∷ e ∷ []) z = absurd (omega arith)
six_of (a ∷ b ∷ c ∷ d ∷ e ∷ f ∷ []) z = six a b c d e f
six_of (a ∷ b ∷ c ∷ d ∷ e ∷ f ∷ g ∷ l) z = absurd (omega arith)

all_six : (a b c d e f : Bool) → (a && b && c && d && e && f) ≡ (a && (b && (c && (d && (e && (f && true))))))
all_six false b c d e f = refl
all_six true false c d e f = refl
all_six true true false d e f = refl
all_six true true true false e f = refl
all_six true true true true false f = refl
all_six true true true true true f = sym (and-true f)

pub same_seen : (s a : List ℕ) → length s ≡ 6 → length a ≡ 6 → same_address s a ≡ same s a
unfolding same_address same
same_seen s a l m = go s a (six_of s l) (six_of a m)
  where
    go : (s a : List ℕ) → Six s → Six a → same_address s a ≡ same s a
    go s a (six s0 s1 s2 s3 s4 s5) (six a0 a1 a2 a3 a4 a5) = all_six (eqb s0 a0) (eqb s1 a1) (eqb s2 a2) (eqb s3 a3) (eqb s4 a4) (eqb s5 a5)

-- THE CREDITS, BY A PORT'S SHARE

-- what holds of each number below thirteen
below_13 : (P : ℕ → Type 0)
    → P 0 → P 1 → P 2 → P 3 → P 4 → P 5 → P 6 → P 7 → P 8 → P 9 → P 10 → P 11 → P 12 → (r : ℕ) → r < 13 → P r
below_13 P a b c d e f g h i j k l m zero z = a
below_13 P a b c d e f g h i j k l m (suc zero) z = b
below_13 P a b c d e f g h i j k l m (suc (suc zero)) z = c
below_13 P a b c d e f g h i j k l m (suc (suc (suc zero))) z = d
below_13 P a b c d e f g h i j k l m (suc (suc (suc (suc zero)))) z = e
below_13 P a b c d e f g h i j k l m (suc (suc (suc (suc (suc zero))))) z = f
below_13 P a b c d e f g h i j k l m (suc (suc (suc (suc (suc (suc zero)))))) z = g
below_13 P a b c d e f g h i j k l m (suc (suc (suc (suc (suc (suc (suc zero))))))) z = h
below_13 P a b c d e f g h i j k l m (suc (suc (suc (suc (suc (suc (suc (suc zero)))))))) z = i
below_13 P a b c d e f g h i j k l m (suc (suc (suc (suc (suc (suc (suc (suc (suc zero))))))))) z = j
below_13 P a b c d e f g h i j k l m (suc (suc (suc (suc (suc (suc (suc (suc (suc (suc zero)))))))))) z = k
below_13 P a b c d e f g h i j k l m (suc (suc (suc (suc (suc (suc (suc (suc (suc (suc (suc zero))))))))))) z = l
below_13 P a b c d e f g h i j k l m (suc (suc (suc (suc (suc (suc (suc (suc (suc (suc (suc (suc zero)))))))))))) z = m
below_13 P a b c d e f g h i j k l m (suc (suc (suc (suc (suc (suc (suc (suc (suc (suc (suc (suc (suc r))))))))))))) z = absurd (omega arith)

-- a port that is heard so and is single so is credited so
module _ (share : Share) (limit : ℕ) (b : Burst) (h i : ℕ) (measured : Measured limit b) (single : share.single ≡ alone b h i) (heard : share.heard ≡ has h i)
    (collision : share.collision ≡ (has h i && crash b h)) (class : share.class ≡ class_of limit b) where
  -- in a class: with any test that the class is
  in_class_lem : (r : ℕ) (t : Bool) → eqb (class_of limit b) r ≡ t → Att.in_class share r ≡ (alone b h i && t)
  in_class_lem r t e = rw (class, e, single)

  abbrev Same : ℕ → Type 0
  Same r = credit_for share b r ≡ credit_of limit b h i r

  same_0 : Same 0
  unfolding credit_for credit_of
  same_0 = ap if (in_class_lem 0 (readable b) (class_seen limit b measured).0)

  same_1 : Same 1
  unfolding credit_for credit_of
  same_1 = ap (λ (t : Bool). cond t b.n 0) (in_class_lem 0 (readable b) (class_seen limit b measured).0)

  same_7 : Same 7
  unfolding credit_for credit_of
  same_7 = ap if collision

  same_2 : Same 2
  unfolding credit_for credit_of
  same_2 = ap if (in_class_lem 2 (faulty b) (class_seen limit b measured).1)

  same_3 : Same 3
  unfolding credit_for credit_of
  same_3 = ap if (in_class_lem 3 (misaligned b) (class_seen limit b measured).2)

  same_4 : Same 4
  unfolding credit_for credit_of
  same_4 = ap if (in_class_lem 4 (too_long b) (class_seen limit b measured).3)

  same_5 : Same 5
  unfolding credit_for credit_of
  same_5 = ap if (in_class_lem 5 (short limit b) (class_seen limit b measured).4)

  same_6 : Same 6
  unfolding credit_for credit_of
  same_6 = ap if (in_class_lem 6 (runt limit b) (class_seen limit b measured).5)

  same_8 : Same 8
  unfolding credit_for credit_of
  same_8 = ap (λ (t : Bool). if (t && ltb 512 b.c)) collision

  same_9 : Same 9
  unfolding credit_for credit_of
  same_9 = ap (λ (t : Bool). if (t && ltb 65536 b.d)) heard

  same_10 : Same 10
  unfolding credit_for credit_of
  same_10 = ap (λ (t : Bool). if (t && b.rate_error && ltb 552 b.d)) single

-- A BURST

-- no port past the ninth is heard
heard_below : (past : List Deed) (b : Burst) (i : ℕ) → has (heard_by past b) i ≡ true → i < 9
unfolding heard_by heard_at listened_to sent_to enabled_by
heard_below past b i e =
    let l = and_second (in_e b i) _ (set_true (λ j. in_e b j && has (listened_to (sent_to past) (all_events past)) j) i e) in
    let t = and_first (has (sent_to past) i) _ (set_true (λ j. has (sent_to past) j && not (struck_in (all_events past) j)) i l) in
    let n = and_first (enabled_by i past) _ (set_true (λ j. enabled_by j past && passes_by j past) i t) in
    ltb-true i 9 (and_first (ltb i 9) _ n)

-- the ports that it partitions are those that the past tells
abbrev pub Cuts : List Deed → Point → Burst → List ℕ → Type 0
Cuts past p b source =
    (i : ℕ) → i < 9
    → has (without (partitioned_of (burst_seen (repeater_at p) b).repeater) (partitioned_of (repeater_at p))) i
    ≡ (not (partitioned_by past i) && partitioned_by (bursts b source ∷ past) i)

pub cuts_seen : (past : List Deed) (p : Point) (b : Burst) (source : List ℕ) → Parted past (repeater_at p)
    → Parted (bursts b source ∷ past) (burst_seen (repeater_at p) b).repeater → Cuts past p b source
cuts_seen past p b source before after i l =
    let was = partitioned_of (repeater_at p) in
    let is = partitioned_of (burst_seen (repeater_at p) b).repeater in
    has_without is was i (partitioned_lt (repeater_at p)) (omega arith)
    ∙ and_comm (has is i) (not (has was i))
    ∙ ap₂ (λ (t u : Bool). not t && u) (before i l) (after i l)

module _ (past : List Deed) (p : Point) (b : Burst) (source : List ℕ) (seen : BurstSeen past (repeater_at p) b) (measured : Measured (limit_at p) b) where
  abbrev h : ℕ
  h = heard_by past b

  abbrev due : Due
  due = due_seen p b source

  -- the class goes to the port that is heard alone, and in a collision to none
  single_seen : (i : ℕ) → i < 9 → is_at due.single i ≡ alone b h i
  unfolding noted_on due_of class_port
  single_seen i l = go (burst_seen (repeater_at p) b).effect.collision refl
    where
      go : (t : Bool) → (burst_seen (repeater_at p) b).effect.collision ≡ t
          → is_at (cond t None (burst_seen (repeater_at p) b).effect.single) i ≡ alone b h i
      go true e =
          sym (and-false (one h && has h i))
          ∙ ap (λ (t : Bool). one h && has h i && not t) (sym e ∙ seen.collision)
      go false e =
          seen.single i (omega arith)
          ∙ sym (and-true (one h && has h i))
          ∙ ap (λ (t : Bool). one h && has h i && not t) (sym e ∙ seen.collision)

  pub frame_seen : (i : ℕ) → i < 9 → frame_at (due_seen p b source) i ≡ frames_at past (bursts b source) i
  unfolding noted_on due_of frame_at share_of frames_at
  frame_seen i l = ap₂ ◌&&◌ (single_seen i l) (class_seen (limit_at p) b measured).0

  pub collision_seen : if (burst_seen (repeater_at p) b).effect.transmit_collision ≡ collision_by past (bursts b source)
  unfolding collision_by
  collision_seen = ap if seen.transmit

  -- there is such a port exactly if one is heard, and its frame counts in whatever class a frame counts: of readable frames the second test is true
  single_there : (k : ℕ) → framed (burst_seen (repeater_at p) b).effect.single k ≡ (one h && eqb k readable_frames)
  unfolding heard_by heard_at
  single_there k = go (burst_seen (repeater_at p) b).effect.single seen.single (one h) refl
    where
      none : (q : ℕ) (t : Bool) → ltb q 9 ≡ t → ((i : ℕ) → i < 16 → is_at (Some q) i ≡ (one h && has h i)) → one h ≡ false → t ≡ false
      none q true k s e =
          let l = ltb-true q 9 k in
          absurd (true≢false (sym (eq-eqb q q refl) ∙ s q (omega arith) ∙ rw e))
      none q false k s e = refl

      go : (q : Option ℕ) → ((i : ℕ) → i < 16 → is_at q i ≡ (one h && has h i)) → (t : Bool) → one h ≡ t → framed q k ≡ (one h && eqb k readable_frames)
      go q s true e =
          let o : Only h (count_trailing_zeros 16 h) = count_one 16 h (gather_lt 16 _) (eqb-true (ones h) 1 e) in
          let l = heard_below past b (count_trailing_zeros 16 h) o.is in
          let there = at_some q (count_trailing_zeros 16 h) (s (count_trailing_zeros 16 h) (omega arith) ∙ rw (e, o.is)) in
          rw (there, e, lt-ltb (count_trailing_zeros 16 h) 9 l)
      go (Some q) s false e = rw (e, none q (ltb q 9) refl s e)
      go None s false e = rw e

  octets_seen : due.octets ≡ octets_by past (bursts b source)
  unfolding noted_on due_of class_port octets_by
  octets_seen =
      ap (λ (t : Bool). cond t b.n 0)
      (go (burst_seen (repeater_at p) b).effect.collision refl ∙ ap (λ (t : Bool). (one h && not (crash b h)) && t) (class_seen (limit_at p) b measured).0)
    where
      k : ℕ
      k = class_of (limit_at p) b

      away : (a u : Bool) → false ≡ ((a && false) && u)
      away true u = refl
      away false u = refl

      go : (t : Bool) → (burst_seen (repeater_at p) b).effect.collision ≡ t
          → framed (cond t None (burst_seen (repeater_at p) b).effect.single) k ≡ ((one h && not (crash b h)) && eqb k readable_frames)
      go true e = away (one h) (eqb k readable_frames) ∙ ap (λ (t : Bool). (one h && not t) && eqb k readable_frames) (sym e ∙ seen.collision)
      go false e =
          single_there k ∙ ap (λ (t : Bool). t && eqb k readable_frames) (sym (and-true (one h)))
          ∙ ap (λ (t : Bool). (one h && not t) && eqb k readable_frames) (sym e ∙ seen.collision)

  module _ (start : Start) (addresses : (i : ℕ) → i < 9 → address_at i p ≡ address_by start.addresses past i)
      (sixes : (i : ℕ) → i < 9 → length (address_at i p) ≡ 6) (from : length source ≡ 6) where
    changed_seen : (i : ℕ) → i < 9 → has due.changed i ≡ newcomer start.addresses past (bursts b source) i
    unfolding noted_on newcomer
    changed_seen i l =
        changed_exactly p.chip.attributes (met_by p.chip.core (burst_seen (repeater_at p) b)) b source i l
        ∙ ap₂ (λ (t u : Bool). t && not u) (frame_seen i l)
        (same_seen source (address_at i p) from (sixes i l) ∙ ap (same source) (addresses i l))

    pub due_seen_lem : DueSeen start past p b source
    due_seen_lem = record { changed = changed_seen; octets = octets_seen }

    pub credit_seen : Cuts past p b source → (i r : ℕ) → i < 9 → r < 13
        → Att.credit_of (due_seen p b source) b i r ≡ credit_by (limit_at p) start.addresses i r past (bursts b source)
    unfolding noted_on due_of Att.credit_of credit_for credit_by share_of partition_credit
    credit_seen cut i r l =
        below_13 (λ r. Att.credit_of (due_seen p b source) b i r ≡ credit_by (limit_at p) start.addresses i r past (bursts b source))
        (same_0 share (limit_at p) b h i measured single heard collision refl)
        (same_1 share (limit_at p) b h i measured single heard collision refl)
        (same_2 share (limit_at p) b h i measured single heard collision refl)
        (same_3 share (limit_at p) b h i measured single heard collision refl)
        (same_4 share (limit_at p) b h i measured single heard collision refl)
        (same_5 share (limit_at p) b h i measured single heard collision refl)
        (same_6 share (limit_at p) b h i measured single heard collision refl)
        (same_7 share (limit_at p) b h i measured single heard collision refl)
        (same_8 share (limit_at p) b h i measured single heard collision refl)
        (same_9 share (limit_at p) b h i measured single heard collision refl)
        (same_10 share (limit_at p) b h i measured single heard collision refl)
        (ap if (cut i l))
        (ap if (changed_seen i l))
        r
      where
        share : Share
        share = share_of due i

        single : share.single ≡ alone b h i
        single = single_seen i l

        heard : share.heard ≡ has h i
        heard = ap (λ (m : ℕ). has m i) seen.h

        collision : share.collision ≡ (has h i && crash b h)
        collision = ap₂ ◌&&◌ seen.collision heard ∙ and_comm (crash b h) (has h i)
