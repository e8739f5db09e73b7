-- What is noted goes by the past: change bits by what a deed turns, clears and leaves, and the enables by what a write keeps. The ports' partitions and links
-- before and after the deed are taken from whoever proves them. Assumes nothing.
--   Masks past r        == they are those of the past
--   Noted first past cs == so are the change bits
--   Calm d              == the deed is no burst
--   moved_noted, quiet_noted == a deed that moves the repeater notes what turned; of no burst it notes partitions and links alone
--   still_noted, cleared_noted == one that leaves the repeater as it was notes nothing, and clears one register or none
--   kept_seen           == a write to the enables keeps what the past says
use Prim.Native.Nat.{ℕ, zero, suc, ◌<◌}
use mathlib.Core.Path.{◌≡◌, refl, sym, ap, ap₂, ◌∙◌}
use mathlib.Core.Bool.{Bool, true, false, ◌&&◌, ◌||◌, and-true, and-false, or_comm, or-false, true≢false}
use mathlib.Core.List.{List, ◌∷◌}
use native.Mathlib.Omega.{arith}
use borrow.Author.Tests.{eqb-true, eq-eqb, ne_eqb, lt-leb}
use lib.Dec.{eqb, leb, ltb}
use lib.ListN.{length, get_or, set, length-set}
use lib.Bits.{bit_and, bit_or, or_lt, and_le_r}
use Rattle.ports.specs.Sets.{aui, has}
use Rattle.ports.proofs.Sets.{has_none, has_and, has_power, same_set}
use Rattle.ports.proofs.Each.{each_at, set_every}
use Rattle.record.specs.declared.Burst.{Burst}
use Rattle.repeater.specs.declared.Repeater.{Repeater}
use Rattle.repeater.specs.Those as those
use Rattle.repeater.specs.Door.{port_at}
use Rattle.repeater.specs.Repeater.{among, partitioned_of, linked_of}
use Rattle.repeater.proofs.DoorLaws.{those_has}
use Rattle.host.specs.Map.{within, bit_registers}
use Rattle.changes.specs.Changes.{bit7, events_of, noted, kept_bits}
use Rattle.chip.specs.declared.Core.{Core}
use Rattle.chip.specs.Chip.{moved}
use Rattle.pass.proofs.ChangeBits.{has_xor, bit7_at, event_bit, Same, same_bit, nobody, no_bit, differs_self}
use Rattle.pass.proofs.ChangeBits.{partition_changes, link_changes, moved_bit, moved_length}
use Rattle.past.specs.Deeds.{Deed, if_burst}
use Rattle.past.specs.Since.{came_since}
use Rattle.past.specs.Settings.{tested_by}
use Rattle.past.specs.Link.{passes_by}
use Rattle.past.specs.Credits.{frames_at}
use Rattle.past.specs.Addresses.{newcomer}
use Rattle.past.specs.Status.{sqe, loopback}
use Rattle.past.specs.Changes.{differs, turns_partition, turns_link, changes, clears, change_by, kept}
use Rattle.alone.specs.Seen.{Linked, Parted}

-- CHANGE BITS

-- the partitioned ports and the links of the repeater are those of the past
pub record Masks (past : List Deed) (r : Repeater) : Type 0 where
  pub parted : Parted past r
  pub linked : Linked past r

pub record Noted (first : ℕ → List ℕ) (past : List Deed) (cs : List ℕ) : Type 0 where
  pub eight : length cs ≡ 8
  pub low : (r : ℕ) → r < 8 → get_or cs r 0 < 256
  pub bits : (r j : ℕ) → r < 8 → j < 8 → has (get_or cs r 0) j ≡ change_by first past r j

-- every byte of what is noted is a byte
bit7_low : (b : Bool) → bit7 b < 256
bit7_low true = omega arith
bit7_low false = omega arith

events_low : (part link : ℕ) (l s : Bool) (address r : ℕ) → get_or (events_of part link l s address) r 0 < 256
unfolding events_of
events_low part link l s address zero = omega arith
events_low part link l s address (suc zero) = bit7_low (has part aui)
events_low part link l s address (suc (suc zero)) = omega arith
events_low part link l s address (suc (suc (suc zero))) = bit7_low l
events_low part link l s address (suc (suc (suc (suc zero)))) = bit7_low s
events_low part link l s address (suc (suc (suc (suc (suc zero))))) = omega arith
events_low part link l s address (suc (suc (suc (suc (suc (suc zero)))))) = omega arith
events_low part link l s address (suc (suc (suc (suc (suc (suc (suc zero))))))) = bit7_low (has address aui)
events_low part link l s address (suc (suc (suc (suc (suc (suc (suc (suc r)))))))) = omega arith

moved_low : (c : Core) (q : Repeater) (l s : Bool) (address r : ℕ) → r < length c.changes → get_or c.changes r 0 < 256
    → get_or (moved c q l s address).changes r 0 < 256
unfolding moved noted
moved_low c q l s address r h k =
    let events : List ℕ = events_of (partition_changes c.repeater q) (link_changes c.repeater q) l s address in
    rw (each_at (λ r m. bit_or m (get_or events r 0)) c.changes r 0 0 h)
    (or_lt 8 (get_or c.changes r 0) (get_or events r 0) k (events_low _ _ l s address r))

-- ports whose partition, and whose link, turned
parted_turns : (past : List Deed) (d : Deed) (x y : Repeater) → Parted past x → Parted (d ∷ past) y
    → Same (has (partition_changes x y)) (λ i. turns_partition i past d)
parted_turns past d x y before after i h = has_xor (partitioned_of x) (partitioned_of y) i ∙ rw (before i h, after i h)

linked_at_lem : (past : List Deed) (x : Repeater) → Linked past x → (i : ℕ) → i < 9 → has (linked_of x) i ≡ (ltb i aui && passes_by i past)
unfolding among
linked_at_lem past x before i h = those_has those.Linked x i (omega arith) ∙ ap (λ (t : Bool). ltb i aui && t) (before i h)

-- AUI has no link test, and passes always
linked_turns : (past : List Deed) (d : Deed) (x y : Repeater) → Linked past x → Linked (d ∷ past) y → Same (has (link_changes x y)) (λ i. turns_link i past d)
unfolding passes_by tested_by
linked_turns past d x y before after i h =
    has_xor (linked_of x) (linked_of y) i ∙ rw (linked_at_lem past x before i h, linked_at_lem (d ∷ past) y after i h) (go (ltb i aui) refl)
  where
    go : (b : Bool) → ltb i aui ≡ b → differs (b && passes_by i past) (b && passes_by i (d ∷ past)) ≡ turns_link i past d
    go true e = refl
    go false e = rw e

-- no burst
abbrev pub Calm : Deed → Type 0
Calm d = (f : Burst → List ℕ → Bool) → if_burst false f d ≡ false

module _ (first : ℕ → List ℕ) (past : List Deed) (d : Deed) where
  change_next : (r j : ℕ) → clears r past d ≡ false → change_by first (d ∷ past) r j ≡ (change_by first past r j || changes first r j past d)
  unfolding change_by came_since
  change_next r j c = rw c (or_comm (changes first r j past d) (change_by first past r j))

  newcomer_none : Calm d → (i : ℕ) → newcomer first past d i ≡ false
  unfolding newcomer frames_at
  newcomer_none calm i = rw (calm _)

  loopback_none : Calm d → loopback past d ≡ false
  unfolding loopback
  loopback_none calm = calm _

  sqe_none : Calm d → sqe past d ≡ false
  unfolding sqe
  sqe_none calm = calm _

  -- x is the repeater before the deed, and y after it
  module _ (x y : Repeater) (before : Masks past x) (after : Masks (d ∷ past) y) where
    pub moved_noted : (c : Core) (l s : Bool) (address : ℕ) → c.repeater ≡ x → l ≡ loopback past d → s ≡ sqe past d
        → Same (has address) (newcomer first past d) → ((r : ℕ) → clears r past d ≡ false) → Noted first past c.changes
        → Noted first (d ∷ past) (moved c y l s address).changes
    unfolding changes event_bit
    moved_noted c l s address ex el es new kept n = record {
      eight = moved_length c y l s address ∙ n.eight;
      low = λ r h. moved_low c y l s address r (let e : length c.changes ≡ 8 = n.eight in omega arith) (n.low r h);
      bits = λ r j h k.
          moved_bit c y l s address r j n.eight h k
          ∙ ap₂ (λ (a b : Bool). a || b) (n.bits r j h k)
          (rw (ex, el, es)
          (same_bit r j _ (λ i. turns_partition i past d) _ (λ i. turns_link i past d) _ (newcomer first past d) (loopback past d) (sqe past d) k
          (parted_turns past d x y before.parted after.parted)
          (linked_turns past d x y before.linked after.linked)
          new))
          ∙ sym (change_next r j (kept r));
    }

    pub quiet_noted : (c : Core) → c.repeater ≡ x → Calm d → ((r : ℕ) → clears r past d ≡ false) → Noted first past c.changes
        → Noted first (d ∷ past) (moved c y false false 0).changes
    quiet_noted c ex calm kept n =
        moved_noted c false false 0 ex (sym (loopback_none calm)) (sym (sqe_none calm)) (λ i h. has_none i ∙ sym (newcomer_none calm i)) kept n

  -- where x is the repeater after it too
  module _ (x : Repeater) (before : Masks past x) (after : Masks (d ∷ past) x) (calm : Calm d) where
    no_change : (r j : ℕ) → j < 8 → changes first r j past d ≡ false
    unfolding changes event_bit
    no_change r j l =
        rw (loopback_none calm, sqe_none calm)
        (same_bit r j (λ i. turns_partition i past d) nobody (λ i. turns_link i past d) nobody (newcomer first past d) nobody false false l
        (λ i h. rw (← before.parted i h, ← after.parted i h) (differs_self (has (partitioned_of x) i)))
        (λ i h. rw (← before.linked i h, ← after.linked i h) (differs_self (port_at x i).link_pass))
        (λ i h. newcomer_none calm i))
        ∙ no_bit r j

    still_bit : (r j : ℕ) → clears r past d ≡ false → j < 8 → change_by first past r j ≡ change_by first (d ∷ past) r j
    still_bit r j c l =
        sym (change_next r j c ∙ ap (λ (b : Bool). change_by first past r j || b) (no_change r j l) ∙ or-false (change_by first past r j))

    pub still_noted : (cs : List ℕ) → ((r : ℕ) → clears r past d ≡ false) → Noted first past cs → Noted first (d ∷ past) cs
    still_noted cs kept n = record { eight = n.eight; low = n.low; bits = λ r j h l. n.bits r j h l ∙ still_bit r j (kept r) l }

    -- one register is cleared
    gone : (k j : ℕ) → clears k past d ≡ eqb k k → change_by first (d ∷ past) k j ≡ false
    unfolding change_by came_since
    gone k j c = rw (c, eq-eqb k k refl)

    pub cleared_noted : (cs : List ℕ) (k : ℕ) → ((r : ℕ) → clears r past d ≡ eqb k r) → Noted first past cs → Noted first (d ∷ past) (set cs k 0)
    cleared_noted cs k clearing n =
        let eight : length cs ≡ 8 = n.eight in
        record {
          eight = length-set cs k 0 ∙ eight;
          low = λ r h. set_every (λ i v. v < 256) cs k 0 0 (omega arith) (λ i l e. n.low i (omega arith)) r (omega arith);
          bits = λ r j h l.
              set_every (λ i v. has v j ≡ change_by first (d ∷ past) i j) cs k 0 0 (has_none j ∙ sym (gone k j (clearing k)))
              (λ i m e. n.bits i j (omega arith) l ∙ still_bit i j (clearing i ∙ ne_eqb k i (λ q. e (sym q))) l) r (omega arith);
        }

-- ENABLES

and_seven : (b : ℕ) → bit_and b 128 ≡ bit7 (has b 7)
and_seven b = same_set 8 (bit_and b 128) (bit7 (has b 7)) (omega (arith, and_le_r b 128)) (bit7_low (has b 7)) (λ i h. bits i)
  where
    alike : (i : ℕ) (t : Bool) → eqb i 7 ≡ t → (has b i && t) ≡ (t && has b 7)
    alike i true e = rw (eqb-true i 7 e) (and-true (has b 7))
    alike i false e = and-false (has b i)

    bits : (i : ℕ) → has (bit_and b 128) i ≡ has (bit7 (has b 7)) i
    bits i =
        has_and b 128 i ∙ ap (λ (t : Bool). has b i && t) (has_power 7 i) ∙ alike i (eqb i 7) refl ∙ sym (bit7_at (has b 7) i)

pub kept_seen : (k b : ℕ) → within bit_registers k ≡ true → kept_bits k b ≡ kept k b
unfolding kept_bits
kept_seen zero b h = refl
kept_seen (suc zero) b h = and_seven b
kept_seen (suc (suc zero)) b h = refl
kept_seen (suc (suc (suc zero))) b h = and_seven b
kept_seen (suc (suc (suc (suc zero)))) b h = and_seven b
kept_seen (suc (suc (suc (suc (suc zero))))) b h = absurd (true≢false (sym h))
kept_seen (suc (suc (suc (suc (suc (suc zero)))))) b h = refl
kept_seen (suc (suc (suc (suc (suc (suc (suc zero))))))) b h = and_seven b
kept_seen (suc (suc (suc (suc (suc (suc (suc (suc n)))))))) b h =
    absurd (true≢false (sym h ∙ far (suc (suc (suc (suc (suc (suc (suc (suc n)))))))) (omega arith)))
  where
    far : (k : ℕ) → 7 < k → within bit_registers k ≡ false
    far k l = rw (lt-leb k 4 (omega arith), lt-leb k 7 l, and-false (leb 0 k), and-false (leb 6 k))
