-- Laws of the whole repeater's definitions, as the code makes them. Assumes nothing.
use Prim.Native.Nat.{ℕ, ◌-◌, ◌%◌, ◌<◌}
use mathlib.Core.Path.{◌≡◌, refl, ap, ◌∙◌}
use mathlib.Core.Bool.{Bool, not, ◌&&◌, or_comm}
use native.Mathlib.Omega.{arith}
use borrow.Author.Tests.{lt-ltb}
use lib.Dec.{eqb, ltb}
use lib.Bits.{bit_and, bit_or, and_le_l}
use Rattle.ports.specs.Sets.{aui, has, gather, set_of, without}
use Rattle.ports.proofs.Sets.{gather_lt, has_gather, has_and, has_or, has_without, has_others, has_mod, is_gather, low_byte}
use Rattle.port.specs.declared.Port.{Port}
use Rattle.burst.specs.declared.Activity.{Activity}
use Rattle.burst.specs.declared.Heard.{Heard}
use Rattle.burst.specs.declared.Hearing.{Hearing}
use Rattle.burst.specs.Burst.{in_e, heard_of}
use Rattle.store.specs.declared.Ports.{Ports}
use Rattle.store.specs.Door.{port_in}
use Rattle.store.proofs.Masks.{has_first}
use Rattle.repeater.specs.declared.Repeater.{Repeater}
use Rattle.repeater.specs.Those.{Transmitting, Listening, Partitioned, Linked}
use Rattle.repeater.specs.Door.{port_at}
use Rattle.repeater.specs.Hearing.{transmits, listens, in_l, in_h, hearing_of}
use Rattle.repeater.specs.Answers.{connected_at, passing_at}
use Rattle.repeater.specs.Repeater.{among, those_of, partitioned_of, linked_of}
use Rattle.repeater.proofs.DoorLaws.{those_has}

-- the first half of a burst, from its masks
module _ (r : Repeater) (activity : Activity) (e t l : ℕ) (k : Heard) where
  heard_set : e ≡ set_of (in_e activity) → l ≡ those_of Listening r → bit_and e l ≡ set_of (in_h r activity)
  unfolding those_of among
  heard_set p q =
      let m : e < 65536 = rw p (gather_lt 16 (in_e activity)) in
      is_gather 16 (bit_and e l) (in_h r activity) (omega (arith, and_le_l e l))
      (λ i h. has_and e l i ∙ rw (p, q, has_gather 16 (in_e activity) i h, has_gather 16 (in_l r) i h))

  pub hearing_made : e ≡ set_of (in_e activity) → t ≡ those_of Transmitting r → l ≡ those_of Listening r → k ≡ heard_of (bit_and e l)
      → ◌≡◌ {A = Hearing} (record { e = e; t = t; h = bit_and e l; heard = k }) (hearing_of r activity)
  unfolding hearing_of those_of among
  hearing_made p q n s = rw (s, heard_set p n, p, q)

-- the answers of the Gets that report every TP port
passing : (r : Repeater) (i : ℕ) → i < aui → among Linked i (port_at r i) ≡ passing_at r i
unfolding among
passing r i h = rw (lt-ltb i aui h)

pub linked_byte : (r : Repeater) → linked_of r % 256 ≡ gather 8 (passing_at r)
linked_byte r = low_byte (linked_of r) (passing_at r) (λ i h. those_has Linked r i (omega arith) ∙ passing r i h)

severed : (r : Repeater) (i : ℕ) → among Partitioned i (port_at r i) ≡ (port_at r i).partitioned
unfolding among
severed r i = refl

pub connected_byte : (r : Repeater) → 255 - partitioned_of r % 256 ≡ gather 8 (connected_at r)
connected_byte r =
    let n = partitioned_of r % 256 in
    is_gather 8 (255 - n) (connected_at r) (omega arith)
    (λ i h. has_others 8 n i (omega arith) h
    ∙ ap (λ (b : Bool). not b) (has_mod 8 (partitioned_of r) i h ∙ those_has Partitioned r i (omega arith) ∙ severed r i))

-- the sets of ports, from the masks that are kept
module _ (s : Ports) where
  set_has : (q : Port → Bool) (m i : ℕ) → m ≡ set_of (λ j. q (port_in s j)) → i < 16 → has m i ≡ q (port_in s i)
  set_has q m i e l = rw e (has_gather 16 (λ j. q (port_in s j)) i l)

  set_low : (q : Port → Bool) (m : ℕ) → m ≡ set_of (λ j. q (port_in s j)) → m < 65536
  set_low q m e = rw e (gather_lt 16 (λ j. q (port_in s j)))

  pub transmitting_made : (e p one : ℕ) → e ≡ set_of (λ i. (port_in s i).enabled) → p ≡ set_of (λ i. (port_in s i).link_pass) → one ≡ set_of (λ i. eqb i aui)
      → bit_and e (bit_or p one) ≡ set_of (λ i. transmits i (port_in s i))
  unfolding transmits
  transmitting_made e p one u v o =
      is_gather 16 (bit_and e (bit_or p one)) (λ i. transmits i (port_in s i))
      (omega (arith, and_le_l e (bit_or p one), set_low (λ (q : Port). q.enabled) e u))
      (λ i l. has_and e (bit_or p one) i
      ∙ rw (set_has (λ (q : Port). q.enabled) e i u l, has_or p one i, set_has (λ (q : Port). q.link_pass) p i v l, o, has_gather 16 (λ j. eqb j aui) i l)
      (ap (λ (b : Bool). (port_in s i).enabled && b) (or_comm (port_in s i).link_pass (eqb i aui))))

  pub listening_made : (t c m : ℕ) → t ≡ set_of (λ i. transmits i (port_in s i)) → c ≡ set_of (λ i. (port_in s i).partitioned) → m ≡ without t c
      → m ≡ set_of (λ i. listens i (port_in s i))
  unfolding listens
  listening_made t c m u v e =
      is_gather 16 m (λ i. listens i (port_in s i))
      (rw (e, u) (omega (arith, and_le_l (set_of (λ i. transmits i (port_in s i))) (65535 - c), gather_lt 16 (λ i. transmits i (port_in s i)))))
      (λ i l. ap (λ (k : ℕ). has k i) e ∙ has_without t c i (set_low (λ (q : Port). q.partitioned) c v) l
      ∙ rw (u, has_gather 16 (λ j. transmits j (port_in s j)) i l, set_has (λ (q : Port). q.partitioned) c i v l))

  pub linked_made : (p : ℕ) → p ≡ set_of (λ i. (port_in s i).link_pass) → bit_and p 255 ≡ set_of (λ i. ltb i aui && (port_in s i).link_pass)
  linked_made p v =
      is_gather 16 (bit_and p 255) (λ i. ltb i aui && (port_in s i).link_pass)
      (omega (arith, and_le_l p 255, set_low (λ (q : Port). q.link_pass) p v))
      (λ i l. has_first 8 p i ∙ ap (λ (b : Bool). ltb i aui && b) (set_has (λ (q : Port). q.link_pass) p i v l))
