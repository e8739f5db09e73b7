-- The nine records that counters and addresses stand for, as they are kept. Assumes nothing.
--   port_held, counter_held, address_held == what is kept of a port, a counter and a byte, by its place
--   counter_any, address_any              == counters do not depend on addresses, nor addresses on counters
--   flat_back, spots_back, nine_back, nine_one == one to one
--   counter_stored, address_stored        == a store at a place is a store of that counter in that record, and leaves all others; likewise of an address
--   stored_at, spot_stored, fine_stored   == the same place by place, and that counters still fit
--   port_stored                           == the same of all that is kept of a port; .. -unstored == past the last port nothing is stored
--   readdress_beside, readdress_any       == an address written, in a Flat and beside any counters
--   stretch_ports, stretch_none           == a stretch is one register over the nine ports, and nothing past the last register
use Rattle.std.proofs.lemmas.List.{drop_min, take_min, length-take}
use Rattle.std.proofs.Common.{◌≡◌, ℕ, zero, suc, ◌+◌, ◌-◌, ◌*◌, ◌/◌, ◌%◌, ◌^◌, ◌<◌, ◌≤◌, Bool, true, false, cond, ◌&&◌, eqb, ltb, List, [], ◌∷◌, length, get_or, take, drop, set, replicate, min, sym, refl, ap, ◌∙◌, ap₂, arith, length-drop, length-set, get_or-set_other, get_or-set_same, ltb-false, ltb-true, le-ltb, lt-ltb, eq-eqb, ne_eqb, eqb-true}
use mathlib.Core.Bool.{and-true, and-false}
use borrow.Author.Tests.{eqb-false}
use lib.ListN.{get_or-eq_default}
use Rattle.ports.specs.Sets.{port_count}
use Rattle.attributes.specs.declared.Attributes.{Attributes}
use Rattle.attributes.specs.declared.Nine.{Nine}
use Rattle.attributes.specs.declared.Flat.{Flat}
use Rattle.attributes.specs.Nine.{counter_count, no_attributes, port_of, counter_of, address_of, with_port, with_address, readdressed, Proper}
use Rattle.attributes.specs.Flat.{place, flat_size, spot, spots_size, listed, record_at, nine_of, nine_in, flat_of, spots_of, stretch_of, Counters, Six, ReaddressedAlone, Readdressed, FlatBack, NineBack, StoreIsOne, StretchIsOne}
use Rattle.attributes.specs.Counts.{Written, Laid}
use Rattle.attributes.proofs.FlatSheet.{bursts_kept}
use Rattle.attributes.proofs.Listed.{listed_length, listed_at, listed_same, listed_all, listed_part, set_listed}

nothing_at : (n i : ℕ) → ◌≡◌ {A = ℕ} (get_or (replicate n 0) i 0) 0
nothing_at zero i = refl
nothing_at (suc n) zero = refl
nothing_at (suc n) (suc i) = nothing_at n i

-- WHAT STANDS WHERE

module _ (flat addresses : List ℕ) where
  pub nine_ports : length (nine_of flat addresses).ports ≡ port_count
  unfolding nine_of
  nine_ports = listed_length port_count (record_at flat addresses)

  pub port_held : (i : ℕ) → i < port_count → port_of (nine_of flat addresses) i ≡ record_at flat addresses i
  unfolding port_of nine_of
  port_held i h = listed_at port_count (record_at flat addresses) i no_attributes h

  pub counter_held : (i r : ℕ) → i < port_count → r < counter_count → counter_of (nine_of flat addresses) i r ≡ get_or flat (place r i) 0
  unfolding counter_of record_at
  counter_held i r h k =
      ap (λ (port : Attributes). get_or port.counters r 0) (port_held i h) ∙ listed_at counter_count (λ q. get_or flat (place q i) 0) r 0 k

  pub address_held : (i : ℕ) → i < port_count → address_of (nine_of flat addresses) i ≡ listed 6 (λ j. get_or addresses (spot i j) 0)
  unfolding address_of record_at
  address_held i h = ap (λ (port : Attributes). port.address) (port_held i h)

  pub byte_held : (i j : ℕ) → i < port_count → j < 6 → get_or (address_of (nine_of flat addresses) i) j 0 ≡ get_or addresses (spot i j) 0
  byte_held i j h k = ap (λ (l : List ℕ). get_or l j 0) (address_held i h) ∙ listed_at 6 (λ j. get_or addresses (spot i j) 0) j 0 k

  -- as the code reads its six bytes
  pub address_read : (i : ℕ) (source : List ℕ) → i < port_count → length source ≡ 6 → source ≡ take 6 (drop (6 * i) addresses)
      → source ≡ address_of (nine_of flat addresses) i
  address_read i source h e f =
      let all : length (take 6 (drop (6 * i) addresses)) ≡ 6 = ap (λ (l : List ℕ). length l) (sym f) ∙ e in
      f ∙ sym (address_held i h ∙ listed_part 6 (6 * i) addresses 0 (omega (arith, all, length-take 6 (drop (6 * i) addresses), length-drop (6 * i) addresses)))

  -- past the last port, and past the last register, there is nothing
  pub port_past : (i : ℕ) → port_count ≤ i → port_of (nine_of flat addresses) i ≡ no_attributes
  unfolding port_of
  port_past i h = get_or-eq_default (nine_of flat addresses).ports no_attributes (omega (arith, nine_ports))

  pub counter_past : (i r : ℕ) → port_count ≤ i → counter_of (nine_of flat addresses) i r ≡ 0
  unfolding counter_of
  counter_past i r h = ap (λ (port : Attributes). get_or port.counters r 0) (port_past i h) ∙ nothing_at counter_count r

  pub counter_beyond : (i r : ℕ) → counter_count ≤ r → counter_of (nine_of flat addresses) i r ≡ 0
  unfolding counter_of record_at
  counter_beyond i r h = go (ltb i port_count) refl
    where
      go : (t : Bool) → ltb i port_count ≡ t → get_or (port_of (nine_of flat addresses) i).counters r 0 ≡ 0
      go true e =
          ap (λ (port : Attributes). get_or port.counters r 0) (port_held i (ltb-true i port_count e))
          ∙ get_or-eq_default (listed counter_count (λ q. get_or flat (place q i) 0)) 0 (omega (arith, listed_length counter_count (λ q. get_or flat (place q i) 0)))
      go false e = counter_past i r (ltb-false i port_count e)

  pub address_past : (i : ℕ) → port_count ≤ i → address_of (nine_of flat addresses) i ≡ replicate 6 0
  unfolding address_of
  address_past i h = ap (λ (port : Attributes). port.address) (port_past i h)

-- counters do not depend on addresses, nor addresses on counters
pub counter_any : (flat a b : List ℕ) (i r : ℕ) → counter_of (nine_of flat a) i r ≡ counter_of (nine_of flat b) i r
counter_any flat a b i r = go (ltb i port_count) (ltb r counter_count) refl refl
  where
    go : (t u : Bool) → ltb i port_count ≡ t → ltb r counter_count ≡ u → counter_of (nine_of flat a) i r ≡ counter_of (nine_of flat b) i r
    go true true e f =
        let h = ltb-true i port_count e in
        let k = ltb-true r counter_count f in
        counter_held flat a i r h k ∙ sym (counter_held flat b i r h k)
    go true false e f = let k = ltb-false r counter_count f in counter_beyond flat a i r k ∙ sym (counter_beyond flat b i r k)
    go false u e f = let h = ltb-false i port_count e in counter_past flat a i r h ∙ sym (counter_past flat b i r h)

pub address_any : (a b addresses : List ℕ) (i : ℕ) → address_of (nine_of a addresses) i ≡ address_of (nine_of b addresses) i
address_any a b addresses i = go (ltb i port_count) refl
  where
    go : (t : Bool) → ltb i port_count ≡ t → address_of (nine_of a addresses) i ≡ address_of (nine_of b addresses) i
    go true e = let h = ltb-true i port_count e in address_held a addresses i h ∙ sym (address_held b addresses i h)
    go false e = let h = ltb-false i port_count e in address_past a addresses i h ∙ sym (address_past b addresses i h)

-- ONE TO ONE

pub flat_back : (flat addresses : List ℕ) → length flat ≡ flat_size → flat_of (nine_of flat addresses) ≡ flat
unfolding flat_of
flat_back flat addresses e =
    listed_same flat_size (λ k. counter_of (nine_of flat addresses) (k % port_count) (k / port_count)) (λ k. get_or flat k 0)
    (λ k h. counter_held flat addresses (k % port_count) (k / port_count) (omega arith) (omega arith) ∙ ap (λ (j : ℕ). get_or flat j 0) (omega arith))
    ∙ listed_all flat_size flat 0 e

pub spots_back : (flat addresses : List ℕ) → length addresses ≡ spots_size → spots_of (nine_of flat addresses) ≡ addresses
unfolding spots_of
spots_back flat addresses e =
    listed_same spots_size (λ k. get_or (address_of (nine_of flat addresses) (k / 6)) (k % 6) 0) (λ k. get_or addresses k 0)
    (λ k h. byte_held flat addresses (k / 6) (k % 6) (omega arith) (omega arith) ∙ ap (λ (j : ℕ). get_or addresses j 0) (omega arith))
    ∙ listed_all spots_size addresses 0 e

pub both_back : FlatBack
both_back flat addresses e f = (flat_back flat addresses e, spots_back flat addresses f)

-- two pairs of arrays that stand for the same records are the same
pub nine_one : (flat addresses later last : List ℕ) → length flat ≡ flat_size → length later ≡ flat_size → length addresses ≡ spots_size → length last ≡ spots_size
    → nine_of flat addresses ≡ nine_of later last → (flat ≡ later) × (addresses ≡ last)
nine_one flat addresses later last a b c d e = (
  sym (flat_back flat addresses a) ∙ ap flat_of e ∙ flat_back later last b,
  sym (spots_back flat addresses c) ∙ ap spots_of e ∙ spots_back later last d,
)

-- records are decided by their counters and bytes
pub nine_is : (nine : Nine) (flat addresses : List ℕ) → Proper nine → Six nine
    → ((i r : ℕ) → i < port_count → r < counter_count → get_or flat (place r i) 0 ≡ counter_of nine i r)
    → ((i j : ℕ) → i < port_count → j < 6 → get_or addresses (spot i j) 0 ≡ get_or (address_of nine i) j 0) → nine_of flat addresses ≡ nine
unfolding nine_of record_at counter_of address_of port_of
nine_is nine flat addresses proper six counters bytes =
    ap (λ (ports : List Attributes). record { ports = ports })
    (listed_same port_count (record_at flat addresses) (port_of nine) here ∙ all)
  where
    here : (i : ℕ) → i < port_count → record_at flat addresses i ≡ port_of nine i
    here i h =
        ap₂ (λ (x y : List ℕ). record { counters = x; address = y })
        (listed_same counter_count (λ r. get_or flat (place r i) 0) (λ r. get_or (port_of nine i).counters r 0) (λ r k. counters i r h k)
        ∙ listed_all counter_count (port_of nine i).counters 0 (proper.thirteen i h))
        (listed_same 6 (λ j. get_or addresses (spot i j) 0) (λ j. get_or (port_of nine i).address j 0) (λ j k. bytes i j h k)
        ∙ listed_all 6 (port_of nine i).address 0 (six.bytes i h))

    all : listed port_count (port_of nine) ≡ nine.ports
    all = listed_all port_count nine.ports no_attributes proper.ports

pub nine_back : NineBack
unfolding flat_of spots_of
nine_back nine proper six =
    nine_is nine (flat_of nine) (spots_of nine) proper six
    (λ i r h k.
    let q : place r i % port_count ≡ i = omega arith in
    let w : place r i / port_count ≡ r = omega arith in
    listed_at flat_size (λ k. counter_of nine (k % port_count) (k / port_count)) (place r i) 0 (omega arith) ∙ rw (q, w))
    (λ i j h k.
    let q : spot i j % 6 ≡ j = omega arith in
    let w : spot i j / 6 ≡ i = omega arith in
    listed_at spots_size (λ k. get_or (address_of nine (k / 6)) (k % 6) 0) (spot i j) 0 (omega arith) ∙ rw (q, w))

-- THE LAW OF A STORE

-- a store in a list of rows, all of one length: what was stored, and anything else
module _ (w : ℕ) (apart : (a b c d : ℕ) → b < w → d < w → w * c + d ≡ w * a + b → (c ≡ a) × (d ≡ b)) where
  stored_in : (xs : List ℕ) (a b v c d : ℕ) → w * a + b < length xs → b < w → d < w
      → get_or (set xs (w * a + b) v) (w * c + d) 0 ≡ cond (eqb c a && eqb d b) v (get_or xs (w * c + d) 0)
  stored_in xs a b v c d h l m = go (eqb c a) (eqb d b) refl refl
    where
      go : (t u : Bool) → eqb c a ≡ t → eqb d b ≡ u → get_or (set xs (w * a + b) v) (w * c + d) 0 ≡ cond (t && u) v (get_or xs (w * c + d) 0)
      go true true e f =
          let x = eqb-true c a e in
          let y = eqb-true d b f in
          rw (x, y) (get_or-set_same xs (w * a + b) v 0 h)
      go true false e f = get_or-set_other xs (w * a + b) (w * c + d) v 0 (λ z. eqb-false d b f (apart a b c d l m z).1)
      go false u e f = get_or-set_other xs (w * a + b) (w * c + d) v 0 (λ z. eqb-false c a e (apart a b c d l m z).0)

pub stored_at : (flat : List ℕ) (r i v q k : ℕ) → length flat ≡ flat_size → r < counter_count → i < port_count → k < port_count
    → get_or (set flat (place r i) v) (place q k) 0 ≡ cond (eqb q r && eqb k i) v (get_or flat (place q k) 0)
stored_at flat r i v q k e h l m = stored_in 9 (λ a b c d x y z. (omega arith, omega arith)) flat r i v q k (omega arith) l m

pub spot_stored : (addresses : List ℕ) (i j v k b : ℕ) → length addresses ≡ spots_size → i < port_count → j < 6 → b < 6
    → get_or (set addresses (spot i j) v) (spot k b) 0 ≡ cond (eqb k i && eqb b j) v (get_or addresses (spot k b) 0)
spot_stored addresses i j v k b e h l m = stored_in 6 (λ a b c d x y z. (omega arith, omega arith)) addresses i j v k b (omega arith) l m

-- arrays that differ at one port alone stand for records that do
pub nine_put : (flat addresses later last : List ℕ) (i : ℕ) (port : Attributes) → (i < port_count → record_at later last i ≡ port)
    → ((k : ℕ) → k < port_count → (k ≡ i → ⊥) → record_at later last k ≡ record_at flat addresses k) → nine_of later last ≡ with_port (nine_of flat addresses) i port
unfolding nine_of with_port
nine_put flat addresses later last i port here rest =
    ap (λ (ports : List Attributes). record { ports = ports })
    (listed_same port_count (record_at later last) (λ k. cond (eqb k i) port (record_at flat addresses k)) (λ k h. go k h (eqb k i) refl)
    ∙ sym (set_listed port_count (record_at flat addresses) i port))
  where
    go : (k : ℕ) → k < port_count → (t : Bool) → eqb k i ≡ t → record_at later last k ≡ cond t port (record_at flat addresses k)
    go k h true e = let q = eqb-true k i e in rw q (here (omega arith))
    go k h false e = rest k h (eqb-false k i e)

-- a record by its counters and bytes
pub record_is : (flat addresses : List ℕ) (i : ℕ) (counters address : List ℕ) → length counters ≡ counter_count → length address ≡ 6
    → ((r : ℕ) → r < counter_count → get_or flat (place r i) 0 ≡ get_or counters r 0) → ((j : ℕ) → j < 6 → get_or addresses (spot i j) 0 ≡ get_or address j 0)
    → record_at flat addresses i ≡ record { counters = counters; address = address }
unfolding record_at
record_is flat addresses i counters address m n cs bs =
    ap₂ (λ (x y : List ℕ). record { counters = x; address = y })
    (listed_same counter_count (λ r. get_or flat (place r i) 0) (λ r. get_or counters r 0) cs ∙ listed_all counter_count counters 0 m)
    (listed_same 6 (λ j. get_or addresses (spot i j) 0) (λ j. get_or address j 0) bs ∙ listed_all 6 address 0 n)

pub record_same : (flat addresses later last : List ℕ) (i : ℕ) → ((r : ℕ) → r < counter_count → get_or later (place r i) 0 ≡ get_or flat (place r i) 0)
    → ((j : ℕ) → j < 6 → get_or last (spot i j) 0 ≡ get_or addresses (spot i j) 0) → record_at later last i ≡ record_at flat addresses i
unfolding record_at
record_same flat addresses later last i cs bs =
    ap₂ (λ (x y : List ℕ). record { counters = x; address = y })
    (listed_same counter_count (λ r. get_or later (place r i) 0) (λ r. get_or flat (place r i) 0) cs)
    (listed_same 6 (λ j. get_or last (spot i j) 0) (λ j. get_or addresses (spot i j) 0) bs)

-- of counters
pub counter_stored : StoreIsOne
unfolding record_at
counter_stored flat addresses r i v e h l =
    nine_put flat addresses (set flat (place r i) v) addresses i _ (λ k. here)
    (λ k m n.
    record_same flat addresses (set flat (place r i) v) addresses k
    (λ q o. stored_at flat r i v q k e h l m ∙ rw (ne_eqb k i n, and-false (eqb q r)))
    (λ j o. refl))
  where
    here : record_at (set flat (place r i) v) addresses i
        ≡ record { counters = set (port_of (nine_of flat addresses) i).counters r v; address = (port_of (nine_of flat addresses) i).address }
    here =
        rw (port_held flat addresses i l)
        (ap (λ (x : List ℕ). record { counters = x; address = listed 6 (λ j. get_or addresses (spot i j) 0) })
        (listed_same counter_count (λ q. get_or (set flat (place r i) v) (place q i) 0) (λ q. cond (eqb q r) v (get_or flat (place q i) 0))
        (λ q o. stored_at flat r i v q i e h l l ∙ rw (eq-eqb i i refl, and-true (eqb q r)))
        ∙ sym (set_listed counter_count (λ q. get_or flat (place q i) 0) r v)))

-- of addresses
pub address_stored : (i : ℕ) (source flat addresses last : List ℕ) → length source ≡ 6 → length addresses ≡ spots_size → Written i source addresses last
    → nine_of flat last ≡ readdressed i source (nine_of flat addresses)
unfolding readdressed record_at
address_stored i source flat addresses last n e w =
    nine_put flat addresses flat last i _ here
    (λ k m o. record_same flat addresses flat last k (λ r p. refl) (λ j p. w.is e k j m p ∙ rw (ne_eqb k i o)))
  where
    here : i < port_count → record_at flat last i ≡ with_address (port_of (nine_of flat addresses) i) source
    here l =
        rw (port_held flat addresses i l)
        (ap (λ (x : List ℕ). record { counters = listed counter_count (λ r. get_or flat (place r i) 0); address = x })
        (listed_same 6 (λ j. get_or last (spot i j) 0) (λ j. get_or source j 0) (λ j p. w.is e i j l p ∙ rw (eq-eqb i i refl)) ∙ listed_all 6 source 0 n))

-- past the last port
pub address_unstored : (i : ℕ) (source flat addresses : List ℕ) → port_count ≤ i → nine_of flat addresses ≡ readdressed i source (nine_of flat addresses)
unfolding readdressed
address_unstored i source flat addresses h = nine_put flat addresses flat addresses i _ (λ l. absurd (omega arith)) (λ k m n. refl)

-- of all that is kept of a port
pub port_stored : (i : ℕ) (numbers source last : List ℕ) (flat later : Flat) → length numbers ≡ counter_count → length source ≡ 6
    → length flat.counters ≡ flat_size → length flat.addresses ≡ spots_size → Laid i numbers flat later → Written i source later.addresses last
    → nine_of later.counters last ≡ with_port (nine_in flat) i (record { counters = numbers; address = source })
port_stored i numbers source last flat later m n e f laid w =
    nine_put flat.counters flat.addresses later.counters last i _
    (λ l.
    record_is later.counters last i numbers source m n (λ r p. laid.is e r i p l ∙ rw (eq-eqb i i refl)) (λ j p. byte i j l p ∙ rw (eq-eqb i i refl)))
    (λ k o d.
    record_same flat.counters flat.addresses later.counters last k (λ r p. laid.is e r k p o ∙ rw (ne_eqb k i d)) (λ j p. byte k j o p ∙ rw (ne_eqb k i d)))
  where
    byte : (k j : ℕ) → k < port_count → j < 6 → get_or last (spot k j) 0 ≡ cond (eqb k i) (get_or source j 0) (get_or flat.addresses (spot k j) 0)
    byte k j o p =
        w.is (ap (λ (l : List ℕ). length l) laid.addresses ∙ f) k j o p
        ∙ ap (λ (l : List ℕ). cond (eqb k i) (get_or source j 0) (get_or l (spot k j) 0)) laid.addresses

-- past the last port
pub port_unstored : (i : ℕ) (port : Attributes) (flat addresses : List ℕ) → port_count ≤ i → nine_of flat addresses ≡ with_port (nine_of flat addresses) i port
port_unstored i port flat addresses h = nine_put flat addresses flat addresses i port (λ l. absurd (omega arith)) (λ k m n. refl)

-- A STRETCH

pub stretch_ports : (flat addresses : List ℕ) (r : ℕ) → length flat ≡ flat_size → r < counter_count
    → stretch_of r flat ≡ listed port_count (λ i. counter_of (nine_of flat addresses) i r)
unfolding stretch_of
stretch_ports flat addresses r e h =
    rw (lt-ltb r counter_count h)
    (sym (listed_same port_count (λ i. counter_of (nine_of flat addresses) i r) (λ i. get_or flat (place r 0 + i) 0)
    (λ i l. counter_held flat addresses i r l h ∙ ap (λ (k : ℕ). get_or flat k 0) (omega arith))
    ∙ listed_part port_count (place r 0) flat 0 (omega arith)))

pub stretch_none : (flat : List ℕ) (r : ℕ) → counter_count ≤ r → stretch_of r flat ≡ []
unfolding stretch_of
stretch_none flat r h = rw (le-ltb r counter_count h)

pub stretch_is_one : StretchIsOne
stretch_is_one flat addresses r e = (stretch_ports flat addresses r e, stretch_none flat r)

-- BOUNDS

pub fine_stored : (flat : List ℕ) (k v : ℕ) → v < 2 ^ 32 → Counters flat → Counters (set flat k v)
fine_stored flat k v h c = record { long = length-set flat k v ∙ c.long; low = λ j. go flat k j c.low }
  where
    go : (xs : List ℕ) (k j : ℕ) → ((i : ℕ) → get_or xs i 0 < 2 ^ 32) → get_or (set xs k v) j 0 < 2 ^ 32
    go [] k j l = l j
    go (x ∷ xs) zero zero l = h
    go (x ∷ xs) zero (suc j) l = l (suc j)
    go (x ∷ xs) (suc k) zero l = l 0
    go (x ∷ xs) (suc k) (suc j) l = go xs k j (λ i. l (suc i))

-- a stretch as the code cuts it out, from the place of its first port on, as far as the array goes
pub stretch_cut : (flat : List ℕ) (r from to : ℕ) → r < counter_count → from ≡ min (place r 0) (length flat) → to ≡ min (length flat) (from + port_count)
    → take (to - from) (drop from flat) ≡ stretch_of r flat
unfolding stretch_of
stretch_cut flat r from to h e f =
    let left : to - from ≡ min port_count (length flat - from) = omega arith in
    let size : to - from ≡ min port_count (length (drop from flat)) = rw (length-drop from flat) left in
    rw (lt-ltb r counter_count h)
    (ap (λ (k : ℕ). take k (drop from flat)) size
    ∙ take_min port_count (drop from flat)
    ∙ ap (λ (l : List ℕ). take port_count l) (ap (λ (k : ℕ). drop k flat) e ∙ drop_min (place r 0) flat))

-- AN ADDRESS WRITE, AS THE CODE MAKES IT

pub readdress_made : (i : ℕ) (source addresses last : List ℕ) → length source ≡ 6 → Written i source addresses last → ReaddressedAlone i source addresses last
readdress_made i source addresses last n w = record { fine = w.fine; is = λ e flat. address_stored i source flat addresses last n e w }

pub readdress_none : (i : ℕ) (source addresses : List ℕ) → port_count ≤ i → ReaddressedAlone i source addresses addresses
readdress_none i source addresses h = record { fine = refl; is = λ e flat. address_unstored i source flat addresses h }

-- and of a Flat: its counters are as they were
pub readdress_beside : (i : ℕ) (source last : List ℕ) (flat : Flat) → ReaddressedAlone i source flat.addresses last
    → Readdressed i source flat (record { counters = flat.counters; addresses = last })
readdress_beside i source last flat a = record { counters = refl; fine = a.fine; is = λ e. a.is e flat.counters }

-- what was written to a Flat, beside any counters: what the addresses stand for does not depend on them
pub readdress_any : (i : ℕ) (source : List ℕ) (flat last : Flat) → length flat.addresses ≡ spots_size → Readdressed i source flat last → (counters : List ℕ)
    → nine_of counters last.addresses ≡ readdressed i source (nine_of counters flat.addresses)
unfolding readdressed with_port record_at address_of port_of
readdress_any i source flat last e r counters = nine_put counters flat.addresses counters last.addresses i _ here rest
  where
    beside : ℕ → List ℕ → Attributes
    beside k address = record { counters = listed counter_count (λ q. get_or counters (place q k) 0); address = address }

    written : (k : ℕ) → k < port_count → listed 6 (λ j. get_or last.addresses (spot k j) 0) ≡ address_of (readdressed i source (nine_in flat)) k
    written k l = sym (address_held last.counters last.addresses k l) ∙ ap (λ (nine : Nine). address_of nine k) (r.is e)

    here : i < port_count → record_at counters last.addresses i ≡ with_address (port_of (nine_of counters flat.addresses) i) source
    here l =
        rw (port_held counters flat.addresses i l)
        (ap (beside i)
        (written i l
        ∙ ap (λ (port : Attributes). port.address)
        (get_or-set_same (nine_in flat).ports i _ no_attributes (rw (nine_ports flat.counters flat.addresses) l))))

    rest : (k : ℕ) → k < port_count → (k ≡ i → ⊥) → record_at counters last.addresses k ≡ record_at counters flat.addresses k
    rest k l n =
        ap (beside k)
        (written k l
        ∙ ap (λ (port : Attributes). port.address) (get_or-set_other (nine_in flat).ports i k _ no_attributes n)
        ∙ address_held flat.counters flat.addresses k l)
