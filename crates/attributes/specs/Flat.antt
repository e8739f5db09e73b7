-- How the HIMIB keeps what specs/Nine says of the nine ports: all counters in one array, first by register and then by port, and all addresses in
-- another. The nine records that the two arrays stand for are the correspondence; every rule goes on speaking of the records.
--   place r i                == where counter R of port i stands; flat_size == how many counters there are
--   spot i j                 == where byte j of port i's address stands; spots_size == how many bytes the addresses have
--   nine_of flat addresses    == the nine records that two arrays stand for; nine_in f == the same of what the code keeps
--   flat_of nine, spots_of nine == the two arrays of nine records
--   stretch_of r flat         == one register over the nine ports, as it stands in an array of any length
--   Fit flat                 == what the type of the two arrays says of them: a proof is not told it of a Flat that is lent
--   Six nine                 == addresses have six bytes
--   Counting f flat later    == counter R of port i has got f r i, and the addresses are as they were
--   ReaddressedAlone         == what `readdress` does to addresses that it is lent alone, beside any counters
--   Credited, Readdressed    == what `credit` and `readdress` do to the Flat that they are lent
--   FlatBack, NineBack       == one to one: from the arrays to the records and back, and the other way
--   StoreIsOne               == a store at the place of a counter is a store of that counter in that record, and leaves all others
--   StretchIsOne             == a stretch is one register over the nine ports, and nothing past the last register
-- Assumes nothing.
use Rattle.std.specs.Prelude.{◌≡◌, ℕ, ◌+◌, ◌*◌, ◌/◌, ◌%◌, ◌^◌, ◌<◌, ◌≤◌, cond, List, [], length, take, drop, replicate, nat_lt, slice_index, slice_set}
use Rattle.ports.specs.Sets.{port_count}
use Rattle.ports.specs.Each.{each}
use Rattle.record.specs.declared.Burst.{Burst}
use Rattle.attributes.specs.declared.Attributes.{Attributes}
use Rattle.attributes.specs.declared.Nine.{Nine}
use Rattle.attributes.specs.declared.Flat.{Flat}
use Rattle.attributes.specs.declared.Met.{Met}
use Rattle.attributes.specs.declared.Due.{Due}
use Rattle.attributes.specs.Nine.{counter_count, port_of, counter_of, address_of, with_port, readdressed, Proper}
use Rattle.attributes.specs.Credits.{due_of, credited_all}

abbrev pub place : ℕ → ℕ → ℕ
place r i = 9 * r + i

abbrev pub flat_size : ℕ
flat_size = port_count * counter_count

abbrev pub spot : ℕ → ℕ → ℕ
spot i j = 6 * i + j

abbrev pub spots_size : ℕ
spots_size = 6 * port_count

-- f 0, f 1, .. f (n - 1)
unfoldable pub listed : {A : Type 0} → ℕ → (ℕ → A) → List A
listed {A} n f = each {A = ℕ} {B = A} (λ i none. f i) (replicate n 0)

-- what is kept of port i
unfoldable pub record_at : List ℕ → List ℕ → ℕ → Attributes
record_at flat addresses i = record {
  counters = listed counter_count (λ r. slice_index flat (place r i));
  address = listed 6 (λ j. slice_index addresses (spot i j));
}

unfoldable pub nine_of : List ℕ → List ℕ → Nine
nine_of flat addresses = record { ports = listed port_count (record_at flat addresses) }

abbrev pub nine_in : Flat → Nine
nine_in f = nine_of f.counters f.addresses

unfoldable pub flat_of : Nine → List ℕ
flat_of nine = listed flat_size (λ k. counter_of nine (k % port_count) (k / port_count))

unfoldable pub spots_of : Nine → List ℕ
spots_of nine = listed spots_size (λ k. slice_index (address_of nine (k / 6)) (k % 6))

-- as much of it as there is; past the last register there is nothing
unfoldable pub stretch_of : ℕ → List ℕ → List ℕ
stretch_of r flat = cond (nat_lt r counter_count) (take port_count (drop (place r 0) flat)) []

pub record Counters (flat : List ℕ) : Type 0 where
  pub long : length flat ≡ flat_size
  pub low : (k : ℕ) → slice_index flat k < 2 ^ 32

pub record Fit (flat : Flat) : Type 0 where
  pub counters : Counters flat.counters
  pub spots : length flat.addresses ≡ spots_size

pub record Six (nine : Nine) : Type 0 where
  pub bytes : (i : ℕ) → i < port_count → length (address_of nine i) ≡ 6

-- counter R of port i stored anew
abbrev pub with_counter : Nine → ℕ → ℕ → ℕ → Nine
with_counter nine i r v = with_port nine i (record { counters = slice_set (port_of nine i).counters r v; address = (port_of nine i).address })

-- counters wrap at 2^32
pub record Counting (f : ℕ → ℕ → ℕ) (flat later : Flat) : Type 0 where
  pub addresses : later.addresses ≡ flat.addresses
  pub fine : Counters flat.counters → Counters later.counters
  pub is : Counters flat.counters → (r i : ℕ) → r < counter_count → i < port_count
      → slice_index later.counters (place r i) ≡ (slice_index flat.counters (place r i) + f r i) % 2 ^ 32

pub record ReaddressedAlone (i : ℕ) (source addresses last : List ℕ) : Type 0 where
  pub fine : length last ≡ length addresses
  pub is : length addresses ≡ spots_size → (flat : List ℕ) → nine_of flat last ≡ readdressed i source (nine_of flat addresses)

pub record Readdressed (i : ℕ) (source : List ℕ) (flat later : Flat) : Type 0 where
  pub counters : later.counters ≡ flat.counters
  pub fine : length later.addresses ≡ length flat.addresses
  pub is : length flat.addresses ≡ spots_size → nine_in later ≡ readdressed i source (nine_in flat)

pub record Credited (met : Met) (burst : Burst) (source : List ℕ) (flat : Flat) (r : Due) (later : Flat) : Type 0 where
  pub due : r ≡ due_of (nine_in flat) met burst source
  pub fine : Fit flat → Fit later
  pub is : Fit flat → nine_in later ≡ credited_all r burst source (nine_in flat)

abbrev pub FlatBack : Type 0
FlatBack =
    (flat addresses : List ℕ) → length flat ≡ flat_size → length addresses ≡ spots_size
    → (flat_of (nine_of flat addresses) ≡ flat) × (spots_of (nine_of flat addresses) ≡ addresses)

abbrev pub NineBack : Type 0
NineBack = (nine : Nine) → Proper nine → Six nine → nine_of (flat_of nine) (spots_of nine) ≡ nine

abbrev pub StoreIsOne : Type 0
StoreIsOne =
    (flat addresses : List ℕ) (r i v : ℕ) → length flat ≡ flat_size → r < counter_count → i < port_count
    → nine_of (slice_set flat (place r i) v) addresses ≡ with_counter (nine_of flat addresses) i r v

abbrev pub StretchIsOne : Type 0
StretchIsOne =
    (flat addresses : List ℕ) (r : ℕ) → length flat ≡ flat_size
    → (r < counter_count → stretch_of r flat ≡ listed port_count (λ i. counter_of (nine_of flat addresses) i r)) × (counter_count ≤ r → stretch_of r flat ≡ [])
