-- No section of document 01: what the functions beneath `credit` and `with_port` do to what they are lent. Everything is said by register and port.
--   counted_for due burst r i == what counter R of port i gets of what is due
--   framed_port due           == the port that a readable frame gives its source address to, or none
--   Written i source ..      == port i's six bytes are source, and all others as they were
--   Laid i numbers ..        == port i's thirteen counters are numbers, and all else as it was
-- Assumes nothing.
use Rattle.std.specs.Prelude.{◌≡◌, ℕ, ◌<◌, Option, Some, None, cond, ◌&&◌, ◌||◌, List, length, ◌==◌, slice_index}
use Rattle.ports.specs.Sets.{port_count, has}
use Rattle.record.specs.declared.Burst.{Burst}
use Rattle.attributes.specs.declared.Due.{Due}
use Rattle.attributes.specs.declared.Flat.{Flat}
use Rattle.attributes.specs.Nine.{readable_frames, counter_count}
use Rattle.attributes.specs.Credits.{credit_of}
use Rattle.attributes.specs.Flat.{place, spot, flat_size, spots_size}

unfoldable pub counted_for : Due → Burst → ℕ → ℕ → ℕ
counted_for due burst r i = cond (has due.heard i || has due.cut i) (credit_of due burst i r) 0

-- of the port that the class goes to, if it goes to one
abbrev pub framed_of : Due → Option ℕ → Option ℕ
framed_of due (Some p) = cond (due.class == readable_frames && (has due.heard p || has due.cut p)) (Some p) None
framed_of due None = None

unfoldable pub framed_port : Due → Option ℕ
framed_port due = framed_of due due.single

pub record Written (i : ℕ) (source addresses last : List ℕ) : Type 0 where
  pub fine : length last ≡ length addresses
  pub is : length addresses ≡ spots_size → (k j : ℕ) → k < port_count → j < 6
      → slice_index last (spot k j) ≡ cond (k == i) (slice_index source j) (slice_index addresses (spot k j))

pub record Laid (i : ℕ) (numbers : List ℕ) (flat later : Flat) : Type 0 where
  pub addresses : later.addresses ≡ flat.addresses
  pub fine : length later.counters ≡ length flat.counters
  pub is : length flat.counters ≡ flat_size → (r k : ℕ) → r < counter_count → k < port_count
      → slice_index later.counters (place r k) ≡ cond (k == i) (slice_index numbers r) (slice_index flat.counters (place r k))
