-- What a pass means: the three demands, over any list of records from power-up. This file and the definitions that it cites are what a reader must believe;
-- proofs/ shows that each statement holds, and docs/PASS.md has the same in plain English, line by line. A change of a port's state is seen by comparing the
-- chip before and after a record, and not by a change bit. What a burst is to a port, and what it is due, are taken from the definitions that the code is held
-- to; the crate alone says all of it once more by the records that came before, where nothing of the chip occurs.
-- Assumes nothing.
use Rattle.std.specs.Prelude.{ℕ, ◌+◌, ◌*◌, ◌%◌, ◌^◌, ◌≤◌, ◌<◌, ◌≡◌, Bool, true, false, cond, not, ◌&&◌, ◌||◌, List, [], ◌∷◌, Ok, map, eqb, ltb, length, get_or, take}
use Rattle.std.specs.Bool.{beq}
use Rattle.std.proofs.Math.Option.{Option, none, some}
use Rattle.spelling.specs.Spelling.{spelt}
use Rattle.ports.specs.Sets.{aui, has, without}
use Rattle.record.specs.declared.Burst.{Burst}
use Rattle.record.specs.declared.Access.{Access}
use Rattle.record.specs.declared.Access.TheVariants as access
use Rattle.record.specs.declared.Asked.{Asked}
use Rattle.record.specs.declared.Asked.TheVariants as ask
use Rattle.record.specs.Refusals.{record_of}
use Rattle.record.specs.Accepted.{kind_number}
use Rattle.repeater.specs.declared.Bursted.{Bursted}
use Rattle.repeater.specs.Repeater.{burst_of, partitioned_of}
use Rattle.repeater.specs.Events.{burst_event}
use Rattle.history.specs.Exactly.{Exactly}
use Rattle.history.specs.History.{Event, neither, cleared, since, Struck}
use Rattle.host.specs.declared.Host.{Host}
use Rattle.host.specs.declared.Register.{Register}
use Rattle.host.specs.declared.Role.{Role}
use Rattle.host.specs.declared.Role.TheVariants as role
use Rattle.host.specs.Map.{row_at}
use Rattle.host.specs.Sequence.{place_for, wrote_byte}
use Rattle.answer.specs.declared.Answer.{Answer}
use Rattle.answer.specs.declared.Answer.TheVariants.{Refused}
use Rattle.answer.specs.Answer.{outputs_of, byte_of}
use Rattle.attributes.specs.declared.Met.{Met}
use Rattle.attributes.specs.declared.Due.{Due}
use Rattle.attributes.specs.Credits.{due_of, credit_of}
use Rattle.attributes.specs.Octets.{difference_of, check_of}
use Rattle.attributes.specs.Sums.{sum_over}
use Rattle.chip.specs.declared.Supply.{Supply}
use Rattle.chip.specs.declared.Chip.{Chip}
use Rattle.access.specs.Access.{selected_by, value_of, number_of}
use Rattle.himib.specs.Bursts.{activity_of}
use Rattle.himib.specs.Step.{step_of}
use Rattle.himib.specs.Runs.{Point, Happening, start, Given, asked, source, selects, writes, reads, resets, if_burst}
use Rattle.himib.specs.Runs.{repeater_at, partitioned_at, linked_at, enabled_at, counter_at, transmit_collisions, total_octets, address_at, limit_at}
use Rattle.pass.specs.Judged.{happens, history, run}

-- ---- Demand 1: every record is answered, and what is turned away changes nothing

-- turned away: no output ports, no value, and chip and host record as they were; for every chip, host record and list of bytes
abbrev pub TurnedAwayIsStill : Type 0
TurnedAwayIsStill =
    (s : Chip) (h : Host) (bs : List ℕ) (k : ℕ) → (step_of s h bs).answer ≡ Refused k
    → ((step_of s h bs).chip ≡ s) × ((step_of s h bs).host ≡ h) × (outputs_of (step_of s h bs).answer ≡ 0) × (byte_of (step_of s h bs).answer ≡ 0)

-- ---- Demand 2: bytes read in sequence spell one value

-- the bytes that accepted D reads gave
unfoldable pub bytes_read : List Happening → List ℕ
bytes_read [] = []
bytes_read (h ∷ hs) = cond (reads h) (byte_of h.answer ∷ bytes_read hs) (bytes_read hs)

-- no C write, no accepted D write and no reset; bursts, pulses, ticks, C reads and refused records may be there
unfoldable pub undisturbed : List Happening → Bool
undisturbed [] = true
undisturbed (h ∷ hs) = not (selects h || writes h || resets h) && undisturbed hs

-- the register that is selected, its bytes, and what it is for
abbrev pub register_of : Point → Register
register_of p = (selected_by p.host).register

abbrev pub bytes_of : Point → ℕ
bytes_of p = (selected_by p.host).size

abbrev pub role_of : Point → Role
role_of p = (selected_by p.host).role

-- from point p a byte sequence begins with the D read r, and at least as many D reads as the register has bytes are among r and the undisturbed records rs
-- after it
pub record Sequence (p : Point) (r : List ℕ) (rs : List (List ℕ)) : Type 0 where
  pub begins : place_for false (bytes_of p) p.host ≡ 0
  pub first : reads (happens p r) ≡ true
  pub quiet : undisturbed (history p (r ∷ rs)) ≡ true
  pub enough : bytes_of p ≤ length (bytes_read (history p (r ∷ rs)))

-- the first bytes read are, byte for byte, those of the value that the register held at p, for registers of one, four and six bytes alike
abbrev pub SequenceIsOneValue : Type 0
SequenceIsOneValue =
    (p : Point) (r : List ℕ) (rs : List (List ℕ)) → Sequence p r rs → (i : ℕ) → i < bytes_of p
    → get_or (bytes_read (history p (r ∷ rs))) i 0 ≡ get_or (value_of p.chip.core p.chip.attributes (register_of p)) i 0

-- the number in a four-byte register: a counter of a port, or one of the chip's two
abbrev pub number_in : Register → Point → ℕ
number_in register p = number_of p.chip.core p.chip.attributes register

abbrev pub FourBytes : Type 0
FourBytes =
    (given : Supply) → Given given → (before : List (List ℕ)) (r : List ℕ) (rs : List (List ℕ))
    → bytes_of (run (start given) before) ≡ 4 → Sequence (run (start given) before) r rs
    → spelt (take 4 (bytes_read (history (run (start given) before) (r ∷ rs))))
    ≡ number_in (register_of (run (start given) before)) (run (start given) before)

-- ---- Demand 3: the past alone decides

-- what a record is to port i: a reset or its disabling; a burst, as the repeater met it; or nothing
unfoldable pub event_at : ℕ → Happening → Event
event_at i h =
    cond (resets h || (enabled_at h.before i && not (enabled_at h.after i))) cleared
    (if_burst neither (λ b. burst_event (repeater_at h.before) (activity_of b) i) (asked h))

abbrev pub PartitionByPast : Type 0
PartitionByPast =
    (given : Supply) (rs : List (List ℕ)) (i : ℕ) → i < 9
    → Exactly (partitioned_at (run (start given) rs) i ≡ true) (Struck (since (map (event_at i) (history (start given) rs))))

-- bit j of change register R
abbrev pub change_bit : ℕ → ℕ → Point → Bool
change_bit r j p = has (get_or p.chip.core.changes r 0) j

abbrev pub differs : Bool → Bool → Bool
differs a b = not (beq a b)

abbrev pub address_changes : ℕ → Happening → Bool
address_changes i h = not (eqb (counter_at i 12 h.before) (counter_at i 12 h.after))

-- the output ports of an accepted burst have AUI, and the flag is set
abbrev pub loopback_fails : Happening → Bool
loopback_fails h = if_burst false (λ b. b.loopback_missing && has (outputs_of h.answer) aui) (asked h)

abbrev pub sqe_seen : Happening → Bool
sqe_seen h = if_burst false (λ b. b.sqe_test) (asked h)

-- the event of bit j of register R: TP bits are bits 0 to 7, a single AUI bit is bit 7
unfoldable pub changes : ℕ → ℕ → Happening → Bool
changes r j h =
    cond (eqb r 0) (differs (partitioned_at h.before j) (partitioned_at h.after j))
    (cond (eqb r 1) (eqb j 7 && differs (partitioned_at h.before aui) (partitioned_at h.after aui))
    (cond (eqb r 2) (differs (linked_at h.before j) (linked_at h.after j))
    (cond (eqb r 3) (eqb j 7 && loopback_fails h)
    (cond (eqb r 4) (eqb j 7 && sqe_seen h)
    (cond (eqb r 6) (address_changes j h)
    (cond (eqb r 7) (eqb j 7 && address_changes aui h)
    false))))))

-- an accepted read of change register R, or a reset
abbrev pub is_change : ℕ → Role → Bool
is_change r role.Plain = false
is_change r (role.Cleared k) = eqb k r
is_change r (role.Commands g) = false
is_change r (role.Enables k) = false
is_change r (role.Address i) = false

abbrev pub clears : ℕ → Happening → Bool
clears r h = resets h || (reads h && is_change r (role_of h.before))

unfoldable pub none_of : (Happening → Bool) → List Happening → Bool
none_of c [] = true
none_of c (h ∷ hs) = not (c h) && none_of c hs

-- some event came, itself no clearing one, with no clearing one after it
unfoldable pub came_after : (Happening → Bool) → (Happening → Bool) → List Happening → Bool
came_after e c [] = false
came_after e c (h ∷ hs) = came_after e c hs || (e h && not (c h) && none_of c hs)

-- what a read of change register R is, by the P and R that the host selected: a listed register is it exactly at P 1 R k
abbrev pub ReadsByPlace : Type 0
ReadsByPlace = (p r k : ℕ) → ((row_at p r).size ≡ 0 → ⊥) → is_change k (row_at p r).role ≡ (eqb p 1 && eqb r k)

abbrev pub ChangeBitsByPast : Type 0
ChangeBitsByPast =
    (given : Supply) → Given given → (rs : List (List ℕ)) (r j : ℕ) → r < 8 → j < 8
    → change_bit r j (run (start given) rs) ≡ came_after (changes r j) (clears r) (history (start given) rs)

-- what a burst is as the repeater met it, and what it is due then, by document 01's credits
abbrev pub burst_at : Happening → Burst → Bursted
burst_at h b = burst_of (repeater_at h.before) (activity_of b)

abbrev pub met_at : Happening → Bursted → Met
met_at h t = record {
  heard = t.hearing.h;
  single = t.effect.single;
  collision = t.effect.collision;
  cut = without (partitioned_of (repeater_at h.after)) (partitioned_of (repeater_at h.before));
  limit = limit_at h.before;
}

abbrev pub due_at : Happening → Burst → Due
due_at h b = due_of h.before.chip.attributes (met_at h (burst_at h b)) b (source h)

-- what a record credits counter R of port i, Transmit Collisions and Total Octets with
unfoldable pub credit : ℕ → ℕ → Happening → ℕ
credit i r h = if_burst 0 (λ b. credit_of (due_at h b) b i r) (asked h)

unfoldable pub collision_credit : Happening → ℕ
collision_credit h = if_burst 0 (λ b. cond (burst_at h b).effect.transmit_collision 1 0) (asked h)

unfoldable pub octet_credit : Happening → ℕ
octet_credit h = if_burst 0 (λ b. (due_at h b).octets) (asked h)

unfoldable pub sum_of : (Happening → ℕ) → List Happening → ℕ
sum_of f [] = 0
sum_of f (h ∷ hs) = f h + sum_of f hs

-- each counter is its start plus its credits, modulo 2^32
pub record CountedFrom (p : Point) (rs : List (List ℕ)) : Type 0 where
  pub each_counter : (i r : ℕ) → i < 9 → r < 13 → counter_at i r (run p rs) ≡ (counter_at i r p + sum_of (credit i r) (history p rs)) % 2 ^ 32
  pub collisions : transmit_collisions (run p rs) ≡ (transmit_collisions p + sum_of collision_credit (history p rs)) % 2 ^ 32
  pub octets : total_octets (run p rs) ≡ (total_octets p + sum_of octet_credit (history p rs)) % 2 ^ 32

abbrev pub CountersByPast : Type 0
CountersByPast =
    (given : Supply) → Given given → (rs : List (List ℕ)) → CountedFrom (start given) rs

-- between any two points of a run: what two readings of a counter differ by, and Total Octets against the nine ports' octets
pub record Between (p : Point) (rs : List (List ℕ)) : Type 0 where
  pub readings : (i r : ℕ) → i < 9 → r < 13 → difference_of (counter_at i r (run p rs)) (counter_at i r p) ≡ sum_of (credit i r) (history p rs) % 2 ^ 32
  pub collisions : difference_of (transmit_collisions (run p rs)) (transmit_collisions p) ≡ sum_of collision_credit (history p rs) % 2 ^ 32
  pub octets : difference_of (total_octets (run p rs)) (total_octets p) ≡ sum_of octet_credit (history p rs) % 2 ^ 32
  pub totals : difference_of (total_octets (run p rs)) (total_octets p) ≡ sum_over 9 (λ i. difference_of (counter_at i 1 (run p rs)) (counter_at i 1 p)) % 2 ^ 32
  -- at most 2,829,359 readable frames of a port: its octets moved by 64 to 1,518 a frame, and the check of true readings says yes
  pub bound : (i : ℕ) → i < 9 → sum_of (credit i 0) (history p rs) ≤ 2829359
      → (difference_of (counter_at i 0 (run p rs)) (counter_at i 0 p) ≡ sum_of (credit i 0) (history p rs))
      × (64 * sum_of (credit i 0) (history p rs) ≤ difference_of (counter_at i 1 (run p rs)) (counter_at i 1 p))
      × (difference_of (counter_at i 1 (run p rs)) (counter_at i 1 p) ≤ 1518 * sum_of (credit i 0) (history p rs))
      × (check_of (difference_of (counter_at i 0 (run p rs)) (counter_at i 0 p)) (difference_of (counter_at i 1 (run p rs)) (counter_at i 1 p)) ≡ Ok true)

abbrev pub ReadingsByPast : Type 0
ReadingsByPast =
    (given : Supply) → Given given → (before rs : List (List ℕ)) → Between (run (start given) before) rs

-- the address that a record gives port i: of its readable frame, or of a write completed with this record
abbrev pub access_byte : Access → ℕ
access_byte (access.WriteC b) = b
access_byte (access.WriteD b) = b
access_byte access.ReadC = 0
access_byte access.ReadD = 0

unfoldable pub written_byte : Asked → ℕ
written_byte (ask.Burst b) = 0
written_byte (ask.Quiet q) = 0
written_byte (ask.Access a) = access_byte a
written_byte ask.Reset = 0
written_byte (ask.Refused k) = 0

abbrev pub is_address : ℕ → Role → Bool
is_address i role.Plain = false
is_address i (role.Cleared k) = false
is_address i (role.Commands g) = false
is_address i (role.Enables k) = false
is_address i (role.Address k) = eqb k i

-- what takes the address of port k, by the P and R that the host selected: TP0 to TP7 at P 16 to 23, AUI at P 31, each at R 14, and nothing else
abbrev pub address_stands : ℕ → ℕ → ℕ → Bool
address_stands p r k = eqb r 14 && ((ltb k 8 && eqb p (16 + k)) || (eqb k 8 && eqb p 31))

abbrev pub AddressesByPlace : Type 0
AddressesByPlace = (p r k : ℕ) → is_address k (row_at p r).role ≡ address_stands p r k

abbrev pub completes : ℕ → Happening → Bool
completes i h =
    writes h && is_address i (role_of h.before) && (wrote_byte (bytes_of h.before) (written_byte (asked h)) h.before.host).complete

unfoldable pub address_given : ℕ → Happening → Option (List ℕ)
address_given i h = cond (eqb (credit i 0 h) 1) (some (source h)) (cond (completes i h) (some h.after.host.bytes) none)

abbrev pub or_else : Option (List ℕ) → List ℕ → List ℕ
or_else none s = s
or_else (some a) s = a

-- the last address given, else the one at the start
unfoldable pub last_given : ℕ → List ℕ → List Happening → List ℕ
last_given i s [] = s
last_given i s (h ∷ hs) = last_given i (or_else (address_given i h) s) hs

abbrev pub AddressesByPast : Type 0
AddressesByPast =
    (given : Supply) → Given given → (rs : List (List ℕ)) (i : ℕ) → i < 9
    → address_at i (run (start given) rs) ≡ last_given i (address_at i (start given)) (history (start given) rs)

-- ---- Polling is harmless

abbrev pub kind_in : List ℕ → ℕ
kind_in r = kind_number (record_of r).asked

-- a C write, a C read, a D read, or bytes that are turned away as a record
abbrev pub polls : List ℕ → Bool
polls r = eqb (kind_in r) 0 || eqb (kind_in r) 4 || eqb (kind_in r) 6 || eqb (kind_in r) 7

unfoldable pub without_polls : List (List ℕ) → List (List ℕ)
without_polls [] = []
without_polls (r ∷ rs) = cond (polls r) (without_polls rs) (r ∷ without_polls rs)

unfoldable pub no_d_write : List (List ℕ) → Bool
no_d_write [] = true
no_d_write (r ∷ rs) = not (eqb (kind_in r) 5) && no_d_write rs

-- the answers of the bursts: word and output mask
unfoldable pub burst_answers : List Happening → List Answer
burst_answers [] = []
burst_answers (h ∷ hs) = cond (eqb (kind_number (asked h)) 1) (h.answer ∷ burst_answers hs) (burst_answers hs)

pub record Alike (p q : Point) : Type 0 where
  pub ports : repeater_at p ≡ repeater_at q
  pub attributes : p.chip.attributes ≡ q.chip.attributes
  pub collisions : transmit_collisions p ≡ transmit_collisions q
  pub octets : total_octets p ≡ total_octets q

abbrev pub PollingIsHarmless : Type 0
PollingIsHarmless =
    (p : Point) (rs qs : List (List ℕ)) → no_d_write rs ≡ true → no_d_write qs ≡ true → without_polls rs ≡ without_polls qs
    → (burst_answers (history p rs) ≡ burst_answers (history p qs)) × Alike (run p rs) (run p qs)

-- ---- One outcome

-- whatever two outcomes an equation with a definition allows are equal
abbrev pub OneOutcome : Type 1
OneOutcome = (A : Type 0) (defined one other : A) → one ≡ defined → other ≡ defined → one ≡ other
