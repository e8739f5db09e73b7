-- What is done to the ports by visits is what the rules of the crate port do to each of them. Assumes nothing.
--   Went mask visit rows next full == next are the rows after the visit to the mask's places, and full the places at which it found them full; went
--   set_in                  == the set of a mask's ports
--   found_made, none_made, put_made, put_none == a port that is found, and one that is put, as the code makes it
--   tick_made, pulse_made, revive_made, meet_made == the ports after a tick, link pulses, activity, a burst
use Prim.Native.Nat.{ℕ, ◌+◌, ◌-◌, ◌≤◌, ◌<◌}
use mathlib.Core.Path.{◌≡◌, refl, ap, sym, ◌∙◌}
use mathlib.Core.Bool.{Bool, true, false, cond, not, ◌&&◌, ◌||◌, or-true, or-false}
use mathlib.Core.List.{List}
use native.Mathlib.Omega.{arith}
use borrow.Author.Tests.{eqb-true, eqb-false, ltb-true, ltb-false, lt-ltb, le-leb, lt-leb, leb-true, leb-false}
use lib.Dec.{eqb, ltb, leb}
use lib.Bits.{bit_and, bit_or, and_le_l, and_le_r, or_lt}
use lib.ListN.{length, get_or, set, length-set}
use lib.Seq.{get_or-set_same, get_or-set_other}
use Rattle.history.specs.History.{partitions_at, long_above}
use Rattle.ports.specs.Sets.{has, set_of, without}
use Rattle.ports.specs.Each.{each}
use Rattle.ports.proofs.Sets.{has_and, has_or, has_past, gather_lt, is_gather}
use Rattle.ports.proofs.Each.{each_length}
use Rattle.port.specs.declared.Port.{Port}
use Rattle.port.specs.declared.Meeting.{Meeting}
use Rattle.port.specs.Port.{no_port}
use Rattle.port.specs.Link.{ticked, pulsed, revived, ticked_at, pulsed_at, revived_at}
use Rattle.port.specs.Partition.{partitioning, after_meeting}
use Rattle.store.specs.declared.Row.{Row}
use Rattle.store.specs.declared.Ports.{Ports}
use Rattle.store.specs.declared.Meetings.{Meetings}
use Rattle.store.specs.Door.{no_row, row_of, port_of, port_in, put_in, each_in, met_in}
use Rattle.store.specs.Visits.{on_set, Visit, Tick, Hush, Pulse, Revive, Collide, Calm, with_count_row, is_full, visited}
use Rattle.store.proofs.Sheet.{moves_made}
use Rattle.store.proofs.Masks.{has_first, has_less, has_set, has_with, has_without_one}
use Rattle.store.proofs.Visiting.{holding, visited_at}
use Rattle.store.proofs.DoorLaws.{standing, split, places_rows, port_within, port_past, is_put, put_past, is_each}

-- A VISIT

pub record Went (mask : ℕ) (visit : Visit) (rows next : List Row) (full : ℕ) : Type 0 where
  pub long : length next ≡ length rows
  pub row : (i : ℕ) → get_or next i no_row ≡ cond (has mask i) (visited visit (get_or rows i no_row)) (get_or rows i no_row)
  pub full_at : (i : ℕ) → has full i ≡ (has mask i && is_full visit (get_or rows i no_row))
  pub low : full < 65536

pub went : (mask : ℕ) (visit : Visit) (rows next : List Row) (full : ℕ) → mask < 512 → length rows ≡ 9
    → (next ≡ each (on_set mask (visited visit)) rows) × (full ≡ set_of (λ i. has mask i && is_full visit (get_or rows i no_row)))
    → Went mask visit rows next full
went mask visit rows next full l n (a, b) =
    record {
      long = rw a (each_length (on_set mask (visited visit)) rows);
      row = λ i. rw a (visited_at (visited visit) mask rows i no_row (λ h. within i h));
      full_at = λ i. rw b (has_set (holding (is_full visit) no_row mask rows) i (λ h. rw (has_past 9 mask i l (omega arith))));
      low = rw b (gather_lt 16 (holding (is_full visit) no_row mask rows));
    }
  where
    within : (i : ℕ) → has mask i ≡ true → i < length rows
    within i h = go (ltb i 9) refl
      where
        go : (b : Bool) → ltb i 9 ≡ b → i < length rows
        go true e = omega (arith, ltb-true i 9 e)
        go false e = let z : ◌≡◌ {A = Bool} true false = sym h ∙ has_past 9 mask i l (ltb-false i 9 e) in absurd (mathlib.Core.Bool.true≢false z)

-- SETS AND SINGLE PORTS

module _ (s : Ports) (nine : length s.rows ≡ 9) where
  pub set_in : (m : ℕ) (q : Port → Bool) → q no_port ≡ false → ((i : ℕ) → q (standing s i) ≡ has m i) → bit_and m 511 ≡ set_of (λ i. q (port_in s i))
  set_in m q none h =
      is_gather 16 (bit_and m 511) (λ i. q (port_in s i)) (omega (arith, and_le_r m 511)) (λ i l. has_first 9 m i ∙ go i (ltb i 9) refl)
    where
      go : (i : ℕ) (b : Bool) → ltb i 9 ≡ b → (b && has m i) ≡ q (port_in s i)
      go i true k = sym (h i) ∙ ap q (sym (port_within s i (omega (arith, places_rows s, ltb-true i 9 k))))
      go i false k = sym none ∙ ap q (sym (port_past s i (omega (arith, places_rows s, ltb-false i 9 k))))

  pub found_made : (i : ℕ) (e t p c : Bool) → i < 9 → e ≡ has s.enabled i → t ≡ has s.tested i → p ≡ has s.passing i → c ≡ has s.partitioned i
      → port_of e t p c (get_or s.rows i no_row) ≡ port_in s i
  unfolding standing
  found_made i e t p c l f g h k = rw (f, g, h, k) (sym (port_within s i (omega (arith, places_rows s))))

  pub none_made : (i : ℕ) → 9 ≤ i → no_port ≡ port_in s i
  none_made i l = sym (port_past s i (omega (arith, places_rows s)))

  -- a mask with port i or without it
  abbrev bit_put : ℕ → Bool → ℕ → ℕ
  bit_put i b m = cond b (bit_or m (set_of (λ j. eqb j i))) (without m (set_of (λ j. eqb j i)))

  bit_put_lem : (i : ℕ) (b : Bool) (m j : ℕ) → i < 16 → m < 65536 → has (bit_put i b m) j ≡ cond (eqb j i) b (has m j)
  bit_put_lem i true m j l h = has_with i m (set_of (λ k. eqb k i)) l refl j
  bit_put_lem i false m j l h = has_without_one i m (set_of (λ k. eqb k i)) l h refl j

  row_put : (rows : List Row) (k : ℕ) (x : Row) (i : ℕ) → k < length rows → get_or (set rows k x) i no_row ≡ cond (eqb i k) x (get_or rows i no_row)
  row_put rows k x i h = go (eqb i k) refl
    where
      go : (b : Bool) → eqb i k ≡ b → get_or (set rows k x) i no_row ≡ cond b x (get_or rows i no_row)
      go true e = rw (eqb-true i k e) (get_or-set_same rows k x no_row h)
      go false e = get_or-set_other rows k i x no_row (eqb-false i k e)

  pub put_made : (i : ℕ) (p : Port) (e t q c : ℕ) → s.enabled < 65536 → s.tested < 65536 → s.passing < 65536 → s.partitioned < 65536 → i < 9
      → e ≡ bit_put i p.enabled s.enabled → t ≡ bit_put i p.link_test s.tested → q ≡ bit_put i p.link_pass s.passing
      → c ≡ bit_put i p.partitioned s.partitioned
      → ◌≡◌ {A = Ports} (record { enabled = e; tested = t; passing = q; partitioned = c; rows = set s.rows i (row_of p) }) (put_in i p s)
  unfolding standing
  put_made i p e t q c le lt lp lc m f g h k =
      let l : i < length s.rows = omega arith in
      is_put i p s (record { enabled = e; tested = t; passing = q; partitioned = c; rows = set s.rows i (row_of p) }) l (length-set s.rows i (row_of p))
      (λ j. rw (
        f,
        g,
        h,
        k,
        bit_put_lem i p.enabled s.enabled j (omega arith) le,
        bit_put_lem i p.link_test s.tested j (omega arith) lt,
        bit_put_lem i p.link_pass s.passing j (omega arith) lp,
        bit_put_lem i p.partitioned s.partitioned j (omega arith) lc,
        row_put s.rows i (row_of p) j l,
      )
      (split (eqb j i) p (standing s j) (cond (eqb j i) (row_of p) (get_or s.rows j no_row)) refl))

  pub put_none : (i : ℕ) (p : Port) → 9 ≤ i → s ≡ put_in i p s
  put_none i p l = sym (put_past i p s (omega arith))

-- TICKS, LINK PULSES, ACTIVITY

-- the ports with other links, and with other partitions
abbrev linked_as : Ports → ℕ → List Row → Ports
linked_as s passing rows = record { enabled = s.enabled; tested = s.tested; passing = passing; partitioned = s.partitioned; rows = rows }

abbrev parted_as : Ports → ℕ → List Row → Ports
parted_as s partitioned rows = record { enabled = s.enabled; tested = s.tested; passing = s.passing; partitioned = partitioned; rows = rows }

-- what is done to TP ports alone is done to some of the nine
tp_alone : {A : Type 0} (i : ℕ) (x y : A) → cond (ltb i 9) (cond (ltb i 8) x y) y ≡ cond (ltb i 8) x y
tp_alone {A} i x y = go (ltb i 8) refl
  where
    any : (b : Bool) → cond b y y ≡ y
    any true = refl
    any false = refl

    go : (b : Bool) → ltb i 8 ≡ b → cond (ltb i 9) (cond b x y) y ≡ cond b x y
    go true h = rw (lt-ltb i 9 (omega (arith, ltb-true i 8 h)))
    go false h = any (ltb i 9)

-- b is whether it is a TP port, h whether the mask has it
tick_port : (b e t p c : Bool) (r : Row)
    → port_of e t (p && not ((b && t) && is_full Tick r)) c (cond (b && t) (visited Tick r) r) ≡ cond b (ticked (port_of e t p c r)) (port_of e t p c r)
unfolding ticked
tick_port false e t true c r = refl
tick_port false e t false c r = refl
tick_port true e false true c r = refl
tick_port true e false false c r = refl
tick_port true e true p c r = go (is_full Tick r) refl p
  where
    go : (f : Bool) → is_full Tick r ≡ f → (p : Bool)
        → port_of e true (p && not (is_full Tick r)) c (visited Tick r) ≡ ticked (port_of e true p c r)
    go true k true = rw k
    go true k false = rw k
    go false k true = rw k
    go false k false = rw k

pulse_port : (b h e t p c : Bool) (r : Row)
    → port_of e t (p || (((b && (h && t)) && not p) && is_full Pulse (cond ((b && (h && t)) && p) (visited Hush r) r))) c
    (cond ((b && (h && t)) && not p) (visited Pulse (cond ((b && (h && t)) && p) (visited Hush r) r)) (cond ((b && (h && t)) && p) (visited Hush r) r))
    ≡ cond b (cond h (pulsed (port_of e t p c r)) (port_of e t p c r)) (port_of e t p c r)
unfolding pulsed
pulse_port false h e t true c r = refl
pulse_port false h e t false c r = refl
pulse_port true false e t true c r = refl
pulse_port true false e t false c r = refl
pulse_port true true e false true c r = refl
pulse_port true true e false false c r = refl
pulse_port true true e true true c r = refl
pulse_port true true e true false c r = go (is_full Pulse r) refl
  where
    go : (f : Bool) → is_full Pulse r ≡ f → port_of e true (is_full Pulse r) c (visited Pulse r) ≡ pulsed (port_of e true false c r)
    go true k = rw k
    go false k = rw k

revive_port : (b h e t p c : Bool) (r : Row)
    → port_of e t (p || (b && (h && t))) c (cond (b && (h && t)) (visited Revive r) r)
    ≡ cond b (cond h (revived (port_of e t p c r)) (port_of e t p c r)) (port_of e t p c r)
unfolding revived
revive_port false h e t true c r = refl
revive_port false h e t false c r = refl
revive_port true false e t true c r = refl
revive_port true false e t false c r = refl
revive_port true true e false true c r = refl
revive_port true true e false false c r = refl
revive_port true true e true true c r = refl
revive_port true true e true false c r = refl

-- the places that link pulses reach are TP ports
module _ (s : Ports) (mask : ℕ) where
  abbrev reached_by : ℕ
  reached_by = bit_and (bit_and mask s.tested) 255

  pub reached_first : bit_and reached_by s.passing < 512
  reached_first = omega (arith, and_le_l reached_by s.passing, and_le_r (bit_and mask s.tested) 255)

  pub reached_rest : without reached_by s.passing < 512
  reached_rest = omega (arith, and_le_l reached_by (65535 - s.passing), and_le_r (bit_and mask s.tested) 255)

module _ (s : Ports) (low : s.passing < 65536) (nine : length s.rows ≡ 9) where
  pub tick_made : (next : List Row) (full passing : ℕ) → Went (bit_and s.tested 255) Tick s.rows next full → passing ≡ without s.passing full
      → linked_as s passing next ≡ each_in ticked_at s
  unfolding standing ticked_at
  tick_made next full passing w e =
      is_each ticked_at s (linked_as s passing next) w.long
      (λ i. rw (e, has_less s.passing full i low w.low, w.full_at i, w.row i, has_first 8 s.tested i, nine)
      (tick_port (ltb i 8) (has s.enabled i) (has s.tested i) (has s.passing i) (has s.partitioned i) (get_or s.rows i no_row)
      ∙ sym (tp_alone i (ticked (standing s i)) (standing s i))))

  module _ (mask reached : ℕ) (r : reached ≡ bit_and (bit_and mask s.tested) 255) where
    reached_at : (i : ℕ) → has reached i ≡ (ltb i 8 && (has mask i && has s.tested i))
    reached_at i = rw r (has_first 8 (bit_and mask s.tested) i) ∙ ap (λ (b : Bool). ltb i 8 && b) (has_and mask s.tested i)

    reached_low : reached < 256
    reached_low = rw r (omega (arith, and_le_r (bit_and mask s.tested) 255))

    pub revive_made : (next : List Row) (full : ℕ) → Went reached Revive s.rows next full
        → linked_as s (bit_or s.passing reached) next ≡ each_in (revived_at mask) s
    unfolding standing revived_at
    revive_made next full w =
        is_each (revived_at mask) s
        (linked_as s (bit_or s.passing reached) next) w.long
        (λ i. rw (has_or s.passing reached i, w.row i, reached_at i, nine)
        (revive_port (ltb i 8) (has mask i) (has s.enabled i) (has s.tested i) (has s.passing i) (has s.partitioned i) (get_or s.rows i no_row)
        ∙ sym (tp_alone i (cond (has mask i) (revived (standing s i)) (standing s i)) (standing s i))))

    pub pulse_made : (quiet next : List Row) (hushed failing full : ℕ) → Went (bit_and reached s.passing) Hush s.rows quiet hushed
        → failing ≡ without reached s.passing → Went failing Pulse quiet next full
        → linked_as s (bit_or s.passing full) next ≡ each_in (pulsed_at mask) s
    unfolding standing pulsed_at
    pulse_made quiet next hushed failing full v f w =
        is_each (pulsed_at mask) s
        (linked_as s (bit_or s.passing full) next) (w.long ∙ v.long)
        (λ i. rw (
          has_or s.passing full i,
          w.full_at i,
          w.row i,
          v.row i,
          has_and reached s.passing i,
          f,
          has_less reached s.passing i (omega (arith, reached_low)) low,
          reached_at i,
          nine,
        )
        (pulse_port (ltb i 8) (has mask i) (has s.enabled i) (has s.tested i) (has s.passing i) (has s.partitioned i) (get_or s.rows i no_row)
        ∙ sym (tp_alone i (cond (has mask i) (pulsed (standing s i)) (standing s i)) (standing s i))))

-- BURSTS

-- one less than a limit is reached exactly if the limit is reached with one more
one_less : (k n : ℕ) → leb k n ≡ leb (k + 1) (n + 1)
one_less k n = go (leb k n) refl
  where
    go : (b : Bool) → leb k n ≡ b → b ≡ leb (k + 1) (n + 1)
    go true e = sym (le-leb (k + 1) (n + 1) (omega (arith, leb-true k n e)))
    go false e = sym (lt-leb (k + 1) (n + 1) (omega (arith, leb-false k n e)))

-- a collision partitions at the last count before the limit, and a long one at any
full_long : (n : ℕ) (g : Bool) → leb (cond g 0 (partitions_at - 1)) n ≡ (leb partitions_at (n + 1) || g)
full_long n true = le-leb 0 n (omega arith) ∙ sym (or-true (leb partitions_at (n + 1)))
full_long n false = one_less (partitions_at - 1) n ∙ sym (or-false (leb partitions_at (n + 1)))

-- n is whether there is such a place, h whether it is in T; k, l and w whether the burst collides there, is clean, reconnects; f whether a collision partitions
module _ (e t p : Bool) (r : Row) (k l w : Bool) (x last : ℕ) where
  abbrev met : Meeting
  met = record { collided = k; clean = l; reconnecting = w; x = x }

  abbrev hit : Bool → Bool → Bool → Bool
  hit n h c = ((n && h) && not c) && k

  abbrev again : Bool → Bool → Bool → Bool
  again n h c = ((n && h) && c) && w

  abbrev calm : Bool → Bool → Bool → Bool
  calm n h c = ((((n && h) && not c) && l) && not k) || again n h c

  abbrev counted : Bool → Bool → Bool → Row
  counted n h c = cond (hit n h c) (visited (Collide last) r) r

  abbrev after : Bool → Bool → Bool → Port
  after n h c =
      port_of e t p ((c || (hit n h c && is_full (Collide last) r)) && not (again n h c)) (cond (calm n h c) (visited Calm (counted n h c)) (counted n h c))

  meet_port : (n h c : Bool) → is_full (Collide last) r ≡ partitioning met r.count
      → after n h c ≡ cond n (cond h (after_meeting met (port_of e t p c r)) (port_of e t p c r)) (port_of e t p c r)
  unfolding after_meeting
  meet_port false h true g = refl
  meet_port false h false g = refl
  meet_port true false true g = refl
  meet_port true false false g = refl
  meet_port true true true g = go w
    where
      go : (w : Bool)
          → port_of e t p (not w) (cond w (visited Calm r) r) ≡ cond w (port_of e t p false (visited Calm r)) (port_of e t p true r)
      go true = refl
      go false = refl
  meet_port true true false g = go k l (is_full (Collide last) r) refl
    where
      go : (k l f : Bool) → is_full (Collide last) r ≡ f
          → port_of e t p ((k && is_full (Collide last) r) && true)
          (cond ((l && not k) || false) (visited Calm (cond k (visited (Collide last) r) r)) (cond k (visited (Collide last) r) r))
          ≡ cond k (cond (partitioning met r.count) (port_of e t p true (visited Calm r)) (port_of e t p false (with_count_row r (r.count + 1))))
          (cond l (port_of e t p false (visited Calm r)) (port_of e t p false r))
      go true true true q = rw (← g, q)
      go true true false q = rw (← g, q)
      go true false true q = rw (← g, q)
      go true false false q = rw (← g, q)
      go false true f q = refl
      go false false f q = refl

module _ (s : Ports) (b : Meetings) where
  abbrev sent : ℕ
  sent = bit_and b.t 511

  abbrev reconnected : ℕ
  reconnected = bit_and (bit_and sent s.partitioned) b.back

  sent_low : sent < 512
  sent_low = omega (arith, and_le_r b.t 511)

  sent_at : (i : ℕ) → has sent i ≡ (ltb i 9 && has b.t i)
  sent_at i = has_first 9 b.t i

  module _ (connected others : ℕ) (c : connected ≡ without sent s.partitioned) (o : others ≡ without (bit_and connected b.clean) b.collided) where
    connected_low : connected < 512
    connected_low = rw c (omega (arith, and_le_l sent (65535 - s.partitioned), sent_low))

    pub hit_low : bit_and connected b.collided < 512
    hit_low = omega (arith, and_le_l connected b.collided, connected_low)

    reconnected_low : reconnected < 512
    reconnected_low = omega (arith, and_le_l (bit_and sent s.partitioned) b.back, and_le_l sent s.partitioned, sent_low)

    others_low : others < 512
    others_low = rw o (omega (arith, and_le_l (bit_and connected b.clean) (65535 - b.collided), and_le_l connected b.clean, connected_low))

    pub calm_low : bit_or others reconnected < 512
    calm_low = or_lt 9 others reconnected others_low reconnected_low

    module _ (low : s.partitioned < 65536) (collided-low : b.collided < 65536) (nine : length s.rows ≡ 9) where
      connected_at_lem : (i : ℕ) → has connected i ≡ ((ltb i 9 && has b.t i) && not (has s.partitioned i))
      connected_at_lem i = rw c (has_less sent s.partitioned i (omega (arith, sent_low)) low) ∙ ap (λ (a : Bool). a && not (has s.partitioned i)) (sent_at i)

      reconnected_at : (i : ℕ) → has reconnected i ≡ (((ltb i 9 && has b.t i) && has s.partitioned i) && has b.back i)
      reconnected_at i =
          has_and (bit_and sent s.partitioned) b.back i ∙ ap (λ (a : Bool). a && has b.back i) (has_and sent s.partitioned i)
          ∙ ap (λ (a : Bool). (a && has s.partitioned i) && has b.back i) (sent_at i)

      hit_at : (i : ℕ) → has (bit_and connected b.collided) i ≡ (((ltb i 9 && has b.t i) && not (has s.partitioned i)) && has b.collided i)
      hit_at i = has_and connected b.collided i ∙ ap (λ (a : Bool). a && has b.collided i) (connected_at_lem i)

      others_at : (i : ℕ)
          → has others i ≡ ((((ltb i 9 && has b.t i) && not (has s.partitioned i)) && has b.clean i) && not (has b.collided i))
      others_at i =
          rw o (has_less (bit_and connected b.clean) b.collided i (omega (arith, and_le_l connected b.clean, connected_low)) collided-low)
          ∙ ap (λ (a : Bool). a && not (has b.collided i)) (has_and connected b.clean i)
          ∙ ap (λ (a : Bool). (a && has b.clean i) && not (has b.collided i)) (connected_at_lem i)

      pub meet_made : (last : ℕ) (counts next : List Row) (full none partitioned : ℕ) → last ≡ cond (ltb long_above b.x) 0 (partitions_at - 1)
          → Went (bit_and connected b.collided) (Collide last) s.rows counts full → Went (bit_or others reconnected) Calm counts next none
          → partitioned ≡ without (bit_or s.partitioned full) reconnected
          → parted_as s partitioned next ≡ each_in (met_in b) s
      unfolding standing met_in partitioning
      meet_made last counts next full none partitioned q v w e =
          is_each (met_in b) s (parted_as s partitioned next) (w.long ∙ v.long)
          (λ i. rw (
            e,
            has_less (bit_or s.partitioned full) reconnected i (or_lt 16 s.partitioned full low v.low) (omega (arith, reconnected_low)),
            has_or s.partitioned full i,
            v.full_at i,
            w.row i,
            v.row i,
            has_or others reconnected i,
            others_at i,
            reconnected_at i,
            hit_at i,
            nine,
          )
          (meet_port (has s.enabled i) (has s.tested i) (has s.passing i) (get_or s.rows i no_row) (has b.collided i) (has b.clean i)
          (has b.back i) b.x last (ltb i 9) (has b.t i) (has s.partitioned i) (full_is i)))
        where
          full_is : (i : ℕ)
              → is_full (Collide last) (get_or s.rows i no_row)
              ≡ partitioning (record { collided = has b.collided i; clean = has b.clean i; reconnecting = has b.back i; x = b.x })
              (get_or s.rows i no_row).count
          full_is i = rw q (full_long (get_or s.rows i no_row).count (ltb long_above b.x))
