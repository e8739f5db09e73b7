-- Document 01, 'Burst' and 'Partition', by the past: where the ports are as the past says (`Settled`, `Linked`, `Stood`), so is what the repeater makes
-- of a burst. It counts the heard ports and names a single one; the past has sets alone. Assumes nothing.
--   Count            == nothing, one port or more are heard, and what the past's tests say then
--   word_told_lem, out_told, single_told, collision_told, transmit_told, collided_told == each part of the effect, by T, H and the burst
--   met_told         == and the event that the burst is to a port
--   partitioned_port == a port is partitioned exactly if the past says so
--   t_seen, h_seen   == T and H are the past's
--   burst_seen_lem       == so is what follows for the wire and for the credits
--   collided_seen, event_seen == so are the ports that collide, and the event that the burst is to each port
use Prim.Native.Nat.{ℕ, zero, suc, ◌≤◌, ◌<◌}
use mathlib.Core.Path.{◌≡◌, refl, sym, ap, ◌∙◌}
use mathlib.Core.Bool.{Bool, true, false, cond, not, ◌&&◌, ◌||◌, and-true, and-false, or-false}
use mathlib.Core.List.{List, []}
use native.Mathlib.Omega.{arith}
use borrow.Author.Tests.{ne_eqb, eqb-true, le-leb, le-ltb, leb-true, leb-false}
use lib.Dec.{eqb, leb}
use lib.ListN.{get_or}
use lib.Count.{ones, count_trailing_zeros}
use Rattle.ports.specs.Sets.{aui, is_at, has, set_of}
use Rattle.ports.proofs.Sets.{gather_lt, gather_same, has_gather, count_one, only_has}
use Rattle.history.specs.History.{collided, clean, neither, is_partitioned}
use Rattle.history.proofs.Past.{partitioned_computed}
use Rattle.record.specs.declared.Burst.{Burst}
use Rattle.burst.specs.declared.Bus.{Bus}
use Rattle.burst.specs.declared.Word.TheVariants.{Rep, Jam}
use Rattle.burst.specs.declared.Heard.{Heard}
use Rattle.burst.specs.declared.Heard.TheVariants.{Nothing, One, More}
use Rattle.burst.specs.declared.Hearing.{Hearing}
use Rattle.burst.specs.declared.Effect.{Effect}
use Rattle.burst.specs.Burst as burst
use Rattle.burst.specs.Burst.{heard_of, effect_with, effect_of}
use Rattle.burst.specs.Clean.{is_jam, is_rep, data_to, clean_at, lasting_at, reconnecting_at}
use Rattle.port.specs.Standing.{event_of}
use Rattle.repeater.specs.declared.Repeater.{Repeater}
use Rattle.repeater.specs.Those.{Transmitting, Listening}
use Rattle.repeater.specs.Door.{port_at, places_of}
use Rattle.repeater.specs.Hearing.{in_t, in_l, in_h, transmits, listens, hearing_of, meeting_of}
use Rattle.repeater.specs.Repeater.{alternate_for, met_at, among}
use Rattle.repeater.specs.Events.{followed_event, burst_event}
use Rattle.repeater.proofs.DoorLaws.{past_among}
use Rattle.repeater.proofs.Hearing.{active_at, burst_hearing, burst_effect}
use Rattle.himib.specs.Bursts.{activity_of}
use Rattle.past.specs.Deeds.{Deed}
use Rattle.past.specs.Settings.{enabled_by, tested_by, alternate_by}
use Rattle.past.specs.Link.{passes_by}
use Rattle.past.specs.Bursts.{in_e, none, one, more, signalled, crash, word_by, told_data, jams, out_by, collided_by, clean_by, lasting_by, reconnects_by, met_by}
use Rattle.past.specs.Partition.{sent_to, struck_in, listened_to, heard_at, all_events, partitioned_by, heard_by}
use Rattle.pass.proofs.Partition.{standing_test}
use Rattle.himib.proofs.StepLaws.{eqb_turned}
use Rattle.alone.specs.Seen.{Settled, Linked, Stood, BurstSeen, burst_seen}

-- HOW MANY ARE HEARD

-- the count's three cases, and what each of the tests says there
data Count (h : ℕ) : Type 0 where
  of_none : heard_of h ≡ Nothing → none h ≡ true → one h ≡ false → more h ≡ false → Count h
  of_one : (p : ℕ) → heard_of h ≡ One p → none h ≡ false → one h ≡ true → more h ≡ false → ((i : ℕ) → has h i ≡ eqb i p) → Count h
  of_more : heard_of h ≡ More → none h ≡ false → one h ≡ false → more h ≡ true → Count h

count : (h : ℕ) → h < 65536 → Count h
unfolding heard_of
count h l = go (ones h) refl
  where
    go : (n : ℕ) → ones h ≡ n → Count h
    go zero e = of_none (rw e) (rw e) (rw e) (rw e)
    go (suc zero) e = of_one (count_trailing_zeros 16 h) (rw e) (rw e) (rw e) (rw e) (only_has (count_one 16 h l e))
    go (suc (suc n)) e =
        let z : eqb (suc (suc n)) 0 ≡ false = ne_eqb (suc (suc n)) 0 (λ k. omega arith) in
        let o : eqb (suc (suc n)) 1 ≡ false = ne_eqb (suc (suc n)) 1 (λ k. omega arith) in
        of_more (rw (e, z, o)) (rw (e, z)) (rw (e, o)) (rw (e, le-leb 2 (suc (suc n)) (omega arith)))

-- WHAT FOLLOWS, BY SETS

-- where nothing is heard AUI collides by its signal s, and is active by it, in the mask or not
by_signal : (m s a t : Bool) → (s && a && t) ≡ ((m || (s && a)) && t && (a && s))
by_signal true true true t = sym (and-true t)
by_signal true true false t = sym (and-false t)
by_signal true false true t = sym (and-false t)
by_signal true false false t = sym (and-false t)
by_signal false true true t = sym (and-true t)
by_signal false true false t = refl
by_signal false false a t = refl

jam_chosen : (c : Bool) → is_jam (cond c Jam Rep) ≡ c
jam_chosen true = refl
jam_chosen false = refl

rep_chosen : (c d : Bool) → is_rep (cond (c || d) Jam Rep) ≡ (not c && not d)
rep_chosen true d = refl
rep_chosen false true = refl
rep_chosen false false = refl

module _ (b : Burst) (hearing : Hearing) (heard : hearing.heard ≡ heard_of hearing.h) (small : hearing.h < 65536) where
  abbrev effect : Effect
  effect = effect_of Bus.Nothing hearing (activity_of b)

  abbrev h : ℕ
  h = hearing.h

  abbrev t : ℕ
  t = hearing.t

  by_count : (k : Heard) → heard_of h ≡ k → effect ≡ effect_with Bus.Nothing k hearing (activity_of b)
  unfolding effect_of
  by_count k e = rw (heard ∙ e)

  signal_of_one : (p : ℕ) → one h ≡ true → ((i : ℕ) → has h i ≡ eqb i p) → burst.signalled p (activity_of b) ≡ signalled b h
  unfolding activity_of
  signal_of_one p o q = rw (o, q aui, eqb_turned aui p)

  pub word_told_lem : effect.word ≡ word_by b h
  unfolding effect_with word_by activity_of
  word_told_lem = go (count h small)
    where
      go : Count h → effect.word ≡ word_by b h
      go (of_none k z o m) = rw (by_count Nothing k, z)
      go (of_one p k z o m q) = rw (by_count (One p) k, z, m, signal_of_one p o q)
      go (of_more k z o m) = rw (by_count More k, z, m)

  pub out_told : effect.out ≡ set_of (out_by t h)
  unfolding effect_with out_by
  out_told = go (count h small)
    where
      go : Count h → effect.out ≡ set_of (out_by t h)
      go (of_none k z o m) =
          ap (λ (f : Effect). f.out) (by_count Nothing k) ∙ gather_same 16 (λ i. false) (out_by t h) (λ i l. rw (o, m) (sym (and-false (has t i))))
      go (of_one p k z o m q) =
          ap (λ (f : Effect). f.out) (by_count (One p) k)
          ∙ gather_same 16 (λ i. has t i && not (eqb i p)) (out_by t h) (λ i l. rw (o, m, q i))
      go (of_more k z o m) =
          ap (λ (f : Effect). f.out) (by_count More k) ∙ gather_same 16 (λ i. has t i) (out_by t h) (λ i l. rw m (sym (and-true (has t i))))

  pub single_told : (i : ℕ) → i < 16 → is_at effect.single i ≡ (one h && has h i)
  unfolding effect_with
  single_told i l = go (count h small)
    where
      go : Count h → is_at effect.single i ≡ (one h && has h i)
      go (of_none k z o m) = rw (by_count Nothing k, o)
      go (of_one p k z o m q) = rw (by_count (One p) k, o, q i)
      go (of_more k z o m) = rw (by_count More k, o)

  pub collision_told : effect.collision ≡ crash b h
  unfolding effect_with
  collision_told = go (count h small)
    where
      go : Count h → effect.collision ≡ crash b h
      go (of_none k z o m) = rw (by_count Nothing k, o, m)
      go (of_one p k z o m q) = rw (by_count (One p) k, signal_of_one p o q, m)
      go (of_more k z o m) = rw (by_count More k, m)

  pub transmit_told : effect.transmit_collision ≡ more h
  unfolding effect_with
  transmit_told = go (count h small)
    where
      go : Count h → effect.transmit_collision ≡ more h
      go (of_none k z o m) = rw (by_count Nothing k, m)
      go (of_one p k z o m q) = rw (by_count (One p) k, m)
      go (of_more k z o m) = rw (by_count More k, m)

  pub collided_told : (i : ℕ) → i < 16 → has hearing.e i ≡ in_e b i → has effect.collided i ≡ collided_by b t h i
  unfolding effect_with collided_by activity_of
  collided_told i l e = go (count h small)
    where
      go : Count h → has effect.collided i ≡ collided_by b t h i
      go (of_none k z o m) =
          ap (λ (f : Effect). has f.collided i) (by_count Nothing k)
          ∙ has_gather 16 (λ i. b.collision_signal && eqb i aui && has t i) i l
          ∙ rw (z, o, m) (by_signal (has b.mask i) b.collision_signal (eqb i aui) (has t i))
      go (of_one p k z o m q) =
          ap (λ (f : Effect). has f.collided i) (by_count (One p) k)
          ∙ has_gather 16 (λ i. has hearing.e i && has t i && (burst.signalled p (activity_of b) || not (eqb i p))) i l
          ∙ rw (e, signal_of_one p o q, z, m, o, q i)
          (ap (λ (c : Bool). in_e b i && has t i && c) (sym (or-false ((has h aui && b.collision_signal) || not (eqb i p)))))
      go (of_more k z o m) =
          ap (λ (f : Effect). has f.collided i) (by_count More k)
          ∙ has_gather 16 (λ i. has hearing.e i && has t i) i l
          ∙ rw (e, m) (sym (and-true (in_e b i && has t i)))

  -- WHAT THE BURST IS TO A PORT

  jam_told : is_jam effect.word ≡ jams b h
  unfolding word_by
  jam_told = ap is_jam word_told_lem ∙ go (count h small)
    where
      go : Count h → is_jam (word_by b h) ≡ jams b h
      go (of_none k z o m) = rw (z, o, m)
      go (of_one p k z o m q) = rw (z, o, m) (jam_chosen ((has h aui && b.collision_signal) || b.rate_error))
      go (of_more k z o m) = rw (z, m)

  rep_told : is_rep effect.word ≡ told_data b h
  unfolding word_by
  rep_told = ap is_rep word_told_lem ∙ go (count h small)
    where
      go : Count h → is_rep (word_by b h) ≡ told_data b h
      go (of_none k z o m) = rw (z, o)
      go (of_one p k z o m q) = rw (z, o, m) (rep_chosen (has h aui && b.collision_signal) b.rate_error)
      go (of_more k z o m) = rw (z, o, m)

  module _ (i : ℕ) (l : i < 16) (e : has hearing.e i ≡ in_e b i) where
    data_told : data_to effect i ≡ (told_data b h && out_by t h i)
    unfolding data_to
    data_told = rw (rep_told, out_told, has_gather 16 (out_by t h) i l)

    clean_told : clean_at hearing effect i ≡ clean_by b t h i
    unfolding clean_at clean_by
    clean_told = rw (jam_told, collided_told i l e, e, data_told)

    lasting_told : has (set_of (lasting_at hearing effect (activity_of b))) i ≡ lasting_by b t h i
    unfolding lasting_at lasting_by activity_of
    lasting_told = has_gather 16 (lasting_at hearing effect (activity_of b)) i l ∙ rw clean_told

    pub met_told : (alternate : Bool)
        → cond (has t i) (event_of (meeting_of effect (activity_of b) (set_of (lasting_at hearing effect (activity_of b))) alternate i)) neither
        ≡ met_by alternate b t h i
    unfolding event_of meeting_of reconnecting_at met_by reconnects_by activity_of
    met_told alternate = rw (collided_told i l e, lasting_told, data_told) (go (has t i) (collided_by b t h i) (lasting_by b t h i))
      where
        go : (s c k : Bool)
            → cond s (cond c (collided b.x) (cond k (clean (k && (not alternate || (told_data b h && out_by t h i)))) neither)) neither
            ≡ cond (not s) neither (cond c (collided b.x) (cond k (clean (not alternate || (told_data b h && out_by t h i))) neither))
        go true true k = refl
        go true false true = refl
        go true false false = refl
        go false c k = refl

-- THE REPEATER'S HEARING

module _ (r : Repeater) (b : Burst) where
  counted : (hearing_of r (activity_of b)).heard ≡ heard_of (hearing_of r (activity_of b)).h
  unfolding hearing_of
  counted = refl

  small : (hearing_of r (activity_of b)).h < 65536
  unfolding hearing_of
  small = gather_lt 16 (in_h r (activity_of b))

  active_seen : (i : ℕ) → i < 16 → has (hearing_of r (activity_of b)).e i ≡ in_e b i
  unfolding activity_of
  active_seen i l = active_at r (activity_of b) i l

-- THE PORTS

pub partitioned_port : (past : List Deed) (r : Repeater) → Stood past r → (i : ℕ) → i < 9 → (port_at r i).partitioned ≡ partitioned_by past i
unfolding partitioned_by struck_in
partitioned_port past r s i l =
    sym (standing_test (port_at r i)) ∙ ap is_partitioned (s i l) ∙ partitioned_computed (get_or (all_events past) i [])

-- AUI has no link that could fail
aui_passes : (past : List Deed) (i : ℕ) (a : Bool) → eqb i aui ≡ a → (eqb i aui || passes_by i past) ≡ passes_by i past
unfolding passes_by tested_by
aui_passes past i true e = rw (e, eqb-true i aui e)
aui_passes past i false e = rw e

none_past : (past : List Deed) (i : ℕ) → 9 ≤ i → enabled_by i past ≡ false
unfolding enabled_by
none_past past i l = rw (le-ltb i 9 l)

module _ (past : List Deed) (r : Repeater) (settled : Settled past r) (linked : Linked past r) (stood : Stood past r) where
  no_port_lem : (i : ℕ) → 9 ≤ i → places_of r ≤ i
  no_port_lem i l = rw settled.nine l

  sent_at : (i : ℕ) → in_t r i ≡ (enabled_by i past && passes_by i past)
  unfolding transmits among
  sent_at i = go (leb 9 i) refl
    where
      go : (a : Bool) → leb 9 i ≡ a → in_t r i ≡ (enabled_by i past && passes_by i past)
      go true e = past_among Transmitting r i (no_port_lem i (leb-true 9 i e)) ∙ rw (none_past past i (leb-true 9 i e))
      go false e =
          let l : i < 9 = leb-false 9 i e in
          rw (settled.enabled i l, linked i l) (ap (λ (c : Bool). enabled_by i past && c) (aui_passes past i (eqb i aui) refl))

  sent_has : (i : ℕ) → i < 16 → has (sent_to past) i ≡ in_t r i
  unfolding sent_to
  sent_has i l = has_gather 16 (λ i. enabled_by i past && passes_by i past) i l ∙ sym (sent_at i)

  listened_at : (i : ℕ) → in_l r i ≡ (in_t r i && not (partitioned_by past i))
  unfolding listens among
  listened_at i = go (leb 9 i) refl
    where
      go : (a : Bool) → leb 9 i ≡ a → in_l r i ≡ (in_t r i && not (partitioned_by past i))
      go true e =
          let k = no_port_lem i (leb-true 9 i e) in
          past_among Listening r i k ∙ sym (ap (λ (c : Bool). c && not (partitioned_by past i)) (past_among Transmitting r i k))
      go false e = ap (λ (c : Bool). in_t r i && not c) (partitioned_port past r stood i (leb-false 9 i e))

  listened_has : (i : ℕ) → i < 16 → has (listened_to (sent_to past) (all_events past)) i ≡ in_l r i
  unfolding listened_to partitioned_by
  listened_has i l =
      has_gather 16 (λ i. has (sent_to past) i && not (struck_in (all_events past) i)) i l
      ∙ ap (λ (c : Bool). c && not (struck_in (all_events past) i)) (sent_has i l)
      ∙ sym (listened_at i)

  module _ (b : Burst) where
    pub t_seen : (hearing_of r (activity_of b)).t ≡ sent_to past
    unfolding hearing_of sent_to
    t_seen = gather_same 16 (in_t r) (λ i. enabled_by i past && passes_by i past) (λ i l. sent_at i)

    pub h_seen : (hearing_of r (activity_of b)).h ≡ heard_by past b
    unfolding hearing_of activity_of heard_by heard_at
    h_seen =
        gather_same 16 (in_h r (activity_of b)) (λ i. in_e b i && has (listened_to (sent_to past) (all_events past)) i)
        (λ i l. ap (λ (c : Bool). in_e b i && c) (sym (listened_has i l)))

-- THE BURST

pub burst_seen_lem : (past : List Deed) (r : Repeater) (b : Burst) → Settled past r → Linked past r → Stood past r → b.mask < 512 → BurstSeen past r b
burst_seen_lem past r b settled linked stood l =
    let a = activity_of b in
    let hearing = hearing_of r a in
    let heard = counted r b in
    let low = small r b in
    let t = t_seen past r settled linked stood b in
    let h = h_seen past r settled linked stood b in
    record {
      t = rw (burst_hearing r a) t;
      h = rw (burst_hearing r a) h;
      word = rw (burst_effect r a, ← h) (word_told_lem b hearing heard low);
      out = rw (burst_effect r a, ← h, ← t) (out_told b hearing heard low);
      single = λ i l. rw (burst_effect r a, ← h) (single_told b hearing heard low i l);
      collision = rw (burst_effect r a, ← h) (collision_told b hearing heard low);
      transmit = rw (burst_effect r a, ← h) (transmit_told b hearing heard low);
    }

pub collided_seen : (past : List Deed) (r : Repeater) (b : Burst) → Settled past r → Linked past r → Stood past r → b.mask < 512
    → (i : ℕ) → i < 9 → has (burst_seen r b).effect.collided i ≡ collided_by b (sent_to past) (heard_by past b) i
collided_seen past r b settled linked stood l i k =
    let a = activity_of b in
    let t = t_seen past r settled linked stood b in
    let h = h_seen past r settled linked stood b in
    let wide : i < 16 = omega arith in
    rw (burst_effect r a, ← h, ← t)
    (collided_told b (hearing_of r a) (counted r b) (small r b) i wide (active_seen r b i wide))

pub event_seen : (past : List Deed) (r : Repeater) (b : Burst) → Settled past r → Linked past r → Stood past r
    → (i : ℕ) → i < 9 → burst_event r (activity_of b) i ≡ met_by (alternate_by i past) b (sent_to past) (heard_by past b) i
unfolding burst_event followed_event met_at
event_seen past r b settled linked stood i k =
    let a = activity_of b in
    let t = t_seen past r settled linked stood b in
    let h = h_seen past r settled linked stood b in
    let wide : i < 16 = omega arith in
    rw (← settled.algorithm i k, ← h, ← t)
    (met_told b (hearing_of r a) (counted r b) (small r b) i wide (active_seen r b i wide) (alternate_for r.alternate_aui r.alternate_tp i))
