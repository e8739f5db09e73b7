-- What a deed is to the settings and the link of the port at place i, sorted once for every later proof. A reset is none of these: it makes every port anew.
--   Kind, code      == nothing; a Set of that port, of four; a tick, a link pulse, activity; and a number for each
--   stepped i kind p == the port at place i after it; its partition step, if it has one, has come before
--   bare p          == the port with nothing of its partition
--   AtPort i d p q  == the deed d took the port at place i from p to q: what it was, and what the past sees in it
--   at_port         == every deed but a reset is so
-- Assumes nothing.
use Prim.Native.Nat.{ℕ, zero, suc, ◌+◌, ◌<◌}
use mathlib.Core.Path.{◌≡◌, refl, sym, ap, ◌∙◌}
use mathlib.Core.Bool.{Bool, true, false, cond, ◌&&◌, beq, and-true, and-false, true≢false, false≢true}
use mathlib.Core.List.{List}
use native.Mathlib.Omega.{arith}
use borrow.Author.Tests.{eqb-true, eqb-false, ne_eqb, ltb-true, ltb-false, lt-ltb}
use lib.Dec.{eqb, ltb, lit<}
use Rattle.ports.specs.declared.Quiet.TheVariants.{Pulse, Tick}
use Rattle.ports.specs.Sets.{aui, has}
use Rattle.ports.proofs.Sets.{has_none, and_first, and_second}
use Rattle.management.specs.declared.Query.{Query}
use Rattle.management.specs.declared.Command.{Command}
use Rattle.management.specs.Status.{cleared_by}
use Rattle.management.specs.Commands.{command_of}
use Rattle.port.specs.declared.Port.{Port}
use Rattle.port.specs.declared.Meeting.{Meeting}
use Rattle.port.specs.declared.Change.{Change}
use Rattle.port.specs.declared.Change.TheVariants.{Disabling, EnablingTp, EnablingAui, StoppingTest, StartingTest}
use Rattle.port.specs.Port.{with_partition}
use Rattle.port.specs.Link.{ticked, pulsed, revived, ticked_at, pulsed_at, revived_at}
use Rattle.port.specs.Partition.{partitioning, after_meeting}
use Rattle.port.specs.Settings.{changed}
use Rattle.record.specs.declared.Burst.{Burst}
use Rattle.burst.specs.declared.Activity.{Activity}
use Rattle.burst.specs.declared.Bus.{Bus}
use Rattle.repeater.specs.declared.Repeater.{Repeater}
use Rattle.repeater.specs.Door.{places_of, port_at}
use Rattle.repeater.specs.Hearing.{hearing_of}
use Rattle.repeater.specs.Repeater.{quiet_at, quieted, partitioned_at, met_at, burst_of, changed_at, changed_tp, set_to, got_of}
use Rattle.repeater.proofs.DoorLaws.{port_each, port_put, port_status, port_alternate}
use Rattle.repeater.proofs.Kept.{port_bursted}
use Rattle.himib.specs.Bursts.{activity_of}
use Rattle.past.specs.Deeds.{Deed, bursts, pulses, ticks, commands, uses, resets, refused, is_reset, is_tick, command_in, pulse_mask, burst_mask}
use Rattle.past.specs.Settings.{disabling, enabling, stopping, starting, commanded}
use Rattle.past.specs.Link as link
use Rattle.alone.specs.Doing.{obeying, repeater_by, Proper}
use Rattle.alone.proofs.Listed as byte
use Rattle.alone.proofs.Listed.{GetByte, Byte, listed_byte}

-- ---- What a deed can be to a port

pub data Kind : Type 0 where
  rests disables enables stops starts waits beats stirs : Kind

abbrev pub code : Kind → ℕ
code rests = 0
code disables = 1
code enables = 2
code stops = 3
code starts = 4
code waits = 5
code beats = 6
code stirs = 7

abbrev pub enabling_at : ℕ → Change
enabling_at i = cond (eqb i aui) EnablingAui EnablingTp

abbrev pub stepped : ℕ → Kind → Port → Port
stepped i rests p = p
stepped i disables p = changed Disabling p
stepped i enables p = changed (enabling_at i) p
stepped i stops p = changed StoppingTest p
stepped i starts p = changed StartingTest p
stepped i waits p = ticked p
stepped i beats p = pulsed p
stepped i stirs p = revived p

abbrev pub bare : Port → Port
bare p = with_partition p false 0

pub record AtPort (i : ℕ) (d : Deed) (p q : Port) : Type 0 where
  pub kind : Kind
  pub met : Port
  pub same : bare met ≡ bare p
  pub after : q ≡ stepped i kind met
  pub tp : ltb 2 (code kind) ≡ true → i < aui
  pub reset : is_reset d ≡ false
  pub disabled : commanded (disabling i) d ≡ eqb (code kind) 1
  pub enabled : commanded (enabling i) d ≡ eqb (code kind) 2
  pub stopped : commanded (stopping i) d ≡ eqb (code kind) 3
  pub started : commanded (starting i) d ≡ eqb (code kind) 4
  pub ticked : i < aui → is_tick d ≡ eqb (code kind) 5
  pub pulsed : i < aui → link.pulsed i d ≡ eqb (code kind) 6
  pub active : i < aui → link.active i d ≡ eqb (code kind) 7

-- ---- Which byte is which of a port's Sets, computed

abbrev below : ℕ → (ℕ → Bool) → Bool
below zero f = true
below (suc n) f = f n && below n f

below_at : (n : ℕ) (f : ℕ → Bool) → below n f ≡ true → (i : ℕ) → i < n → f i ≡ true
below_at zero f h i l = absurd (omega arith)
below_at (suc n) f h i l = go (eqb i n) refl (and_first (f n) (below n f) h) (below_at n f (and_second (f n) (below n f) h) i)
  where
    go : (b : Bool) → eqb i n ≡ b → f n ≡ true → (i < n → f i ≡ true) → f i ≡ true
    go true e h k = rw (eqb-true i n e) h
    go false e h k = let ne : i ≡ n → ⊥ = eqb-false i n e in k (omega arith)

beq_true : (a b : Bool) → beq a b ≡ true → a ≡ b
beq_true true true h = refl
beq_true true false h = absurd (false≢true h)
beq_true false true h = absurd (false≢true h)
beq_true false false h = refl

-- at place i the byte c is what the bytes of the n-th kind say, exactly if it is of that kind and i is k
abbrev says : ℕ → Kind → ℕ → (ℕ → ℕ) → ℕ → ℕ → Bool
says c kind k bytes n i = beq (eqb c (bytes i)) (eqb (code kind) n && eqb i k)

abbrev tells : ℕ → Kind → ℕ → ℕ → Bool
tells c kind k i = says c kind k disabling 1 i && (says c kind k enabling 2 i && (says c kind k stopping 3 i && says c kind k starting 4 i))

record Told (c : ℕ) (kind : Kind) (b : Bool) (i : ℕ) : Type 0 where
  off : eqb c (disabling i) ≡ (eqb (code kind) 1 && b)
  on : eqb c (enabling i) ≡ (eqb (code kind) 2 && b)
  stop : eqb c (stopping i) ≡ (eqb (code kind) 3 && b)
  start : eqb c (starting i) ≡ (eqb (code kind) 4 && b)

told : (c : ℕ) (kind : Kind) (k i : ℕ) → tells c kind k i ≡ true → Told c kind (eqb i k) i
told c kind k i h =
    let w : Bool = says c kind k disabling 1 i in
    let x : Bool = says c kind k enabling 2 i in
    let y : Bool = says c kind k stopping 3 i in
    let z : Bool = says c kind k starting 4 i in
    let h2 = and_second w (x && (y && z)) h in
    let h3 = and_second x (y && z) h2 in
    record {
      off = beq_true (eqb c (disabling i)) (eqb (code kind) 1 && eqb i k) (and_first w (x && (y && z)) h);
      on = beq_true (eqb c (enabling i)) (eqb (code kind) 2 && eqb i k) (and_first x (y && z) h2);
      stop = beq_true (eqb c (stopping i)) (eqb (code kind) 3 && eqb i k) (and_first y z h3);
      start = beq_true (eqb c (starting i)) (eqb (code kind) 4 && eqb i k) (and_second y z h3);
    }

abbrev all_tell : ℕ → Kind → Bool
all_tell first kind = below 8 (λ k. below 9 (λ i. tells (first + k) kind k i))

row_told : (first : ℕ) (kind : Kind) → all_tell first kind ≡ true → (k i : ℕ) → k < 8 → i < 9 → Told (first + k) kind (eqb i k) i
row_told first kind h k i m l =
    told (first + k) kind k i (below_at 9 (λ i. tells (first + k) kind k i) (below_at 8 (λ k. below 9 (λ i. tells (first + k) kind k i)) h k m) i l)

one_told : (c : ℕ) (kind : Kind) (k : ℕ) → below 9 (λ i. tells c kind k i) ≡ true → (i : ℕ) → i < 9 → Told c kind (eqb i k) i
one_told c kind k h i l = told c kind k i (below_at 9 (λ i. tells c kind k i) h i l)

get_told : (c : ℕ) (q : Query) → GetByte c q → (i : ℕ) → i < 9 → Told c rests (eqb i aui) i
get_told c q byte.aui_bsl i l = one_told _ rests aui refl i l
get_told c q byte.aui_sl i l = one_told _ rests aui refl i l
get_told c q byte.aui_b i l = one_told _ rests aui refl i l
get_told c q byte.aui i l = one_told _ rests aui refl i l
get_told c q byte.partition i l = one_told _ rests aui refl i l
get_told c q byte.rates i l = one_told _ rests aui refl i l
get_told c q byte.link i l = one_told _ rests aui refl i l
get_told c q byte.mjlp i l = one_told _ rests aui refl i l
get_told c q byte.version i l = one_told _ rests aui refl i l

-- ---- What deeds are to a port

module _ (i : ℕ) (d : Deed) (p : Port) where
  -- nothing at all
  rested : (q : Port) → bare q ≡ bare p → Told (command_in d) rests (eqb i aui) i → is_reset d ≡ false → (i < aui → is_tick d ≡ false)
      → (i < aui → link.pulsed i d ≡ false) → (i < aui → link.active i d ≡ false) → AtPort i d p q
  rested q e t r w u a = record {
    kind = rests;
    met = q;
    same = e;
    after = refl;
    tp = λ h. absurd (false≢true h);
    reset = r;
    disabled = t.off;
    enabled = t.on;
    stopped = t.stop;
    started = t.start;
    ticked = w;
    pulsed = u;
    active = a;
  }

  -- a deed that is no command, with its kind
  wired : (q : Port) (kind : Kind) (m : Port) → bare m ≡ bare p → q ≡ stepped i kind m → i < aui → Told (command_in d) rests (eqb i aui) i
      → eqb (code kind) 1 ≡ false → eqb (code kind) 2 ≡ false → eqb (code kind) 3 ≡ false → eqb (code kind) 4 ≡ false
      → is_reset d ≡ false → is_tick d ≡ eqb (code kind) 5 → link.pulsed i d ≡ eqb (code kind) 6 → link.active i d ≡ eqb (code kind) 7 → AtPort i d p q
  wired q kind m b e l t k1 k2 k3 k4 r w u a = record {
    kind = kind;
    met = m;
    same = b;
    after = e;
    tp = λ h. l;
    reset = r;
    disabled = t.off ∙ sym k1;
    enabled = t.on ∙ sym k2;
    stopped = t.stop ∙ sym k3;
    started = t.start ∙ sym k4;
    ticked = λ h. w;
    pulsed = λ h. u;
    active = λ h. a;
  }

module _ (i : ℕ) (l : i < 9) (r : Repeater) (nine : places_of r ≡ 9) (g : Bool) where
  changed_port : (how : Change) (k : ℕ) → k < 9 → port_at (changed_at how k r) i ≡ cond (eqb i k) (changed how (port_at r i)) (port_at r i)
  unfolding changed_at
  changed_port how k m = port_put r k (changed how (port_at r k)) i ∙ rw (nine, lt-ltb k 9 m) (go (eqb i k) refl)
    where
      go : (b : Bool) → eqb i k ≡ b → cond (b && true) (changed how (port_at r k)) (port_at r i) ≡ cond b (changed how (port_at r i)) (port_at r i)
      go true e = rw (eqb-true i k e)
      go false e = refl

  changed_tp_port : (how : Change) (k : ℕ) → k < 8 → port_at (changed_tp how k r) i ≡ cond (eqb i k) (changed how (port_at r i)) (port_at r i)
  unfolding changed_tp
  changed_tp_port how k m = rw (lt-ltb k aui m) (changed_port how k (omega arith))

  -- a Set of port k
  named : (c : ℕ) (kind : Kind) (k : ℕ) (b : Bool) → eqb i k ≡ b → Told c kind b i → (q : Port) → q ≡ cond b (stepped i kind (port_at r i)) (port_at r i)
      → (ltb 2 (code kind) ≡ true → k < 8) → eqb (code kind) 5 ≡ false → eqb (code kind) 6 ≡ false → eqb (code kind) 7 ≡ false
      → AtPort i (commands g c) (port_at r i) q
  named c kind k true e t q a n k5 k6 k7 = record {
    kind = kind;
    met = port_at r i;
    same = refl;
    after = a;
    tp = λ h. rw (eqb-true i k e) (n h);
    reset = refl;
    disabled = t.off ∙ and-true (eqb (code kind) 1);
    enabled = t.on ∙ and-true (eqb (code kind) 2);
    stopped = t.stop ∙ and-true (eqb (code kind) 3);
    started = t.start ∙ and-true (eqb (code kind) 4);
    ticked = λ h. sym k5;
    pulsed = λ h. has_none i ∙ sym k6;
    active = λ h. has_none i ∙ sym k7;
  }
  named c kind k false e t q a n k5 k6 k7 = record {
    kind = rests;
    met = port_at r i;
    same = refl;
    after = a;
    tp = λ h. absurd (false≢true h);
    reset = refl;
    disabled = t.off ∙ and-false (eqb (code kind) 1);
    enabled = t.on ∙ and-false (eqb (code kind) 2);
    stopped = t.stop ∙ and-false (eqb (code kind) 3);
    started = t.start ∙ and-false (eqb (code kind) 4);
    ticked = λ h. refl;
    pulsed = λ h. has_none i;
    active = λ h. has_none i;
  }

  set_at : (c : ℕ) (kind : Kind) (k : ℕ) → Told c kind (eqb i k) i → (q : Port) → q ≡ cond (eqb i k) (stepped i kind (port_at r i)) (port_at r i)
      → (ltb 2 (code kind) ≡ true → k < 8) → eqb (code kind) 5 ≡ false → eqb (code kind) 6 ≡ false → eqb (code kind) 7 ≡ false
      → AtPort i (commands g c) (port_at r i) q
  set_at c kind k t q a n k5 k6 k7 = named c kind k (eqb i k) refl t q a n k5 k6 k7

  unnamed : (c : ℕ) → Told c rests (eqb i aui) i → (q : Port) → q ≡ port_at r i → AtPort i (commands g c) (port_at r i) q
  unnamed c t q e = rested i (commands g c) (port_at r i) q (ap bare e) t refl (λ h. refl) (λ h. has_none i) (λ h. has_none i)

  -- enabling is AUI's own at its place, and a TP port's elsewhere
  enabling_aui : (b : Bool) → eqb i aui ≡ b → (p : Port) → cond b (changed EnablingAui p) p ≡ cond b (changed (enabling_at i) p) p
  enabling_aui true e p = rw e
  enabling_aui false e p = refl

  enabling_tp : (k : ℕ) → k < 8 → (b : Bool) → eqb i k ≡ b → (p : Port) → cond b (changed EnablingTp p) p ≡ cond b (changed (enabling_at i) p) p
  enabling_tp k m true e p = let ne : eqb i aui ≡ false = ne_eqb i aui (λ n. omega (arith, eqb-true i k e)) in rw ne
  enabling_tp k m false e p = refl

  at_byte : (c : ℕ) (k : Command) → Byte c k → AtPort i (commands g c) (port_at r i) (port_at (obeying k r) i)
  unfolding set_to got_of
  at_byte c k byte.alternate_aui = unnamed _ (one_told _ rests aui refl i l) _ (port_alternate r true r.alternate_tp i)
  at_byte c k byte.alternate_tp = unnamed _ (one_told _ rests aui refl i l) _ (port_alternate r r.alternate_aui true i)
  at_byte c k byte.disable_aui =
      set_at _ disables aui (one_told _ disables aui refl i l) _ (changed_port Disabling aui (lit< tt)) (λ h. absurd (false≢true h)) refl refl refl
  at_byte c k byte.enable_aui =
      set_at _ enables aui (one_told _ enables aui refl i l) _
      (changed_port EnablingAui aui (lit< tt) ∙ enabling_aui (eqb i aui) refl (port_at r i)) (λ h. absurd (false≢true h)) refl refl refl
  at_byte c k (byte.disable_tp j m) =
      set_at _ disables j (row_told 32 disables refl j i m l) _ (changed_tp_port Disabling j m) (λ h. m) refl refl refl
  at_byte c k (byte.enable_tp j m) =
      set_at _ enables j (row_told 48 enables refl j i m l) _
      (changed_tp_port EnablingTp j m ∙ enabling_tp j m (eqb i j) refl (port_at r i)) (λ h. m) refl refl refl
  at_byte c k (byte.test_off j m) =
      set_at _ stops j (row_told 64 stops refl j i m l) _ (changed_tp_port StoppingTest j m) (λ h. m) refl refl refl
  at_byte c k (byte.test_on j m) =
      set_at _ starts j (row_told 80 starts refl j i m l) _ (changed_tp_port StartingTest j m) (λ h. m) refl refl refl
  at_byte c k (byte.get n q w) = unnamed n (get_told n q w i l) _ (port_status r (cleared_by q r.status) i)

-- a deed that is no command: 0 is none
no_command : (i : ℕ) → i < 9 → Told 0 rests (eqb i aui) i
no_command i l = one_told 0 rests aui refl i l

idle_at : (i : ℕ) → i < 9 → (d : Deed) (p : Port) → command_in d ≡ 0 → is_reset d ≡ false → is_tick d ≡ false → pulse_mask d ≡ 0 → burst_mask d ≡ 0 → AtPort i d p p
idle_at i l d p c r t u a =
    rested i d p p refl (rw c (no_command i l)) r (λ h. t) (λ h. rw u (has_none i)) (λ h. rw a (has_none i))

module _ (i : ℕ) (l : i < 9) (p : Port) where
  at_tick : AtPort i ticks p (ticked_at i p)
  unfolding ticked_at
  at_tick = go (ltb i aui) refl
    where
      go : (a : Bool) → ltb i aui ≡ a → AtPort i ticks p (cond a (ticked p) p)
      go true h = wired i ticks p _ waits p refl refl (ltb-true i aui h) (no_command i l) refl refl refl refl refl refl (has_none i) (has_none i)
      go false h =
          rested i ticks p p refl (no_command i l) refl (λ m. absurd (omega (arith, ltb-false i aui h))) (λ m. has_none i) (λ m. has_none i)

  at_pulse : (mask : ℕ) → AtPort i (pulses mask) p (pulsed_at mask i p)
  unfolding pulsed_at
  at_pulse mask = go (ltb i aui) (has mask i) refl refl
    where
      go : (a b : Bool) → ltb i aui ≡ a → has mask i ≡ b → AtPort i (pulses mask) p (cond a (cond b (pulsed p) p) p)
      go true true h m = wired i (pulses mask) p _ beats p refl refl (ltb-true i aui h) (no_command i l) refl refl refl refl refl refl m (has_none i)
      go true false h m = rested i (pulses mask) p p refl (no_command i l) refl (λ n. refl) (λ n. m) (λ n. has_none i)
      go false b h m =
          rested i (pulses mask) p p refl (no_command i l) refl (λ n. refl) (λ n. absurd (omega (arith, ltb-false i aui h))) (λ n. has_none i)

  -- m is the port after its partition step
  at_activity : (b : Burst) (source : List ℕ) (m : Port) → bare m ≡ bare p → AtPort i (bursts b source) p (revived_at b.mask i m)
  unfolding revived_at
  at_activity b source m e = go (ltb i aui) (has b.mask i) refl refl
    where
      go : (a h : Bool) → ltb i aui ≡ a → has b.mask i ≡ h → AtPort i (bursts b source) p (cond a (cond h (revived m) m) m)
      go true true h n = wired i (bursts b source) p _ stirs m e refl (ltb-true i aui h) (no_command i l) refl refl refl refl refl refl (has_none i) n
      go true false h n = rested i (bursts b source) p m e (no_command i l) refl (λ k. refl) (λ k. has_none i) (λ k. n)
      go false x h n =
          rested i (bursts b source) p m e (no_command i l) refl (λ k. refl) (λ k. has_none i) (λ k. absurd (omega (arith, ltb-false i aui h)))

-- a partition step leaves the rest of the port alone
either : (b : Bool) (p x y : Port) → bare x ≡ bare p → bare y ≡ bare p → bare (cond b x y) ≡ bare p
either true p x y k l = k
either false p x y k l = l

meeting_bare : (m : Meeting) (p : Port) → bare (after_meeting m p) ≡ bare p
unfolding after_meeting
meeting_bare m p =
    either p.partitioned p _ _ (either m.reconnecting p _ p refl refl)
    (either m.collided p _ _ (either (partitioning m p.count) p _ _ refl refl) (either m.clean p _ p refl refl))

partition_bare : (t : ℕ) (m : Meeting) (i : ℕ) (p : Port) → bare (partitioned_at t m i p) ≡ bare p
unfolding partitioned_at
partition_bare t m i p = either (has t i) p (after_meeting m p) p (meeting_bare m p) refl

at_burst : (i : ℕ) → i < 9 → (r : Repeater) → places_of r ≡ 9 → (b : Burst) (source : List ℕ)
    → AtPort i (bursts b source) (port_at r i) (port_at (burst_of r (activity_of b)).repeater i)
unfolding activity_of
at_burst i l r nine b source =
    let activity : Activity = activity_of b in
    let t : ℕ = (hearing_of r activity).t in
    let m : Meeting = met_at r Bus.Nothing (hearing_of r activity) activity i in
    rw (port_bursted r activity i (rw nine l))
    (at_activity i l (port_at r i) b source (partitioned_at t m i (port_at r i)) (partition_bare t m i (port_at r i)))

pub at_port : (i : ℕ) → i < 9 → (r : Repeater) → places_of r ≡ 9 → (d : Deed) → Proper d → is_reset d ≡ false
    → AtPort i d (port_at r i) (port_at (repeater_by d r) i)
unfolding repeater_by quieted
at_port i l r nine (bursts b source) h k = at_burst i l r nine b source
at_port i l r nine (pulses mask) h k = rw (port_each r (quiet_at (Pulse mask)) i (rw nine l)) (at_pulse i l (port_at r i) mask)
at_port i l r nine ticks h k = rw (port_each r (quiet_at Tick) i (rw nine l)) (at_tick i l (port_at r i))
at_port i l r nine (commands g c) h k = at_byte i l r nine g c (command_of c) (listed_byte c h)
at_port i l r nine (uses u) h k = idle_at i l (uses u) (port_at r i) refl refl refl refl refl
at_port i l r nine resets h k = absurd (true≢false k)
at_port i l r nine (refused n) h k = idle_at i l (refused n) (port_at r i) refl refl refl refl refl
