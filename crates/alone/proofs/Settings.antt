-- Document 01, 'Commands', the Sets: every port is left with the settings that the past tells. Assumes nothing.
--   enabled_next, tested_next, alternate_next == the settings that a past tells, one deed on, which is no reset
--   untested     == AUI has no link test
--   stepped_enabled, stepped_tested == the settings of a port after what a deed is to it
--   enabled_at_lem, tested_at == so they are the past's if they were
--   Algorithms, algorithms == what a deed makes of the two algorithms
--   places_kept  == no deed changes the number of places
--   settled_up   == at power-up
--   settled_next == and after every deed
use Prim.Native.Nat.{ℕ, ◌+◌, ◌≤◌, ◌<◌}
use mathlib.Core.Path.{◌≡◌, refl, sym, ap, ◌∙◌}
use mathlib.Core.Bool.{Bool, true, false, cond, not, ◌&&◌, ◌||◌, and-true, or-true, true≢false}
use mathlib.Core.List.{List, [], ◌∷◌}
use native.Mathlib.Omega.{arith}
use borrow.Author.Tests.{ne_eqb, lt-ltb, le-ltb, ltb-true, ltb-false}
use lib.Dec.{eqb, ltb}
use Rattle.ports.specs.declared.Quiet.TheVariants.{Pulse, Tick}
use Rattle.ports.specs.Sets.{aui, port_count, has}
use Rattle.management.specs.declared.Command.{Command}
use Rattle.management.specs.declared.Command.TheVariants.{Set, Get, Unlisted}
use Rattle.management.specs.Commands.{command_of}
use Rattle.port.specs.declared.Port.{Port}
use Rattle.port.specs.declared.Change.{Change}
use Rattle.port.specs.declared.Change.TheVariants.{Disabling, EnablingTp, EnablingAui, StoppingTest, StartingTest}
use Rattle.port.specs.Link.{ticked_at, pulsed_at, revived_at}
use Rattle.port.specs.Settings.{changed}
use Rattle.port.proofs.Kept.{ticked_at_keeps, pulsed_at_keeps, revived_at_keeps}
use Rattle.repeater.specs.declared.Repeater.{Repeater}
use Rattle.repeater.specs.Door.{places_of, port_at, put_at, each_port}
use Rattle.repeater.specs.Reset.{power_up}
use Rattle.repeater.specs.Repeater.{quieted, alternate_for, followed, burst_of, changed_at, changed_tp, set_to, got_of}
use Rattle.repeater.proofs.DoorLaws.{places_up, up_every}
use Rattle.repeater.proofs.Kept.{places_quieted, places_bursted, places_set, places_got}
use Rattle.himib.specs.Bursts.{activity_of}
use Rattle.past.specs.Deeds.{Deed, bursts, pulses, ticks, commands, uses, resets, refused, is_reset, command_in}
use Rattle.past.specs.Since.{came_since}
use Rattle.past.specs.Settings.{disabling, enabling, stopping, starting, alternating, commanded, enabled_by, tested_by, alternate_by}
use Rattle.alone.specs.Doing.{obeying, repeater_by, Proper}
use Rattle.alone.specs.Seen.{Settled}
use Rattle.alone.proofs.Listed as byte
use Rattle.alone.proofs.Listed.{Byte, listed_byte, get_high}
use Rattle.alone.proofs.AtPort.{Kind, rests, disables, enables, stops, starts, waits, beats, stirs, code, stepped, AtPort, at_port}

-- ---- The settings that a past tells, one deed on

-- off is what came last, unless on came after it
switched : (on off was : Bool) → not (not (on || false) && (off || was)) ≡ cond on true (cond off false (not was))
switched true off was = refl
switched false true was = refl
switched false false was = refl

module _ (i : ℕ) (d : Deed) (past : List Deed) (k : is_reset d ≡ false) where
  pub enabled_next : i < 9 → enabled_by i (d ∷ past) ≡ cond (commanded (enabling i) d) true (cond (commanded (disabling i) d) false (enabled_by i past))
  unfolding enabled_by came_since
  enabled_next l =
      rw (lt-ltb i port_count l, k)
      (switched (commanded (enabling i) d) (commanded (disabling i) d)
      (came_since (λ before d. commanded (disabling i) d) (λ before d. commanded (enabling i) d || is_reset d) past))

  pub tested_next : i < aui → tested_by i (d ∷ past) ≡ cond (commanded (starting i) d) true (cond (commanded (stopping i) d) false (tested_by i past))
  unfolding tested_by came_since
  tested_next l =
      rw (lt-ltb i aui l, k)
      (switched (commanded (starting i) d) (commanded (stopping i) d)
      (came_since (λ before d. commanded (stopping i) d) (λ before d. commanded (starting i) d || is_reset d) past))

  pub alternate_next : alternate_by i (d ∷ past) ≡ (commanded (alternating i) d || alternate_by i past)
  unfolding alternate_by came_since
  alternate_next = rw k

-- AUI has no link test
pub untested : (i : ℕ) (past : List Deed) → aui ≤ i → tested_by i past ≡ false
unfolding tested_by
untested i past h = rw (le-ltb i aui h)

-- ---- What a port has after a deed

-- a port with these two settings
abbrev setting_of : Bool → Bool → Port → Port
setting_of enabled test p =
    record {
      enabled = enabled;
      link_test = test;
      link_pass = p.link_pass;
      idle = p.idle;
      pulses = p.pulses;
      partitioned = p.partitioned;
      count = p.count;
    }

pub stepped_enabled : (i : ℕ) (kind : Kind) (p : Port) → (stepped i kind p).enabled ≡ cond (eqb (code kind) 2) true (cond (eqb (code kind) 1) false p.enabled)
unfolding changed ticked_at pulsed_at revived_at has
stepped_enabled i rests p = refl
stepped_enabled i disables p = go p.enabled
  where
    go : (e : Bool) → (changed Disabling (setting_of e p.link_test p)).enabled ≡ false
    go true = refl
    go false = refl
stepped_enabled i enables p = go (eqb i aui) p.enabled p.link_test
  where
    go : (a e t : Bool) → (changed (cond a EnablingAui EnablingTp) (setting_of e t p)).enabled ≡ true
    go true e t = refl
    go false true t = refl
    go false false true = refl
    go false false false = refl
stepped_enabled i stops p = go p.link_test
  where
    go : (t : Bool) → (changed StoppingTest (setting_of p.enabled t p)).enabled ≡ p.enabled
    go true = refl
    go false = refl
stepped_enabled i starts p = go p.link_test
  where
    go : (t : Bool) → (changed StartingTest (setting_of p.enabled t p)).enabled ≡ p.enabled
    go true = refl
    go false = refl
stepped_enabled i waits p = ticked_at_keeps (λ (p : Port). p.enabled) (λ p pass idle pulses. refl) 0 p
stepped_enabled i beats p = pulsed_at_keeps (λ (p : Port). p.enabled) (λ p pass idle pulses. refl) 1 0 p
stepped_enabled i stirs p = revived_at_keeps (λ (p : Port). p.enabled) (λ p pass idle pulses. refl) 1 0 p

pub stepped_tested : (i : ℕ) (kind : Kind) (p : Port)
    → (stepped i kind p).link_test ≡ cond (eqb (code kind) 4) true (cond (eqb (code kind) 3) false p.link_test)
unfolding changed ticked_at pulsed_at revived_at has
stepped_tested i rests p = refl
stepped_tested i disables p = go p.enabled
  where
    go : (e : Bool) → (changed Disabling (setting_of e p.link_test p)).link_test ≡ p.link_test
    go true = refl
    go false = refl
stepped_tested i enables p = go (eqb i aui) p.enabled p.link_test
  where
    go : (a e t : Bool) → (changed (cond a EnablingAui EnablingTp) (setting_of e t p)).link_test ≡ t
    go true e t = refl
    go false true t = refl
    go false false true = refl
    go false false false = refl
stepped_tested i stops p = go p.link_test
  where
    go : (t : Bool) → (changed StoppingTest (setting_of p.enabled t p)).link_test ≡ false
    go true = refl
    go false = refl
stepped_tested i starts p = go p.link_test
  where
    go : (t : Bool) → (changed StartingTest (setting_of p.enabled t p)).link_test ≡ true
    go true = refl
    go false = refl
stepped_tested i waits p = ticked_at_keeps (λ (p : Port). p.link_test) (λ p pass idle pulses. refl) 0 p
stepped_tested i beats p = pulsed_at_keeps (λ (p : Port). p.link_test) (λ p pass idle pulses. refl) 1 0 p
stepped_tested i stirs p = revived_at_keeps (λ (p : Port). p.link_test) (λ p pass idle pulses. refl) 1 0 p

module _ (i : ℕ) (d : Deed) (past : List Deed) (p q : Port) (a : AtPort i d p q) where
  pub enabled_at_lem : i < 9 → p.enabled ≡ enabled_by i past → q.enabled ≡ enabled_by i (d ∷ past)
  enabled_at_lem l e =
      ap (λ (x : Port). x.enabled) a.after ∙ stepped_enabled i a.kind a.met
      ∙ rw (enabled_next i d past a.reset l, a.enabled, a.disabled, ← e, ap (λ (x : Port). x.enabled) a.same)

  tested_tp : i < aui → p.link_test ≡ tested_by i past → q.link_test ≡ tested_by i (d ∷ past)
  tested_tp l e =
      ap (λ (x : Port). x.link_test) a.after ∙ stepped_tested i a.kind a.met
      ∙ rw (tested_next i d past a.reset l, a.started, a.stopped, ← e, ap (λ (x : Port). x.link_test) a.same)

  -- a Set of the link test is at no other place
  tested_aui : (kind : Kind) → aui ≤ i → (ltb 2 (code kind) ≡ true → i < aui)
      → cond (eqb (code kind) 4) true (cond (eqb (code kind) 3) false false) ≡ false
  tested_aui rests l h = refl
  tested_aui disables l h = refl
  tested_aui enables l h = refl
  tested_aui stops l h = refl
  tested_aui starts l h = absurd (omega (arith, h refl))
  tested_aui waits l h = refl
  tested_aui beats l h = refl
  tested_aui stirs l h = refl

  pub tested_at : (b : Bool) → ltb i aui ≡ b → p.link_test ≡ tested_by i past → q.link_test ≡ tested_by i (d ∷ past)
  tested_at true h e = tested_tp (ltb-true i aui h) e
  tested_at false h e =
      let l : aui ≤ i = ltb-false i aui h in
      let off : a.met.link_test ≡ false = ap (λ (x : Port). x.link_test) a.same ∙ e ∙ untested i past l in
      ap (λ (x : Port). x.link_test) a.after ∙ stepped_tested i a.kind a.met
      ∙ ap (λ (t : Bool). cond (eqb (code a.kind) 4) true (cond (eqb (code a.kind) 3) false t)) off
      ∙ tested_aui a.kind l a.tp ∙ sym (untested i (d ∷ past) l)

-- ---- The algorithms

record Algorithms (c : ℕ) (r s : Repeater) : Type 0 where
  for_aui : s.alternate_aui ≡ (eqb c 0b00011111 || r.alternate_aui)
  for_tp : s.alternate_tp ≡ (eqb c 0b00010000 || r.alternate_tp)

module _ (r : Repeater) where
  kept : (c : ℕ) (s : Repeater) → s.alternate_aui ≡ r.alternate_aui → s.alternate_tp ≡ r.alternate_tp → (c ≡ 31 → ⊥) → (c ≡ 16 → ⊥)
      → Algorithms c r s
  kept c s a t n m = record { for_aui = rw (ne_eqb c 31 n) a; for_tp = rw (ne_eqb c 16 m) t }

  -- a Set of a port leaves them alone
  kept_tp : (c : ℕ) (how : Change) (k : ℕ) → 32 ≤ c → Algorithms c r (changed_tp how k r)
  unfolding changed_tp changed_at put_at
  kept_tp c how k l = go (ltb k aui)
    where
      go : (b : Bool) → Algorithms c r (cond b (changed_at how k r) r)
      go true = kept c (changed_at how k r) refl refl (λ e. omega arith) (λ e. omega arith)
      go false = kept c r refl refl (λ e. omega arith) (λ e. omega arith)

  obeyed : (c : ℕ) (k : Command) → Byte c k → Algorithms c r (obeying k r)
  unfolding set_to got_of changed_at put_at
  obeyed c k byte.alternate_aui = record { for_aui = refl; for_tp = refl }
  obeyed c k byte.alternate_tp = record { for_aui = refl; for_tp = refl }
  obeyed c k byte.disable_aui = record { for_aui = refl; for_tp = refl }
  obeyed c k byte.enable_aui = record { for_aui = refl; for_tp = refl }
  obeyed c k (byte.disable_tp j m) = kept_tp (32 + j) Disabling j (omega arith)
  obeyed c k (byte.enable_tp j m) = kept_tp (48 + j) EnablingTp j (omega arith)
  obeyed c k (byte.test_off j m) = kept_tp (64 + j) StoppingTest j (omega arith)
  obeyed c k (byte.test_on j m) = kept_tp (80 + j) StartingTest j (omega arith)
  obeyed c k (byte.get n q w) = kept n _ refl refl (λ e. omega (arith, get_high n q w)) (λ e. omega (arith, get_high n q w))

  algorithms : (d : Deed) → Proper d → is_reset d ≡ false → Algorithms (command_in d) r (repeater_by d r)
  unfolding repeater_by burst_of followed quieted each_port
  algorithms (bursts b source) h k = record { for_aui = refl; for_tp = refl }
  algorithms (pulses mask) h k = record { for_aui = refl; for_tp = refl }
  algorithms ticks h k = record { for_aui = refl; for_tp = refl }
  algorithms (commands g c) h k = obeyed c (command_of c) (listed_byte c h)
  algorithms (uses u) h k = record { for_aui = refl; for_tp = refl }
  algorithms resets h k = absurd (true≢false k)
  algorithms (refused n) h k = record { for_aui = refl; for_tp = refl }

chosen : (i c : ℕ) (a t : Bool) → alternate_for (eqb c 31 || a) (eqb c 16 || t) i ≡ (eqb c (alternating i) || alternate_for a t i)
unfolding alternate_for
chosen i c a t = go (eqb i aui)
  where
    go : (b : Bool) → cond b (eqb c 31 || a) (eqb c 16 || t) ≡ (eqb c (cond b 31 16) || cond b a t)
    go true = refl
    go false = refl

-- ---- The promise

obeying_places : (k : Command) (r : Repeater) → places_of (obeying k r) ≡ places_of r
obeying_places (Set s) r = places_set s r
obeying_places (Get q) r = places_got q r
obeying_places Unlisted r = refl

pub places_kept : (d : Deed) (r : Repeater) → is_reset d ≡ false → places_of (repeater_by d r) ≡ places_of r
unfolding repeater_by
places_kept (bursts b source) r k = places_bursted r (activity_of b)
places_kept (pulses mask) r k = places_quieted (Pulse mask) r
places_kept ticks r k = places_quieted Tick r
places_kept (commands g c) r k = obeying_places (command_of c) r
places_kept (uses u) r k = refl
places_kept resets r k = absurd (true≢false k)
places_kept (refused n) r k = refl

on_up : (i : ℕ) → i < 9 → (port_at power_up i).enabled ≡ true
on_up i l = up_every (λ i p. p.enabled ≡ true) (λ i n. refl) refl i l

tested_up : (i : ℕ) → i < 9 → (port_at power_up i).link_test ≡ ltb i aui
tested_up i l = up_every (λ i p. i < 9 → p.link_test ≡ ltb i aui) (λ i n m. sym (lt-ltb i aui (omega arith))) (λ m. refl) i l l

standard : (i : ℕ) → alternate_for false false i ≡ false
unfolding alternate_for
standard i = go (eqb i aui)
  where
    go : (b : Bool) → cond b false false ≡ false
    go true = refl
    go false = refl

-- a past that begins anew
module _ (past : List Deed) (i : ℕ) where
  enabled_anew : enabled_by i (resets ∷ past) ≡ (ltb i port_count && true)
  unfolding enabled_by came_since
  enabled_anew = rw (or-true (eqb 0 (enabling i)))

  tested_anew : tested_by i (resets ∷ past) ≡ (ltb i aui && true)
  unfolding tested_by came_since
  tested_anew = rw (or-true (eqb 0 (starting i)))

  alternate_anew : alternate_by i (resets ∷ past) ≡ false
  unfolding alternate_by came_since
  alternate_anew = refl

settled_anew : (past : List Deed) → Settled (resets ∷ past) power_up
settled_anew past = record {
  nine = places_up;
  enabled = λ i l. on_up i l ∙ sym (enabled_anew past i ∙ and-true (ltb i port_count) ∙ lt-ltb i port_count l);
  tested = λ i l. tested_up i l ∙ sym (tested_anew past i ∙ and-true (ltb i aui));
  algorithm = λ i l. standard i ∙ sym (alternate_anew past i);
}

pub settled_up : Settled [] power_up
unfolding enabled_by tested_by alternate_by came_since
settled_up = record {
  nine = places_up;
  enabled = λ i l. on_up i l ∙ sym (and-true (ltb i port_count) ∙ lt-ltb i port_count l);
  tested = λ i l. tested_up i l ∙ sym (and-true (ltb i aui));
  algorithm = λ i l. standard i;
}

settled_on : (past : List Deed) (d : Deed) (r : Repeater) → Proper d → is_reset d ≡ false → Settled past r → Settled (d ∷ past) (repeater_by d r)
settled_on past d r h k s = record {
  nine = places_kept d r k ∙ s.nine;
  enabled = λ i l. enabled_at_lem i d past (port_at r i) (port_at (repeater_by d r) i) (at_port i l r s.nine d h k) l (s.enabled i l);
  tested = λ i l. tested_at i d past (port_at r i) (port_at (repeater_by d r) i) (at_port i l r s.nine d h k) (ltb i aui) refl (s.tested i l);
  algorithm = λ i l.
      let a : Algorithms (command_in d) r (repeater_by d r) = algorithms r d h k in
      rw (a.for_aui, a.for_tp, alternate_next i d past k, ← s.algorithm i l) (chosen i (command_in d) r.alternate_aui r.alternate_tp);
}

pub settled_next : (past : List Deed) (d : Deed) (r : Repeater) → Proper d → Settled past r → Settled (d ∷ past) (repeater_by d r)
unfolding repeater_by
settled_next past (bursts b source) r h s = settled_on past (bursts b source) r h refl s
settled_next past (pulses mask) r h s = settled_on past (pulses mask) r h refl s
settled_next past ticks r h s = settled_on past ticks r h refl s
settled_next past (commands g c) r h s = settled_on past (commands g c) r h refl s
settled_next past (uses u) r h s = settled_on past (uses u) r h refl s
settled_next past resets r h s = settled_anew past
settled_next past (refused n) r h s = settled_on past (refused n) r h refl s
