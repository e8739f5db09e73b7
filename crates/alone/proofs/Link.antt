-- Document 01, 'Link (TP)': every TP port's link passes exactly if the past says so, whether the port is enabled or not; AUI's always passes. Assumes nothing.
--   Kept i past test pass idle pulses == what is kept of a TP port's link and its past: a link under test passes if it was raised and not broken since; idle
--                    are the silent ticks of one that passes; and a train of pulses of one that fails is as long as its pulses, and as fresh as idle is low
--   up_by i past    == raised, and not broken since; KeptOf i past p == Kept of the link of the port p
--   Turn           == what one more deed makes of the three, by what it was to the port
--   unseen, tick_up, tick_down, pulse_up, pulse_down, active_up, opened_down, started_up == so what each makes of what is kept
--   stepped_kept   == in one, by what the deed is to the port (AtPort)
--   LinkKept past r == all that, for every TP port, and AUI's link passes
--   link_up        == at power-up
--   link_next      == and after every deed
--   linked         == so links pass as the past says
use Prim.Native.Nat.{ℕ, zero, suc, ◌+◌, ◌≤◌, ◌<◌}
use mathlib.Core.Path.{◌≡◌, refl, sym, ap, subst, ◌∙◌}
use mathlib.Core.Bool.{Bool, true, false, cond, not, ◌&&◌, ◌||◌, and-true, and-false, and_comm, or-true}
use mathlib.Core.List.{List, [], ◌∷◌}
use native.Mathlib.Omega.{arith}
use borrow.Author.Tests.{ne_eqb, leb-true, leb-false, le-leb, lt-leb, lt-ltb, le-ltb, ltb-true, ltb-false}
use lib.Dec.{eqb, leb, ltb, lit<, lit≤, leb-zero, leb-suc-zero}
use Rattle.ports.specs.Sets.{aui}
use Rattle.port.specs.declared.Port.{Port}
use Rattle.port.specs.declared.Change.TheVariants.{Disabling, EnablingTp, StoppingTest, StartingTest}
use Rattle.port.specs.Port.{with_link, with_enabled, with_link_test}
use Rattle.port.specs.Link.{ticked, pulsed, revived}
use Rattle.port.specs.Settings.{changed}
use Rattle.port.proofs.Sound.{choose}
use Rattle.repeater.specs.declared.Repeater.{Repeater}
use Rattle.repeater.specs.Door.{port_at}
use Rattle.repeater.specs.Reset.{power_up}
use Rattle.repeater.proofs.DoorLaws.{up_every}
use Rattle.past.specs.Deeds as deed
use Rattle.past.specs.Deeds.{Deed, is_reset, is_tick}
use Rattle.past.specs.Since.{came_since}
use Rattle.past.specs.Settings.{enabled_by, tested_by}
use Rattle.past.specs.Link as link
use Rattle.past.specs.Link.{silent, trained, raises, breaks, passes_by}
use Rattle.alone.specs.Doing.{repeater_by, Proper}
use Rattle.alone.specs.Seen.{Settled, Linked}
use Rattle.alone.proofs.AtPort.{Kind, rests, disables, enables, stops, starts, waits, beats, stirs, code, stepped, AtPort, at_port}
use Rattle.alone.proofs.Settings.{untested}

-- ---- What is kept

-- raised, and not broken since
abbrev pub up_by : ℕ → List Deed → Bool
up_by i past = came_since (raises i) (breaks i) past

pub data Kept (i : ℕ) (past : List Deed) : Bool → Bool → ℕ → ℕ → Type 0 where
  off : Kept i past false true 0 0
  passing : (idle : ℕ) → up_by i past ≡ true → idle < 100 → ((n : ℕ) → silent i n past ≡ leb n idle)
      → ((n t : ℕ) → 100 ≤ t + idle → trained i (suc n) t past ≡ false) → Kept i past true true idle 0
  failing : (idle pulses : ℕ) → up_by i past ≡ false → idle < 100 → pulses < 4
      → ((n t : ℕ) → trained i (suc n) t past ≡ (leb (suc n) pulses && ltb (t + idle) 100)) → Kept i past true false idle pulses

abbrev pub KeptOf : ℕ → List Deed → Port → Type 0
KeptOf i past p = Kept i past p.link_test p.link_pass p.idle p.pulses

-- ---- One deed on

-- the test is on; the port is opened, its test started, its test stopped; a tick, a pulse, activity
record Turn (i : ℕ) (past : List Deed) (d : Deed) (test opened started stopped tick pulse activity : Bool) : Type 0 where
  up : up_by i (d ∷ past)
      ≡ (not (opened || (test && tick && silent i 99 past))
      && ((started || (test && (activity || (pulse && trained i 3 0 past)))) || up_by i past))
  silence : (n : ℕ) → silent i (suc n) (d ∷ past) ≡ (not (pulse || activity || started) && cond tick (silent i n past) (silent i (suc n) past))
  train : (n t : ℕ) → trained i (suc n) t (d ∷ past)
      ≡ (not (opened || started || stopped)
      && cond tick (trained i (suc n) (t + 1) past) (cond pulse (ltb t 100 && trained i n 0 past) (trained i (suc n) t past)))

turned : (i : ℕ) (past : List Deed) (d : Deed) (test opened started stopped tick pulse activity : Bool)
    → is_reset d ≡ false → tested_by i past ≡ test → link.opened i past d ≡ opened → link.started i past d ≡ started → link.stopped i past d ≡ stopped
    → is_tick d ≡ tick → link.pulsed i d ≡ pulse → link.active i d ≡ activity
    → Turn i past d test opened started stopped tick pulse activity
unfolding came_since raises breaks silent trained
turned i past d test opened started stopped tick pulse activity z t o s x w u a = record {
  up = rw (z, o, s, t, w, u, a);
  silence = λ n. rw (w, u, a, s);
  train = λ n k. rw (z, o, s, x, w, u);
}

same_leb : (a b c e : ℕ) → (a ≤ b → c ≤ e) → (c ≤ e → a ≤ b) → leb a b ≡ leb c e
same_leb a b c e f g = go (leb a b) (leb c e) refl refl
  where
    go : (x y : Bool) → leb a b ≡ x → leb c e ≡ y → x ≡ y
    go true true h k = refl
    go true false h k = absurd (omega (arith, f (leb-true a b h), leb-false c e k))
    go false true h k = absurd (omega (arith, g (leb-true c e k), leb-false a b h))
    go false false h k = refl

silent_none : (i : ℕ) (past : List Deed) → silent i 0 past ≡ true
unfolding silent
silent_none i past = refl

trained_none : (i t : ℕ) (past : List Deed) → trained i 0 t past ≡ true
unfolding trained
trained_none i t past = refl

-- nothing is a train of a link that has no pulses, or whose idle is high
no_pulses : (n t idle : ℕ) → (leb (suc n) 0 && ltb (t + idle) 100) ≡ false
no_pulses n t idle = rw (leb-suc-zero n)

stale : (n t idle pulses : ℕ) → 100 ≤ t + idle → (leb (suc n) pulses && ltb (t + idle) 100) ≡ false
stale n t idle pulses h = rw (le-ltb (t + idle) 100 h) (and-false (leb (suc n) pulses))

module _ (i : ℕ) (past : List Deed) (d : Deed) where
  -- a deed that none of the three sees
  unseen : (test pass : Bool) (idle pulses : ℕ) → Turn i past d test false false false false false false → Kept i past test pass idle pulses
      → Kept i (d ∷ past) test pass idle pulses
  unseen test pass idle pulses w off = off
  unseen test pass idle pulses w (passing n up low quiet old) =
      passing n (w.up ∙ up) low (λ k. still k) (λ k t h. w.train k t ∙ old k t h)
    where
      still : (k : ℕ) → silent i k (d ∷ past) ≡ leb k n
      still zero = silent_none i (d ∷ past) ∙ sym (leb-zero n)
      still (suc k) = w.silence k ∙ quiet (suc k)
  unseen test pass idle pulses w (failing n m up low few train) = failing n m (w.up ∙ up) low few (λ k t. w.train k t ∙ train k t)

  -- a link that is up, with nothing silent yet
  fresh : up_by i (d ∷ past) ≡ true → ((n : ℕ) → silent i (suc n) (d ∷ past) ≡ false) → ((n t : ℕ) → 100 ≤ t → trained i (suc n) t (d ∷ past) ≡ false)
      → Kept i (d ∷ past) true true 0 0
  fresh up loud old = passing 0 up (lit< tt) (λ k. still k) (λ n t h. old n t (omega arith))
    where
      still : (k : ℕ) → silent i k (d ∷ past) ≡ leb k 0
      still zero = silent_none i (d ∷ past)
      still (suc k) = loud k ∙ sym (leb-suc-zero k)

  -- a link that is down, with no pulse yet
  down : up_by i (d ∷ past) ≡ false → ((n t : ℕ) → trained i (suc n) t (d ∷ past) ≡ false) → Kept i (d ∷ past) true false 0 0
  down up none = failing 0 0 up (lit< tt) (lit< tt) (λ n t. none n t ∙ sym (no_pulses n t 0))

  -- ticks
  module _ (w : Turn i past d true false false false true false false) where
    tick_up : (idle : ℕ) (b : Bool) → leb 100 (idle + 1) ≡ b → up_by i past ≡ true → ((n : ℕ) → silent i n past ≡ leb n idle)
        → ((n t : ℕ) → 100 ≤ t + idle → trained i (suc n) t past ≡ false) → Kept i (d ∷ past) true (not b) (cond b 0 (idle + 1)) 0
    tick_up idle true h up quiet old =
        down (w.up ∙ rw (quiet 99, le-leb 99 idle (omega (arith, leb-true 100 (idle + 1) h))))
        (λ n t. w.train n t ∙ old n (t + 1) (omega (arith, leb-true 100 (idle + 1) h)))
    tick_up idle false h up quiet old =
        passing (idle + 1) (w.up ∙ rw (quiet 99, lt-leb 99 idle (omega (arith, leb-false 100 (idle + 1) h))) up) (leb-false 100 (idle + 1) h) (λ k. still k)
        (λ n t m. w.train n t ∙ old n (t + 1) (omega arith))
      where
        still : (k : ℕ) → silent i k (d ∷ past) ≡ leb k (idle + 1)
        still zero = silent_none i (d ∷ past) ∙ sym (leb-zero (idle + 1))
        still (suc k) = w.silence k ∙ quiet k ∙ same_leb k idle (suc k) (idle + 1) (λ l. omega arith) (λ l. omega arith)

    tick_down : (idle pulses : ℕ) (b : Bool) → leb 100 (idle + 1) ≡ b → up_by i past ≡ false → pulses < 4
        → ((n t : ℕ) → trained i (suc n) t past ≡ (leb (suc n) pulses && ltb (t + idle) 100))
        → Kept i (d ∷ past) true false (cond b 0 (idle + 1)) (cond b 0 pulses)
    tick_down idle pulses true h up few train =
        down (w.up ∙ rw up (and-false (not (silent i 99 past))))
        (λ n t. w.train n t ∙ train n (t + 1) ∙ stale n (t + 1) idle pulses (omega (arith, leb-true 100 (idle + 1) h)))
    tick_down idle pulses false h up few train =
        failing (idle + 1) pulses (w.up ∙ rw up (and-false (not (silent i 99 past)))) (leb-false 100 (idle + 1) h) few
        (λ n t. let e : t + 1 + idle ≡ t + (idle + 1) = omega arith in
        w.train n t ∙ train n (t + 1) ∙ ap (λ (k : ℕ). leb (suc n) pulses && ltb k 100) e)

  -- pulses
  module _ (w : Turn i past d true false false false false true false) where
    beat : (n t : ℕ) → 100 ≤ t → trained i (suc n) t (d ∷ past) ≡ false
    beat n t h = w.train n t ∙ rw (le-ltb t 100 h)

    pulse_up : up_by i past ≡ true → Kept i (d ∷ past) true true 0 0
    pulse_up up = fresh (w.up ∙ rw up (or-true (trained i 3 0 past))) (λ n. w.silence n) beat

    pulse_down : (idle pulses : ℕ) (b : Bool) → leb 4 (pulses + 1) ≡ b → up_by i past ≡ false → idle < 100 → pulses < 4
        → ((n t : ℕ) → trained i (suc n) t past ≡ (leb (suc n) pulses && ltb (t + idle) 100)) → Kept i (d ∷ past) true b 0 (cond b 0 (pulses + 1))
    pulse_down idle pulses true h up low few train =
        fresh (w.up ∙ rw (train 2 0, le-leb 3 pulses (omega (arith, leb-true 4 (pulses + 1) h)), lt-ltb (0 + idle) 100 (omega arith)))
        (λ n. w.silence n) beat
    pulse_down idle pulses false h up low few train =
        failing 0 (pulses + 1) (w.up ∙ rw (train 2 0, lt-leb 3 pulses (omega (arith, leb-false 4 (pulses + 1) h)), up)) (lit< tt)
        (leb-false 4 (pulses + 1) h) (λ n t. w.train n t ∙ go n t)
      where
        go : (n t : ℕ) → (ltb t 100 && trained i n 0 past) ≡ (leb (suc n) (pulses + 1) && ltb (t + 0) 100)
        go zero t =
            let e : t + 0 ≡ t = omega arith in
            rw (e, le-leb 1 (pulses + 1) (omega arith), trained_none i 0 past) (and-true (ltb t 100))
        go (suc n) t =
            let e : t + 0 ≡ t = omega arith in
            rw (e, train n 0, lt-ltb (0 + idle) 100 (omega arith), and-true (leb (suc n) pulses))
            (and_comm (ltb t 100) (leb (suc n) pulses)
            ∙ ap (λ (b : Bool). b && ltb t 100) (same_leb (suc n) pulses (suc (suc n)) (pulses + 1) (λ l. omega arith) (λ l. omega arith)))

  -- activity
  active_up : Turn i past d true false false false false false true → ((n t : ℕ) → 100 ≤ t → trained i (suc n) t past ≡ false) → Kept i (d ∷ past) true true 0 0
  active_up w old = fresh w.up (λ n. w.silence n) (λ n t h. w.train n t ∙ old n t h)

  -- an opening
  opened_down : Turn i past d true true false false false false false → Kept i (d ∷ past) true false 0 0
  opened_down w = down w.up (λ n t. w.train n t)

  -- a test that starts
  started_up : Turn i past d false false true false false false false → Kept i (d ∷ past) true true 0 0
  started_up w = fresh w.up (λ n. w.silence n) (λ n t h. w.train n t)

-- ---- What each deed makes of a port

-- a port with these settings and this link
abbrev made : Bool → Bool → Bool → ℕ → ℕ → Port → Port
made enabled test pass idle pulses p = with_link (with_link_test (with_enabled p enabled) test) pass idle pulses

-- what a deed of this kind is to a port with these settings
abbrev TurnOf : ℕ → List Deed → Deed → Kind → Bool → Bool → Type 0
TurnOf i past d kind enabled test =
    Turn i past d test (eqb (code kind) 2 && not enabled && test) (eqb (code kind) 4 && not test) (eqb (code kind) 3 && test)
    (eqb (code kind) 5) (eqb (code kind) 6) (eqb (code kind) 7)

module _ (i : ℕ) (past : List Deed) (d : Deed) (p : Port) where
  disabled_kept : (e t pass : Bool) (idle pulses : ℕ) → TurnOf i past d disables e t → Kept i past t pass idle pulses
      → KeptOf i (d ∷ past) (changed Disabling (made e t pass idle pulses p))
  unfolding changed
  disabled_kept true t pass idle pulses w k = unseen i past d t pass idle pulses w k
  disabled_kept false t pass idle pulses w k = unseen i past d t pass idle pulses w k

  enabled_kept : (e t pass : Bool) (idle pulses : ℕ) → TurnOf i past d enables e t → Kept i past t pass idle pulses
      → KeptOf i (d ∷ past) (changed EnablingTp (made e t pass idle pulses p))
  unfolding changed
  enabled_kept true t pass idle pulses w k = unseen i past d t pass idle pulses w k
  enabled_kept false true pass idle pulses w k = opened_down i past d w
  enabled_kept false false pass idle pulses w k = unseen i past d false pass idle pulses w k

  stopped_kept : (e t pass : Bool) (idle pulses : ℕ) → TurnOf i past d stops e t → Kept i past t pass idle pulses
      → KeptOf i (d ∷ past) (changed StoppingTest (made e t pass idle pulses p))
  unfolding changed
  stopped_kept e true pass idle pulses w k = off
  stopped_kept e false pass idle pulses w k = unseen i past d false pass idle pulses w k

  started_kept : (e t pass : Bool) (idle pulses : ℕ) → TurnOf i past d starts e t → Kept i past t pass idle pulses
      → KeptOf i (d ∷ past) (changed StartingTest (made e t pass idle pulses p))
  unfolding changed
  started_kept e true pass idle pulses w k = unseen i past d true pass idle pulses w k
  started_kept e false pass idle pulses w k = started_up i past d w

  ticked_kept : (e t pass : Bool) (idle pulses : ℕ) → TurnOf i past d waits e t → Kept i past t pass idle pulses
      → KeptOf i (d ∷ past) (ticked (made e t pass idle pulses p))
  unfolding ticked
  ticked_kept e t pass idle pulses w off = off
  ticked_kept e t pass idle pulses w (passing n up low quiet old) =
      choose (KeptOf i (d ∷ past)) (leb 100 (n + 1)) _ _
      (λ h. tick_up i past d w n true h up quiet old) (λ h. tick_up i past d w n false h up quiet old)
  ticked_kept e t pass idle pulses w (failing n m up low few train) =
      choose (KeptOf i (d ∷ past)) (leb 100 (n + 1)) _ _
      (λ h. tick_down i past d w n m true h up few train) (λ h. tick_down i past d w n m false h up few train)

  pulsed_kept : (e t pass : Bool) (idle pulses : ℕ) → TurnOf i past d beats e t → Kept i past t pass idle pulses
      → KeptOf i (d ∷ past) (pulsed (made e t pass idle pulses p))
  unfolding pulsed
  pulsed_kept e t pass idle pulses w off = off
  pulsed_kept e t pass idle pulses w (passing n up low quiet old) = pulse_up i past d w up
  pulsed_kept e t pass idle pulses w (failing n m up low few train) =
      choose (KeptOf i (d ∷ past)) (leb 4 (m + 1)) _ _
      (λ h. pulse_down i past d w n m true h up low few train) (λ h. pulse_down i past d w n m false h up low few train)

  revived_kept : (e t pass : Bool) (idle pulses : ℕ) → TurnOf i past d stirs e t → Kept i past t pass idle pulses
      → KeptOf i (d ∷ past) (revived (made e t pass idle pulses p))
  unfolding revived
  revived_kept e t pass idle pulses w off = off
  revived_kept e t pass idle pulses w (passing n up low quiet old) = active_up i past d w (λ k t h. old k t (omega arith))
  revived_kept e t pass idle pulses w (failing n m up low few train) =
      active_up i past d w (λ k t h. train k t ∙ stale k t n m (omega arith))

  stepped_kept : i < aui → (kind : Kind) → TurnOf i past d kind p.enabled p.link_test → KeptOf i past p → KeptOf i (d ∷ past) (stepped i kind p)
  stepped_kept l rests w k = unseen i past d p.link_test p.link_pass p.idle p.pulses w k
  stepped_kept l disables w k = disabled_kept p.enabled p.link_test p.link_pass p.idle p.pulses w k
  stepped_kept l enables w k =
      rw (ne_eqb i aui (λ e. omega arith)) (enabled_kept p.enabled p.link_test p.link_pass p.idle p.pulses w k)
  stepped_kept l stops w k = stopped_kept p.enabled p.link_test p.link_pass p.idle p.pulses w k
  stepped_kept l starts w k = started_kept p.enabled p.link_test p.link_pass p.idle p.pulses w k
  stepped_kept l waits w k = ticked_kept p.enabled p.link_test p.link_pass p.idle p.pulses w k
  stepped_kept l beats w k = pulsed_kept p.enabled p.link_test p.link_pass p.idle p.pulses w k
  stepped_kept l stirs w k = revived_kept p.enabled p.link_test p.link_pass p.idle p.pulses w k

module _ (i : ℕ) (past : List Deed) (d : Deed) (p q : Port) (a : AtPort i d p q) where
  -- what the deed is to the port, by the settings that the past tells
  turn_at : i < aui → p.enabled ≡ enabled_by i past → p.link_test ≡ tested_by i past → TurnOf i past d a.kind a.met.enabled a.met.link_test
  turn_at l e t =
      let on : a.met.enabled ≡ enabled_by i past = ap (λ (x : Port). x.enabled) a.same ∙ e in
      let test : a.met.link_test ≡ tested_by i past = ap (λ (x : Port). x.link_test) a.same ∙ t in
      turned i past d _ _ _ _ _ _ _ a.reset (sym test)
      (rw (on, test, a.enabled))
      (rw (test, a.started))
      (rw (test, a.stopped))
      (a.ticked l) (a.pulsed l) (a.active l)

  kept_at : i < aui → p.enabled ≡ enabled_by i past → p.link_test ≡ tested_by i past → KeptOf i past p → KeptOf i (d ∷ past) q
  kept_at l e t k =
      subst (λ (x : Port). KeptOf i (d ∷ past) x) (sym a.after)
      (stepped_kept i past d a.met l a.kind (turn_at l e t) (subst (λ (x : Port). KeptOf i past x) (sym a.same) k))

-- ---- AUI's link

aui_stepped : (kind : Kind) (p : Port) → (ltb 2 (code kind) ≡ true → aui < aui) → (stepped aui kind p).link_pass ≡ p.link_pass
unfolding changed
aui_stepped rests p h = refl
aui_stepped disables p h = go p.enabled
  where
    go : (e : Bool) → (changed Disabling (made e p.link_test p.link_pass p.idle p.pulses p)).link_pass ≡ p.link_pass
    go true = refl
    go false = refl
aui_stepped enables p h = refl
aui_stepped stops p h = absurd (omega (arith, h refl))
aui_stepped starts p h = absurd (omega (arith, h refl))
aui_stepped waits p h = absurd (omega (arith, h refl))
aui_stepped beats p h = absurd (omega (arith, h refl))
aui_stepped stirs p h = absurd (omega (arith, h refl))

aui_at : (d : Deed) (p q : Port) → AtPort aui d p q → q.link_pass ≡ p.link_pass
aui_at d p q a =
    ap (λ (x : Port). x.link_pass) a.after ∙ aui_stepped a.kind a.met a.tp ∙ ap (λ (x : Port). x.link_pass) a.same

-- ---- The promise

pub record LinkKept (past : List Deed) (r : Repeater) : Type 0 where
  pub tp : (i : ℕ) → i < aui → KeptOf i past (port_at r i)
  pub last : (port_at r aui).link_pass ≡ true

-- at power-up a link is down and has no pulse
kept_up : (past : List Deed) → ((i : ℕ) → up_by i past ≡ false) → ((i n t : ℕ) → trained i (suc n) t past ≡ false) → LinkKept past power_up
kept_up past up none = record {
  tp = λ i l. up_every (λ j p. j < aui → KeptOf j past p)
      (λ j n m. failing 0 0 (up j) (lit< tt) (lit< tt) (λ k t. none j k t ∙ sym (no_pulses k t 0))) (λ m. absurd (omega arith)) i (omega arith) l;
  last = up_every (λ j p. j ≡ aui → p.link_pass ≡ true) (λ j n e. absurd (n e)) (λ e. refl) aui (lit< tt) refl;
}

pub link_up : LinkKept [] power_up
unfolding came_since trained
link_up = kept_up [] (λ i. refl) (λ i n t. refl)

link_anew : (past : List Deed) → LinkKept (deed.resets ∷ past) power_up
unfolding came_since trained breaks
link_anew past = kept_up (deed.resets ∷ past) (λ i. refl) (λ i n t. refl)

link_on : (past : List Deed) (d : Deed) (r : Repeater) → Proper d → is_reset d ≡ false → Settled past r → LinkKept past r → LinkKept (d ∷ past) (repeater_by d r)
link_on past d r h z s k = record {
  tp = λ i l.
      kept_at i past d (port_at r i) (port_at (repeater_by d r) i) (at_port i (omega arith) r s.nine d h z) l (s.enabled i (omega arith))
      (s.tested i (omega arith)) (k.tp i l);
  last = aui_at d (port_at r aui) (port_at (repeater_by d r) aui) (at_port aui (lit< tt) r s.nine d h z) ∙ k.last;
}

pub link_next : (past : List Deed) (d : Deed) (r : Repeater) → Proper d → Settled past r → LinkKept past r → LinkKept (d ∷ past) (repeater_by d r)
unfolding repeater_by
link_next past (deed.bursts b source) r h s k = link_on past (deed.bursts b source) r h refl s k
link_next past (deed.pulses mask) r h s k = link_on past (deed.pulses mask) r h refl s k
link_next past deed.ticks r h s k = link_on past deed.ticks r h refl s k
link_next past (deed.commands g c) r h s k = link_on past (deed.commands g c) r h refl s k
link_next past (deed.uses u) r h s k = link_on past (deed.uses u) r h refl s k
link_next past deed.resets r h s k = link_anew past
link_next past (deed.refused n) r h s k = link_on past (deed.refused n) r h refl s k

passes : (i : ℕ) (past : List Deed) (test pass : Bool) (idle pulses : ℕ) → test ≡ tested_by i past → Kept i past test pass idle pulses → pass ≡ passes_by i past
unfolding passes_by
passes i past test pass idle pulses e off = rw (← e)
passes i past test pass idle pulses e (passing n up low quiet old) = rw (← e, up)
passes i past test pass idle pulses e (failing n m up low few train) = rw (← e, up)

-- AUI has no link test, and passes
passes_aui : (past : List Deed) → passes_by aui past ≡ true
unfolding passes_by
passes_aui past = rw (untested aui past (lit≤ tt))

pub linked : (past : List Deed) (r : Repeater) → Settled past r → LinkKept past r → Linked past r
linked past r s k i l = go (ltb i aui) refl
  where
    go : (b : Bool) → ltb i aui ≡ b → (port_at r i).link_pass ≡ passes_by i past
    go true h =
        passes i past (port_at r i).link_test (port_at r i).link_pass (port_at r i).idle (port_at r i).pulses (s.tested i l) (k.tp i (ltb-true i aui h))
    go false h = let e : i ≡ aui = omega (arith, ltb-false i aui h) in rw e (k.last ∙ sym (passes_aui past))
