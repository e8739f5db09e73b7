-- Laws of the door: what stands at a place after a port is put there or each port is put to something, how many places there are, and what the masks have.
-- Whoever speaks of the repeater's ports goes by these. Assumes nothing.
--   port_past                 == past the last place there is no port
--   port_each, port_put       == the port at place i after each port, or the one at place k, is put to something
--   put_back                  == a port put back where it stands changes nothing
--   each_port_keeps, put_keeps == what that leaves alone of every port, or of the one at place k, is the same at every place
--   port_status, port_alternate == another status and other algorithms leave every port alone
--   places_each, places_put, places_status, places_alternate, places_up == how many places there are
--   up_every, up_keeps        == what holds of a TP port and of AUI at power-up holds at every place
--   past_among, those_lt, those_has, same_those == the masks of ports
use Prim.Native.Nat.{ℕ, ◌≤◌, ◌<◌}
use mathlib.Core.Path.{◌≡◌, refl, ap, ◌∙◌}
use mathlib.Core.Bool.{Bool, true, false, cond, ◌&&◌, and-false}
use borrow.Author.Tests.{eqb-true, eqb-false, leb-true, leb-false}
use lib.Dec.{eqb, ltb, leb}
use Rattle.ports.specs.Sets.{aui, port_count, has}
use Rattle.ports.proofs.Sets.{gather_lt, gather_same, has_gather}
use Rattle.port.specs.declared.Port.{Port}
use Rattle.port.specs.Port.{no_port}
use Rattle.port.specs.Reset.{tp_up, aui_up}
use Rattle.management.specs.declared.Status.{Status}
use Rattle.store.proofs.DoorLaws as store
use Rattle.repeater.specs.declared.Repeater.{Repeater}
use Rattle.repeater.specs.Those.{Those, Transmitting, Listening, Partitioned, Linked, Enabled}
use Rattle.repeater.specs.Door.{with_ports, with_status, with_alternate, places_of, port_at, put_at, each_port}
use Rattle.repeater.specs.Reset.{power_up}
use Rattle.repeater.specs.Hearing.{transmits, listens}
use Rattle.repeater.specs.Repeater.{among, those_of}

-- WHAT STANDS AT A PLACE

module _ (r : Repeater) where
  pub port_past : (i : ℕ) → places_of r ≤ i → port_at r i ≡ no_port
  unfolding places_of port_at
  port_past i h = store.port_past r.ports i h

  pub port_each : (f : ℕ → Port → Port) (i : ℕ) → i < places_of r → port_at (each_port f r) i ≡ f i (port_at r i)
  unfolding places_of port_at each_port
  port_each f i h = store.port_each f r.ports i h

  pub port_put : (k : ℕ) (p : Port) (i : ℕ) → port_at (put_at k p r) i ≡ cond (eqb i k && ltb k (places_of r)) p (port_at r i)
  unfolding places_of port_at put_at
  port_put k p i = store.port_put k p r.ports i

  pub put_back : (k : ℕ) → put_at k (port_at r k) r ≡ r
  unfolding port_at put_at
  put_back k = ap (with_ports r) (store.put_back k r.ports)

  pub port_status : (status : Status) (i : ℕ) → port_at (with_status r status) i ≡ port_at r i
  unfolding port_at
  port_status status i = refl

  pub port_alternate : (for_aui for_tp : Bool) (i : ℕ) → port_at (with_alternate r for_aui for_tp) i ≡ port_at r i
  unfolding port_at
  port_alternate for_aui for_tp i = refl

module _ {B : Type 0} (q : Port → B) (r : Repeater) where
  pub each_port_keeps : (f : ℕ → Port → Port) → ((j : ℕ) (p : Port) → q (f j p) ≡ q p) → (i : ℕ) → q (port_at (each_port f r) i) ≡ q (port_at r i)
  unfolding port_at each_port
  each_port_keeps f h i = store.each_keeps q f r.ports h i

  pub put_keeps : (k : ℕ) (p : Port) → q p ≡ q (port_at r k) → (i : ℕ) → q (port_at (put_at k p r) i) ≡ q (port_at r i)
  unfolding port_at put_at
  put_keeps k p h i = store.put_keeps q r.ports k p h i

-- HOW MANY PLACES THERE ARE

module _ (r : Repeater) where
  pub places_each : (f : ℕ → Port → Port) → places_of (each_port f r) ≡ places_of r
  unfolding places_of each_port
  places_each f = store.places_each f r.ports

  pub places_put : (i : ℕ) (p : Port) → places_of (put_at i p r) ≡ places_of r
  unfolding places_of put_at
  places_put i p = store.places_put i p r.ports

  pub places_status : (status : Status) → places_of (with_status r status) ≡ places_of r
  unfolding places_of
  places_status status = refl

  pub places_alternate : (for_aui for_tp : Bool) → places_of (with_alternate r for_aui for_tp) ≡ places_of r
  unfolding places_of
  places_alternate for_aui for_tp = refl

pub places_up : places_of power_up ≡ port_count
unfolding places_of
places_up = store.places_alike tp_up aui_up

-- AT POWER-UP

up_at : (i : ℕ) → i < port_count → port_at power_up i ≡ cond (eqb i aui) aui_up tp_up
unfolding port_at
up_at i l = store.port_alike tp_up aui_up i l

pub up_every : (P : ℕ → Port → Type 0) → ((i : ℕ) → (i ≡ aui → ⊥) → P i tp_up) → P aui aui_up → (i : ℕ) → i < port_count → P i (port_at power_up i)
up_every P tp last i l = rw (up_at i l) (go (eqb i aui) refl)
  where
    go : (b : Bool) → eqb i aui ≡ b → P i (cond b aui_up tp_up)
    go true e = rw (eqb-true i aui e) last
    go false e = tp i (eqb-false i aui e)

module _ {B : Type 0} (q : Port → B) (b : B) (none : q no_port ≡ b) (tp : q tp_up ≡ b) (last : q aui_up ≡ b) where
  pub up_keeps : (i : ℕ) → q (port_at power_up i) ≡ b
  up_keeps i = go (leb port_count i) refl
    where
      of : (c : Bool) → q (cond c aui_up tp_up) ≡ b
      of true = last
      of false = tp

      go : (c : Bool) → leb port_count i ≡ c → q (port_at power_up i) ≡ b
      go true e = ap q (port_past power_up i (rw places_up (leb-true port_count i e))) ∙ none
      go false e = ap q (up_at i (leb-false port_count i e)) ∙ of (eqb i aui)

-- MASKS OF PORTS

-- where there is no port, none is among them
none_among : (those : Those) (i : ℕ) → among those i no_port ≡ false
unfolding among transmits listens
none_among Transmitting i = refl
none_among Listening i = refl
none_among Partitioned i = refl
none_among Linked i = and-false (ltb i aui)
none_among Enabled i = refl

pub past_among : (those : Those) (r : Repeater) (i : ℕ) → places_of r ≤ i → among those i (port_at r i) ≡ false
past_among those r i h = ap (λ (p : Port). among those i p) (port_past r i h) ∙ none_among those i

module _ (those : Those) (r : Repeater) where
  pub those_lt : those_of those r < 65536
  unfolding those_of
  those_lt = gather_lt 16 (λ j. among those j (port_at r j))

  pub those_has : (i : ℕ) → i < 16 → has (those_of those r) i ≡ among those i (port_at r i)
  unfolding those_of
  those_has i h = has_gather 16 (λ j. among those j (port_at r j)) i h

-- a mask is the same where each port is among them as before
pub same_those : (those : Those) (r s : Repeater) → ((i : ℕ) → among those i (port_at s i) ≡ among those i (port_at r i)) → those_of those s ≡ those_of those r
unfolding those_of
same_those those r s h = gather_same 16 (λ i. among those i (port_at s i)) (λ i. among those i (port_at r i)) (λ i l. h i)
