-- What is true of every state that the repeater can come to: at power-up, and after whatever happens to a repeater of which it is true. Assumes nothing.
--   sound_up                         == of power-up and of a reset
--   sound_quieted, -followed, -bursted, -set, -got == kept by each
--   sound_after                      == so it is true after any list of inputs from power-up
--   aui_passes                       == AUI never fails its link
use Prim.Native.Nat.{ℕ, ◌<◌}
use mathlib.Core.Path.{◌≡◌, refl, sym, ◌∙◌}
use mathlib.Core.Bool.{Bool, true, false, cond, ◌&&◌}
use mathlib.Core.List.{List, [], ◌∷◌}
use native.Mathlib.Omega.{arith}
use borrow.Author.Tests.{eqb-true, ltb-true}
use lib.Dec.{eqb, ltb, lit<}
use Rattle.ports.specs.declared.Quiet.{Quiet}
use Rattle.ports.specs.declared.Quiet.TheVariants.{Pulse, Tick}
use Rattle.ports.specs.Sets.{aui, port_count, has}
use Rattle.ports.proofs.Sets.{and_first}
use Rattle.management.specs.declared.Setting.{Setting}
use Rattle.management.specs.declared.Setting.TheVariants.{AlternateAui, AlternateTp, DisableAui, EnableAui, DisableTp, EnableTp, LinkTestOff, LinkTestOn}
use Rattle.management.specs.declared.Query.{Query}
use Rattle.management.specs.declared.Status.{Status}
use Rattle.management.specs.Status.{cleared_by}
use Rattle.port.specs.declared.Port.{Port}
use Rattle.port.specs.declared.Meeting.{Meeting}
use Rattle.port.specs.declared.Change.{Change}
use Rattle.port.specs.declared.Change.TheVariants.{Disabling, EnablingTp, EnablingAui, StoppingTest, StartingTest}
use Rattle.port.specs.Partition.{after_meeting}
use Rattle.port.specs.Settings.{changed}
use Rattle.port.specs.Sound.{SoundPort}
use Rattle.port.proofs.Sound.{ticked_at_sound, pulsed_at_sound, revived_at_sound, met, changed_sound, tp_sound, aui_sound, choose}
use Rattle.burst.specs.declared.Activity.{Activity}
use Rattle.burst.specs.declared.Bus.{Bus}
use Rattle.burst.specs.declared.Hearing.{Hearing}
use Rattle.repeater.specs.declared.Repeater.{Repeater}
use Rattle.repeater.specs.Door.{with_status, with_alternate, places_of, port_at, put_at, each_port}
use Rattle.repeater.specs.Reset.{power_up}
use Rattle.repeater.specs.Hearing.{transmits, hearing_of}
use Rattle.repeater.specs.Repeater.{quiet_at, quieted, partitioned_at, met_at, followed, burst_of, changed_at, changed_tp, set_to, got_of}
use Rattle.repeater.specs.Events.{Input, burst, quiet, setting, query, reset, after_input, after_inputs}
use Rattle.repeater.specs.Sound.{Sound}
use Rattle.repeater.proofs.DoorLaws.{port_each, port_put, port_status, port_alternate, up_every}
use Rattle.repeater.proofs.DoorLaws.{places_each, places_put, places_status, places_alternate, places_up}
use Rattle.repeater.proofs.Hearing.{transmitting_at}
use Rattle.repeater.proofs.Kept.{places_followed, port_followed}

module _ (i : ℕ) (p : Port) (s : SoundPort i p) where
  met_at_lem : (t : ℕ) (m : Meeting) → (has t i ≡ true → p.enabled ≡ true) → SoundPort i (partitioned_at t m i p)
  unfolding partitioned_at
  met_at_lem t m e = choose (SoundPort i) (has t i) (after_meeting m p) p (λ k. met i p s m (e k)) (λ k. s)

  quiet_at_sound : (q : Quiet) → SoundPort i (quiet_at q i p)
  quiet_at_sound (Pulse mask) = pulsed_at_sound i p s mask
  quiet_at_sound Tick = ticked_at_sound i p s

transmitting_enabled : (i : ℕ) (p : Port) → transmits i p ≡ true → p.enabled ≡ true
unfolding transmits
transmitting_enabled i p h = and_first _ _ h

-- THE NINE PORTS

module _ (r : Repeater) (s : Sound r) where
  each_sound : (f : ℕ → Port → Port) → ((i : ℕ) → i < port_count → SoundPort i (f i (port_at r i))) → Sound (each_port f r)
  each_sound f h = record { nine = places_each r f ∙ s.nine; port = λ i l. rw (port_each r f i (rw s.nine l)) (h i l) }

  put_sound : (k : ℕ) (p : Port) → SoundPort k p → Sound (put_at k p r)
  put_sound k p h = record { nine = places_put r k p ∙ s.nine; port = λ i l. rw (port_put r k p i) (go i l (eqb i k) (ltb k (places_of r)) refl) }
    where
      go : (i : ℕ) → i < port_count → (a b : Bool) → eqb i k ≡ a → SoundPort i (cond (a && b) p (port_at r i))
      go i l true true e = rw (eqb-true i k e) h
      go i l true false e = s.port i l
      go i l false b e = s.port i l

  status_sound : (status : Status) → Sound (with_status r status)
  status_sound status = record { nine = places_status r status ∙ s.nine; port = λ i l. rw (port_status r status i) (s.port i l) }

  alternate_sound : (for_aui for_tp : Bool) → Sound (with_alternate r for_aui for_tp)
  alternate_sound for_aui for_tp = record { nine = places_alternate r for_aui for_tp ∙ s.nine; port = λ i l. rw (port_alternate r for_aui for_tp i) (s.port i l) }

module _ (r : Repeater) (s : Sound r) where
  pub sound_quieted : (q : Quiet) → Sound (quieted q r)
  unfolding quieted
  sound_quieted q = each_sound r s (quiet_at q) (λ i l. quiet_at_sound i (port_at r i) (s.port i l) q)

  -- wherever the hearing comes from, if it sends to enabled ports alone
  pub sound_followed : (bus : Bus) (hearing : Hearing) (activity : Activity)
      → ((i : ℕ) → i < port_count → has hearing.t i ≡ true → (port_at r i).enabled ≡ true)
      → Sound (followed r bus hearing activity).repeater
  sound_followed bus hearing activity e =
      let m : ℕ → Meeting = met_at r bus hearing activity in
      record {
        nine = places_followed r bus hearing activity ∙ s.nine;
        port =
            λ i l. rw (port_followed r bus hearing activity i (rw s.nine l))
            (revived_at_sound i (partitioned_at hearing.t (m i) i (port_at r i))
            (met_at_lem i (port_at r i) (s.port i l) hearing.t (m i) (e i l)) activity.mask);
      }

  pub sound_bursted : (activity : Activity) → Sound (burst_of r activity).repeater
  unfolding burst_of
  sound_bursted activity =
      sound_followed Bus.Nothing (hearing_of r activity) activity
      (λ i l h. transmitting_enabled i (port_at r i) (sym (transmitting_at r activity i (omega arith)) ∙ h))

  changed_at_sound : (how : Change) (k : ℕ) → k < port_count → (how ≡ StartingTest → k < aui) → Sound (changed_at how k r)
  unfolding changed_at
  changed_at_sound how k m l = put_sound r s k (changed how (port_at r k)) (changed_sound k (port_at r k) (s.port k m) how l)

  changed_tp_sound : (how : Change) (k : ℕ) → Sound (changed_tp how k r)
  unfolding changed_tp
  changed_tp_sound how k = go (ltb k aui) refl
    where
      go : (a : Bool) → ltb k aui ≡ a → Sound (cond a (changed_at how k r) r)
      go true h = changed_at_sound how k (omega (arith, ltb-true k aui h)) (λ e. ltb-true k aui h)
      go false h = s

  -- AUI's Sets start no link test
  pub sound_set : (c : Setting) → Sound (set_to c r)
  unfolding set_to
  sound_set AlternateAui = alternate_sound r s true r.alternate_tp
  sound_set AlternateTp = alternate_sound r s r.alternate_aui true
  sound_set DisableAui = changed_at_sound Disabling aui (lit< tt) (λ e. let z : ◌≡◌ {A = ℕ} 0 1 = cc in absurd (omega arith))
  sound_set EnableAui = changed_at_sound EnablingAui aui (lit< tt) (λ e. let z : ◌≡◌ {A = ℕ} 0 1 = cc in absurd (omega arith))
  sound_set (DisableTp k) = changed_tp_sound Disabling k
  sound_set (EnableTp k) = changed_tp_sound EnablingTp k
  sound_set (LinkTestOff k) = changed_tp_sound StoppingTest k
  sound_set (LinkTestOn k) = changed_tp_sound StartingTest k

  pub sound_got : (q : Query) → Sound (got_of q r).repeater
  unfolding got_of
  sound_got q = status_sound r s (cleared_by q r.status)

  -- AUI never fails its link
  pub aui_passes : (port_at r aui).link_pass ≡ true
  aui_passes = let l = (s.port aui (lit< tt)).link in l.untested_passes (l.aui_untested refl)

-- FROM POWER-UP

pub sound_up : Sound power_up
sound_up = record { nine = places_up; port = up_every SoundPort tp_sound aui_sound }

pub sound_after_one : (r : Repeater) (a : Input) → Sound r → Sound (after_input r a)
sound_after_one r (burst activity) s = sound_bursted r s activity
sound_after_one r (quiet q) s = sound_quieted r s q
sound_after_one r (setting c) s = sound_set r s c
sound_after_one r (query q) s = sound_got r s q
sound_after_one r reset s = sound_up

sound_after_all : (r : Repeater) (inputs : List Input) → Sound r → Sound (after_inputs r inputs)
sound_after_all r [] s = s
sound_after_all r (a ∷ inputs) s = sound_after_all (after_input r a) inputs (sound_after_one r a s)

pub sound_after : (inputs : List Input) → Sound (after_inputs power_up inputs)
sound_after inputs = sound_after_all power_up inputs sound_up
