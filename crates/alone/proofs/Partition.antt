-- Document 01, 'Partition', by the past: after every deed the nine ports stand as the events of the past say. Assumes nothing.
--   disabling_byte   == which command disables port i, by its byte
--   events_more      == a deed adds one event to those of each port
--   moved_by_lem         == every deed moves a port as its event says
--   stood_up, stood_next == the ports stand as the past says at power-up, and after one deed more
--   partitioned_mask == the partitioned ports are those that the past says
use Prim.Native.Nat.{ℕ, ◌+◌, ◌≤◌, ◌<◌}
use mathlib.Core.Path.{◌≡◌, refl, sym, ap, ◌∙◌}
use mathlib.Core.Bool.{Bool, true, false, cond, ◌&&◌, true≢false}
use mathlib.Core.List.{List, [], ◌∷◌, ◌++◌}
use native.Mathlib.Omega.{arith}
use borrow.Author.Tests.{eq-eqb, ne_eqb, eqb-true, eqb-false, lt-ltb, le-ltb, leb-true, leb-false}
use lib.Dec.{eqb, leb, ltb}
use lib.ListN.{length, get_or, get_or-replicate}
use Rattle.ports.specs.declared.Quiet.TheVariants.{Pulse, Tick}
use Rattle.ports.specs.Sets.{aui, has}
use Rattle.ports.proofs.Each.{each_length, each_at}
use Rattle.history.specs.History.{Event, neither, cleared, Standing, connected, after_event, after_events}
use Rattle.history.proofs.Past.{after_append}
use Rattle.management.specs.declared.Command.{Command}
use Rattle.management.specs.declared.Command.TheVariants.{Set, Get, Unlisted}
use Rattle.management.specs.Commands.{command_of}
use Rattle.port.proofs.Standing.{stays}
use Rattle.repeater.specs.declared.Repeater.{Repeater}
use Rattle.repeater.specs.Those.{Partitioned}
use Rattle.repeater.specs.Door.{port_at}
use Rattle.repeater.specs.Reset.{power_up}
use Rattle.repeater.specs.Repeater.{among, partitioned_of}
use Rattle.repeater.specs.Events.{standing_at, disables, set_event}
use Rattle.repeater.proofs.DoorLaws.{past_among, those_has}
use Rattle.repeater.proofs.Events.{burst_moves, quiet_moves, get_moves, set_moves, reset_moves, up_connected}
use Rattle.access.specs.Access.{is_listed}
use Rattle.himib.specs.Bursts.{activity_of}
use Rattle.past.specs.Deeds.{Deed, bursts, pulses, ticks, commands, uses, resets, refused}
use Rattle.past.specs.Settings.{disabling, enabled_by}
use Rattle.past.specs.Partition.{sent_to, listened_to, event_by, all_events, partitioned_by, heard_by}
use Rattle.alone.specs.Doing.{repeater_by, obeying, Proper}
use Rattle.alone.specs.Seen.{Settled, Linked, Stood}
use Rattle.alone.proofs.Listed.{Byte, listed_byte, get_high}
use Rattle.alone.proofs.Listed.{alternate_aui, alternate_tp, disable_aui, enable_aui, disable_tp, enable_tp, test_off, test_on, get}
use Rattle.alone.proofs.Bursts.{partitioned_port, event_seen}

-- THE COMMAND THAT DISABLES A PORT

abbrev disabled : Command → ℕ → Bool
disabled (Set s) i = disables s i
disabled (Get q) i = false
disabled Unlisted i = false

module _ (i : ℕ) (low : i < 9) where
  other_byte : (c : ℕ) → (32 ≤ c → c < 40 → ⊥) → (c ≡ 47 → ⊥) → eqb c (disabling i) ≡ false
  other_byte c row last = go (eqb i aui) refl
    where
      go : (a : Bool) → eqb i aui ≡ a → eqb c (cond a 47 (32 + i)) ≡ false
      go true e = ne_eqb c 47 last
      go false e = let n = eqb-false i aui e in ne_eqb c (32 + i) (λ k. row (omega arith) (omega arith))

  aui_byte_lem : eqb i aui ≡ eqb 47 (disabling i)
  aui_byte_lem = go (eqb i aui) refl
    where
      go : (a : Bool) → eqb i aui ≡ a → a ≡ eqb 47 (cond a 47 (32 + i))
      go true e = refl
      go false e = sym (ne_eqb 47 (32 + i) (λ k. omega arith))

  tp_byte_lem : (k : ℕ) → k < 8 → (ltb k aui && eqb i k) ≡ eqb (32 + k) (disabling i)
  tp_byte_lem k l = rw (lt-ltb k aui l) (go (eqb i aui) (eqb i k) refl refl)
    where
      go : (a b : Bool) → eqb i aui ≡ a → eqb i k ≡ b → b ≡ eqb (32 + k) (cond a 47 (32 + i))
      go true true e f = absurd (omega (arith, eqb-true i aui e, eqb-true i k f))
      go true false e f = sym (ne_eqb (32 + k) 47 (λ z. omega arith))
      go false true e f = sym (eq-eqb (32 + k) (32 + i) (omega (arith, eqb-true i k f)))
      go false false e f = sym (ne_eqb (32 + k) (32 + i) (λ z. eqb-false i k f (omega arith)))

  disabling_byte : (c : ℕ) (k : Command) → Byte c k → disabled k i ≡ eqb c (disabling i)
  unfolding disables
  disabling_byte c k alternate_aui = sym (other_byte 31 (λ p q. omega arith) (λ e. omega arith))
  disabling_byte c k alternate_tp = sym (other_byte 16 (λ p q. omega arith) (λ e. omega arith))
  disabling_byte c k disable_aui = aui_byte_lem
  disabling_byte c k enable_aui = sym (other_byte 63 (λ p q. omega arith) (λ e. omega arith))
  disabling_byte c k (disable_tp j l) = tp_byte_lem j l
  disabling_byte c k (enable_tp j l) = sym (other_byte (48 + j) (λ p q. omega arith) (λ e. omega arith))
  disabling_byte c k (test_off j l) = sym (other_byte (64 + j) (λ p q. omega arith) (λ e. omega arith))
  disabling_byte c k (test_on j l) = sym (other_byte (80 + j) (λ p q. omega arith) (λ e. omega arith))
  disabling_byte c k (get b q g) = sym (other_byte b (λ p l. omega (arith, get_high b q g)) (λ e. omega (arith, get_high b q g)))

-- THE EVENTS OF A DEED MORE

nine_lists : (past : List Deed) → length (all_events past) ≡ 9
unfolding all_events
nine_lists [] = refl
nine_lists (d ∷ past) = each_length _ (all_events past) ∙ nine_lists past

abbrev pub event_now : List Deed → Deed → ℕ → Event
event_now past d i = event_by past (sent_to past) (listened_to (sent_to past) (all_events past)) d i

pub events_more : (past : List Deed) (d : Deed) (i : ℕ) → i < 9 → get_or (all_events (d ∷ past)) i [] ≡ get_or (all_events past) i [] ++ (event_now past d i ∷ [])
unfolding all_events
events_more past d i l =
    each_at (λ j events. events ++ (event_now past d j ∷ [])) (all_events past) i [] [] (rw (nine_lists past) l)

-- no command is 0: where there is none, nothing is disabled
no_byte : (i : ℕ) → i < 9 → eqb 0 (disabling i) ≡ false
no_byte i l = other_byte i l 0 (λ p q. omega arith) (λ e. omega arith)

module _ (past : List Deed) (r : Repeater) (settled : Settled past r) (linked : Linked past r) (stood : Stood past r) (i : ℕ) (l : i < 9) where
  abbrev Moves : Deed → Type 0
  Moves d = standing_at (repeater_by d r) i ≡ after_event (standing_at r i) (event_now past d i)

  command_moves : (c : ℕ) (k : Command) → Byte c k → is_listed k ≡ true
      → standing_at (obeying k r) i ≡ after_event (standing_at r i) (cond (eqb c (disabling i) && enabled_by i past) cleared neither)
  unfolding set_event
  command_moves c (Set s) b h = rw (← disabling_byte i l c (Set s) b, ← settled.enabled i l) (set_moves s r i)
  command_moves c (Get q) b h = rw (← disabling_byte i l c (Get q) b) (get_moves q r i)
  command_moves c Unlisted b h = absurd (true≢false (sym h))

  moved_by_lem : (d : Deed) → Proper d → Moves d
  unfolding repeater_by event_by heard_by
  moved_by_lem (bursts b source) p = rw (no_byte i l, ← event_seen past r b settled linked stood i l) (burst_moves r (activity_of b) i)
  moved_by_lem (pulses mask) p = rw (no_byte i l) (quiet_moves (Pulse mask) r i)
  moved_by_lem ticks p = rw (no_byte i l) (quiet_moves Tick r i)
  moved_by_lem (commands g c) p = command_moves c (command_of c) (listed_byte c p) p
  moved_by_lem (uses u) p = rw (no_byte i l) (stays (standing_at r i))
  moved_by_lem resets p = reset_moves r i
  moved_by_lem (refused k) p = rw (no_byte i l) (stays (standing_at r i))

-- THE PORTS STAND AS THE PAST SAYS

pub stood_up : Stood [] power_up
unfolding all_events
stood_up i l = up_connected i ∙ sym (ap (after_events (connected 0)) (get_or-replicate 9 i [] [] l))

pub stood_next : (past : List Deed) (d : Deed) (r : Repeater) → Proper d → Settled past r → Linked past r → Stood past r → Stood (d ∷ past) (repeater_by d r)
stood_next past d r p settled linked stood i l =
    moved_by_lem past r settled linked stood i l d p
    ∙ ap (λ (s : Standing). after_event s (event_now past d i)) (stood i l)
    ∙ sym (after_append (connected 0) (get_or (all_events past) i []) (event_now past d i ∷ []))
    ∙ ap (after_events (connected 0)) (sym (events_more past d i l))

pub partitioned_mask : (past : List Deed) (r : Repeater) → Stood past r → Settled past r
    → (i : ℕ) → i < 16 → has (partitioned_of r) i ≡ (ltb i 9 && partitioned_by past i)
unfolding among
partitioned_mask past r stood settled i l = those_has Partitioned r i l ∙ go (leb 9 i) refl
  where
    go : (a : Bool) → leb 9 i ≡ a → (port_at r i).partitioned ≡ (ltb i 9 && partitioned_by past i)
    go true e =
        let k : 9 ≤ i = leb-true 9 i e in
        past_among Partitioned r i (rw settled.nine k) ∙ rw (le-ltb i 9 k)
    go false e =
        let k : i < 9 = leb-false 9 i e in
        partitioned_port past r stood i k ∙ rw (lt-ltb i 9 k)
