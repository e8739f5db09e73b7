-- Change bits, enables, interface error and G go by the past. What the repeater makes of a burst, what the burst credits, the ports' partitions and links
-- before and after a deed, and the status bits before it, are taken from whoever proves them. Assumes nothing.
--   Shown start past c  == what the core shows is what the past says
--   up_shown, still_shown, read_shown, allows_shown, asks_shown, quiet_shown, command_shown, burst_shown == at power-up, and after each sort of deed
--   noticed_up, noticed_next == the same, of a point of a run
use Prim.Native.Nat.{ℕ, ◌<◌}
use mathlib.Core.Path.{◌≡◌, refl, sym, ◌∙◌}
use mathlib.Core.Bool.{Bool, true, false, cond, not, ◌||◌, or_comm, true≢false}
use mathlib.Core.List.{List, [], ◌∷◌}
use native.Mathlib.Omega.{arith}
use borrow.Author.Tests.{eq-eqb, ne_eqb}
use lib.ListN.{length, get_or, set, length-set, get_or-replicate}
use Rattle.ports.proofs.Sets.{has_none}
use Rattle.ports.proofs.Each.{set_every}
use Rattle.management.specs.declared.Command.{Command}
use Rattle.management.specs.declared.Command.TheVariants.{Set, Get, Unlisted}
use Rattle.management.specs.Commands.{command_of}
use Rattle.record.specs.declared.Burst.{Burst}
use Rattle.repeater.specs.declared.Repeater.{Repeater}
use Rattle.host.specs.declared.Register.{Register}
use Rattle.host.specs.declared.Register.TheVariants as reg
use Rattle.host.specs.Map.{within, bit_registers}
use Rattle.changes.specs.Changes.{noted, kept_bits}
use Rattle.chip.specs.declared.Kept.{Kept}
use Rattle.chip.specs.declared.Core.{Core}
use Rattle.chip.specs.declared.Supply.{Supply}
use Rattle.chip.specs.Chip.{core_up, moved, with_enables, with_error}
use Rattle.access.specs.Access.{obeyed, is_listed}
use Rattle.himib.specs.Bursts.{burst_core, noted_on, burst_on}
use Rattle.himib.specs.Runs as Runs
use Rattle.himib.specs.Runs.{Point, repeater_at}
use Rattle.past.specs.Deeds.{Deed, Use, bursts, pulses, ticks, commands, uses, resets, refused}
use Rattle.past.specs.Deeds.{selects_p, selects_r, allows, addresses, asks, reads}
use Rattle.past.specs.Since.{came_since}
use Rattle.past.specs.Status.{sqe, loopback, g_by}
use Rattle.past.specs.Changes.{changes, clears, change_by, kept, allowed_by, error_by}
use Rattle.past.specs.Reads.{Start}
use Rattle.alone.specs.Doing.{read_from, used_at, doing, next, ProperUse, Proper}
use Rattle.alone.specs.Seen.{start_of, Linked, Reported, BurstSeen, DueSeen, Noticed, burst_seen, due_seen, Parted}
use Rattle.alone.proofs.CommandBytes.{get_is, set_is}
use Rattle.alone.proofs.Status.{loopback_seen, sqe_seen_lem, got_seen}
use Rattle.alone.proofs.Noting.{Masks, Noted, Calm, moved_noted, quiet_noted, still_noted, cleared_noted, kept_seen}

-- WHAT THE CORE SHOWS

record Shown (start : Start) (past : List Deed) (c : Core) : Type 0 where
  pub noted : Noted start.addresses past c.changes
  pub eight : length c.enables ≡ 8
  pub enables : (r : ℕ) → r < 8 → get_or c.enables r 0 ≡ allowed_by past r
  pub error : c.interface_error ≡ error_by past
  pub g : c.g ≡ g_by past

shown : (start : Start) (past : List Deed) (p : Point) → Noticed start past p → Shown start past p.chip.core
shown start past p n = record {
  noted = record { eight = n.eight; low = n.low; bits = n.changes };
  eight = n.eight_enables;
  enables = n.enables;
  error = n.error;
  g = n.g;
}

noticed : (start : Start) (past : List Deed) (p : Point) → Shown start past p.chip.core → Noticed start past p
noticed start past p s = record {
  eight = s.noted.eight;
  low = s.noted.low;
  changes = s.noted.bits;
  eight_enables = s.eight;
  enables = s.enables;
  error = s.error;
  g = s.g;
}

up_shown : (start : Start) (past : List Deed) (kept : Kept) → ((r j : ℕ) → change_by start.addresses past r j ≡ false) → ((r : ℕ) → allowed_by past r ≡ 0)
    → error_by past ≡ false → g_by past ≡ 0 → Shown start past (core_up kept)
up_shown start past kept none no-enables no-error no-g = record {
  noted = record {
    eight = refl;
    low = λ r h. rw (get_or-replicate {A = ℕ} 8 r 0 0 h) (omega arith);
    bits = λ r j h l. rw (get_or-replicate {A = ℕ} 8 r 0 0 h) (has_none j ∙ sym (none r j));
  };
  eight = refl;
  enables = λ r h. get_or-replicate {A = ℕ} 8 r 0 0 h ∙ sym (no-enables r);
  error = sym no-error;
  g = sym no-g;
}

-- a Set through G, and a Get through S, mark the interface error
set_error : (e g : Bool) → (e || g) ≡ (cond g true false || e)
set_error e true = or_comm e true
set_error e false = or_comm e false

get_error : (e g : Bool) → (e || not g) ≡ (cond g false true || e)
get_error e true = or_comm e false
get_error e false = or_comm e true

module _ (start : Start) (past : List Deed) (c : Core) (before : Masks past c.repeater) (s : Shown start past c) where
  -- the core is as it was
  still_shown : (d : Deed) → Calm d → ((r : ℕ) → clears r past d ≡ false) → ((r : ℕ) → allowed_by (d ∷ past) r ≡ allowed_by past r)
      → error_by (d ∷ past) ≡ error_by past → g_by (d ∷ past) ≡ g_by past → Masks (d ∷ past) c.repeater → Shown start (d ∷ past) c
  still_shown d calm kept ea ee eg after = record {
    noted = still_noted start.addresses past d c.repeater before after calm c.changes kept s.noted;
    eight = s.eight;
    enables = λ r h. s.enables r h ∙ sym (ea r);
    error = s.error ∙ sym ee;
    g = s.g ∙ sym eg;
  }

  -- a D read
  read_shown : (register : Register) (size : ℕ) → let d : Deed = uses (reads register size) in
      Masks (d ∷ past) (read_from register c).repeater → Shown start (d ∷ past) (read_from register c)
  unfolding read_from clears allowed_by error_by g_by came_since
  read_shown reg.Unlisted size after = still_shown _ (λ f. refl) (λ r. refl) (λ r. refl) refl refl after
  read_shown reg.TransmitCollisions size after = still_shown _ (λ f. refl) (λ r. refl) (λ r. refl) refl refl after
  read_shown reg.TotalOctets size after = still_shown _ (λ f. refl) (λ r. refl) (λ r. refl) refl refl after
  read_shown reg.Version size after = still_shown _ (λ f. refl) (λ r. refl) (λ r. refl) refl refl after
  read_shown reg.SetPort size after = still_shown _ (λ f. refl) (λ r. refl) (λ r. refl) refl refl after
  read_shown reg.GetPort size after = still_shown _ (λ f. refl) (λ r. refl) (λ r. refl) refl refl after
  read_shown (reg.Change k) size after = record {
    noted =
        cleared_noted start.addresses past (uses (reads (reg.Change k) size)) c.repeater before after (λ f. refl) c.changes k (λ r. refl)
        s.noted;
    eight = s.eight;
    enables = s.enables;
    error = s.error;
    g = s.g;
  }
  read_shown (reg.Enable k) size after = still_shown _ (λ f. refl) (λ r. refl) (λ r. refl) refl refl after
  read_shown (reg.Counter i k) size after = still_shown _ (λ f. refl) (λ r. refl) (λ r. refl) refl refl after
  read_shown (reg.Address i) size after = still_shown _ (λ f. refl) (λ r. refl) (λ r. refl) refl refl after

  -- a write to the enables
  allows_shown : (k b : ℕ) → within bit_registers k ≡ true → let d : Deed = uses (allows k b) in
      Masks (d ∷ past) c.repeater → Shown start (d ∷ past) (with_enables c (set c.enables k (kept_bits k b)))
  unfolding clears allowed_by error_by g_by came_since
  allows_shown k b h after =
      let d : Deed = uses (allows k b) in
      let eight : length c.enables ≡ 8 = s.eight in
      record {
        noted = still_noted start.addresses past d c.repeater before after (λ f. refl) c.changes (λ r. refl) s.noted;
        eight = length-set c.enables k (kept_bits k b) ∙ eight;
        enables = λ r l.
            set_every (λ i v. v ≡ allowed_by (d ∷ past) i) c.enables k (kept_bits k b) 0 (rw (eq-eqb k k refl) (kept_seen k b h))
            (λ i m e. rw (ne_eqb k i (λ q. e (sym q))) (s.enables i (omega arith))) r (omega arith);
        error = s.error;
        g = s.g;
      }

  -- a C read
  asks_shown : let d : Deed = uses asks in Masks (d ∷ past) c.repeater → Shown start (d ∷ past) (with_error c false)
  unfolding clears allowed_by error_by g_by came_since
  asks_shown after = record {
    noted = still_noted start.addresses past (uses asks) c.repeater before after (λ f. refl) c.changes (λ r. refl) s.noted;
    eight = s.eight;
    enables = s.enables;
    error = refl;
    g = s.g;
  }

  -- ticks and link pulses
  quiet_shown : (d : Deed) (y : Repeater) → Calm d → ((r : ℕ) → clears r past d ≡ false) → ((r : ℕ) → allowed_by (d ∷ past) r ≡ allowed_by past r)
      → error_by (d ∷ past) ≡ error_by past → g_by (d ∷ past) ≡ g_by past → Masks (d ∷ past) y → Shown start (d ∷ past) (moved c y false false 0)
  unfolding moved
  quiet_shown d y calm kept ea ee eg after = record {
    noted = quiet_noted start.addresses past d c.repeater y before after c refl calm kept s.noted;
    eight = s.eight;
    enables = λ r h. s.enables r h ∙ sym (ea r);
    error = s.error ∙ sym ee;
    g = s.g ∙ sym eg;
  }

  -- a command
  command_shown : (g : Bool) (n : ℕ) (k : Command) → command_of n ≡ k → is_listed k ≡ true → Reported past c.repeater → let d : Deed = commands g n in
      Masks (d ∷ past) (obeyed g k c).repeater → Shown start (d ∷ past) (obeyed g k c)
  unfolding obeyed moved clears allowed_by error_by g_by came_since
  command_shown g n (Set k) e l reported after = record {
    noted = quiet_noted start.addresses past (commands g n) c.repeater _ before after c refl (λ f. refl) (λ r. refl) s.noted;
    eight = s.eight;
    enables = s.enables;
    error = rw (set_is n k e, s.error) (set_error (error_by past) g);
    g = rw (set_is n k e) s.g;
  }
  command_shown g n (Get q) e l reported after = record {
    noted = quiet_noted start.addresses past (commands g n) c.repeater _ before after c refl (λ f. refl) (λ r. refl) s.noted;
    eight = s.eight;
    enables = s.enables;
    error = rw (get_is n q e, s.error) (get_error (error_by past) g);
    g = rw (get_is n q e) (got_seen past c.repeater reported before.parted before.linked n q e);
  }
  command_shown g n Unlisted e l reported after = absurd (true≢false (sym l))

-- ALL DEEDS

pub noticed_up : (given : Supply) → Noticed (start_of given) [] (Runs.start given)
unfolding change_by allowed_by error_by g_by came_since
noticed_up given =
    noticed (start_of given) [] (Runs.start given) (up_shown (start_of given) [] (Runs.start given).chip.core.kept (λ r j. refl) (λ r. refl) refl refl)

module _ (start : Start) (past : List Deed) (p : Point) (before : Masks past (repeater_at p)) (s : Shown start past p.chip.core) where
  abbrev Follows : Deed → Type 0
  Follows d = Masks (d ∷ past) (repeater_at (next d p)) → Shown start (d ∷ past) (next d p).chip.core

  burst_shown : (b : Burst) (source : List ℕ) → BurstSeen past (repeater_at p) b → DueSeen start past p b source → Follows (bursts b source)
  unfolding doing burst_on noted_on burst_core moved clears allowed_by error_by g_by came_since
  burst_shown b source seen due after = record {
    noted =
        moved_noted start.addresses past (bursts b source) (repeater_at p) (burst_seen (repeater_at p) b).repeater before after p.chip.core
        (burst_seen (repeater_at p) b).marks.loopback (burst_seen (repeater_at p) b).marks.sqe (due_seen p b source).changed refl
        (loopback_seen past (repeater_at p) b source seen) (sqe_seen_lem past (repeater_at p) b source seen) due.changed (λ r. refl) s.noted;
    eight = s.eight;
    enables = s.enables;
    error = s.error;
    g = s.g;
  }

  use_shown : (u : Use) → ProperUse u → Follows (uses u)
  unfolding doing used_at clears allowed_by error_by g_by came_since
  use_shown (selects_p n) proper after = still_shown start past p.chip.core before s _ (λ f. refl) (λ r. refl) (λ r. refl) refl refl after
  use_shown (selects_r n) proper after = still_shown start past p.chip.core before s _ (λ f. refl) (λ r. refl) (λ r. refl) refl refl after
  use_shown (allows k b) proper after = allows_shown start past p.chip.core before s k b proper after
  use_shown (addresses i b) proper after = still_shown start past p.chip.core before s _ (λ f. refl) (λ r. refl) (λ r. refl) refl refl after
  use_shown asks proper after = asks_shown start past p.chip.core before s after
  use_shown (reads register size) proper after = read_shown start past p.chip.core before s register size after

  deed_shown : (d : Deed) → Proper d → ((b : Burst) (source : List ℕ) → d ≡ bursts b source → BurstSeen past (repeater_at p) b)
      → ((b : Burst) (source : List ℕ) → d ≡ bursts b source → DueSeen start past p b source) → Reported past (repeater_at p) → Follows d
  unfolding doing moved clears change_by allowed_by error_by g_by came_since
  deed_shown (bursts b source) proper seen due reported after = burst_shown b source (seen b source refl) (due b source refl) after
  deed_shown (pulses mask) proper seen due reported after =
      quiet_shown start past p.chip.core before s _ _ (λ f. refl) (λ r. refl) (λ r. refl) refl refl after
  deed_shown ticks proper seen due reported after =
      quiet_shown start past p.chip.core before s _ _ (λ f. refl) (λ r. refl) (λ r. refl) refl refl after
  deed_shown (commands g c) proper seen due reported after =
      command_shown start past p.chip.core before s g c (command_of c) refl proper reported after
  deed_shown (uses u) proper seen due reported after = use_shown u proper after
  deed_shown resets proper seen due reported after =
      up_shown start (resets ∷ past) p.chip.core.kept (λ r j. refl) (λ r. refl) refl refl
  deed_shown (refused k) proper seen due reported after =
      still_shown start past p.chip.core before s _ (λ f. refl) (λ r. refl) (λ r. refl) refl refl after

pub noticed_next : (start : Start) (past : List Deed) (d : Deed) (p : Point) → Proper d
    → ((b : Burst) (source : List ℕ) → d ≡ bursts b source → BurstSeen past (repeater_at p) b)
    → ((b : Burst) (source : List ℕ) → d ≡ bursts b source → DueSeen start past p b source)
    → Parted past (repeater_at p) → Parted (d ∷ past) (repeater_at (next d p)) → Linked past (repeater_at p) → Linked (d ∷ past) (repeater_at (next d p))
    → Reported past (repeater_at p) → Noticed start past p → Noticed start (d ∷ past) (next d p)
noticed_next start past d p proper seen due parted parted' linked linked' reported n =
    noticed start (d ∷ past) (next d p) (deed_shown start past p (record { parted = parted; linked = linked }) (shown start past p n) d proper seen due reported
    (record { parted = parted'; linked = linked' }))
