-- What a D access can make of the core, as one case law for each: whatever holds of each of these cores holds after the access. Assumes nothing.
--   after_write == after a D write: the core as it was, after a Set, after a Get, or with other enables
--   after_read  == after a D read: the core as it was, or with a change register cleared; and whether register R was read
use Prim.Native.Nat.{ℕ}
use mathlib.Core.Bool.{Bool, false, ◌&&◌}
use lib.Dec.{eqb}
use lib.ListN.{set}
use Rattle.management.specs.declared.Command.{Command}
use Rattle.management.specs.declared.Command.TheVariants.{Set, Get, Unlisted}
use Rattle.management.specs.declared.Setting.{Setting}
use Rattle.management.specs.declared.Query.{Query}
use Rattle.management.specs.Commands.{command_of}
use Rattle.host.specs.declared.Host.{Host}
use Rattle.host.specs.declared.Role.{Role}
use Rattle.host.specs.declared.Role.TheVariants.{Plain, Cleared, Commands, Enables, Address}
use Rattle.attributes.specs.declared.Nine.{Nine}
use Rattle.chip.specs.declared.Core.{Core}
use Rattle.chip.specs.Chip.{with_changes, with_enables}
use Rattle.changes.specs.Changes.{kept_bits}
use Rattle.access.specs.Access.{selected_by, read_by, obeyed, written_by, read_of, d_read_of, d_write_of}
use Rattle.access.proofs.Cases.{read_cases, write_cases}
use Rattle.himib.specs.Runs.{accepted}
use Rattle.pass.specs.Pass.{is_change}

module _ (P : Core → Type 0) (c : Core) (b : ℕ) (still : P c) (sets : (g : Bool) (s : Setting) → P (obeyed g (Set s) c))
    (gets : (g : Bool) (q : Query) → P (obeyed g (Get q) c)) (enables : (r : ℕ) → P (with_enables c (set c.enables r (kept_bits r b)))) where
  after_command : (g : Bool) (k : Command) → P (obeyed g k c)
  unfolding obeyed
  after_command g (Set s) = sets g s
  after_command g (Get q) = gets g q
  after_command g Unlisted = still

  after_written : (role : Role) → P (written_by role b c).core
  unfolding written_by
  after_written Plain = still
  after_written (Cleared r) = still
  after_written (Commands g) = after_command g (command_of b)
  after_written (Enables r) = enables r
  after_written (Address i) = still

  pub after_write : (h : Host) → P (d_write_of c h b).core
  after_write h = write_cases (λ t. P t.core) c h (λ k. still) b (after_written (selected_by h).role)

-- the core after a read of a register by its role, and whether that was a read of change register R
module _ (r : ℕ) (P : Core → Bool → Type 0) (c : Core) (still : P c false) (clears : (k : ℕ) → P (with_changes c (set c.changes k 0)) (eqb k r)) where
  after_seen : (role : Role) → P (read_by role c) (is_change r role)
  unfolding read_by
  after_seen Plain = still
  after_seen (Cleared k) = clears k
  after_seen (Commands g) = still
  after_seen (Enables k) = still
  after_seen (Address i) = still

  pub after_read : (nine : Nine) (h : Host) → P (d_read_of c nine h).core (accepted (d_read_of c nine h).answer && is_change r (selected_by h).role)
  unfolding read_of accepted
  after_read nine h =
      read_cases (λ t. P t.core (accepted t.answer && is_change r (selected_by h).role)) c h (λ k. still) nine (after_seen (selected_by h).role)
