-- What an access can come to: it is turned away, or it is done. Whatever holds of each outcome holds of the access. Assumes nothing.
--   stored row c h b        == after a D write of a byte that the row takes
--   read_cases, write_cases == of a D read, and of a D write
--   obeyed_kept, served_kept == a command, and any access, leaves the two counters that a reset keeps alone
--   read_nobody             == a D read completes no address
use Prim.Native.Nat.{ℕ}
use mathlib.Core.Path.{◌≡◌, refl}
use mathlib.Core.Bool.{Bool, true, false, cond, not}
use lib.Dec.{eqb}
use Rattle.std.specs.Prelude.{None}
use Rattle.management.specs.declared.Command.{Command}
use Rattle.management.specs.declared.Command.TheVariants.{Set, Get, Unlisted}
use Rattle.management.specs.Commands.{command_of}
use Rattle.record.specs.declared.Access as Ask
use Rattle.record.specs.declared.Access.TheVariants.{WriteC, WriteD, ReadC, ReadD}
use Rattle.answer.specs.declared.Answer.TheVariants.{Done}
use Rattle.host.specs.declared.Host.{Host}
use Rattle.host.specs.declared.Row.{Row}
use Rattle.host.specs.declared.Role.{Role}
use Rattle.host.specs.declared.Role.TheVariants.{Plain, Cleared, Commands, Enables, Address}
use Rattle.host.specs.Sequence.{wrote_byte}
use Rattle.attributes.specs.declared.Nine.{Nine}
use Rattle.chip.specs.declared.Core.{Core}
use Rattle.chip.specs.Chip.{moved}
use Rattle.access.specs.declared.Acted.{Acted}
use Rattle.access.specs.Access.{read_by, obeyed, strange, written_by, turned_away, selected_by, c_read_of, read_of, write_of, d_read_of, d_write_of, served}

abbrev pub stored : Row → Core → Host → ℕ → Acted
stored row c h b = record {
  core = (written_by row.role b c).core;
  host = (wrote_byte row.size b h).host;
  answer = Done;
  port = cond (wrote_byte row.size b h).complete (written_by row.role b c).port None;
}

module _ (P : Acted → Type 0) (c : Core) (h : Host) (away : (k : ℕ) → P (turned_away c h k)) where
  -- no bytes, or not this way
  else : (x y : Bool) (t : Acted) → P t → P (cond x (turned_away c h 5) (cond (not y) (turned_away c h 6) t))
  else true y t p = away 5
  else false true t p = p
  else false false t p = away 6

  pub read_cases : (nine : Nine) → P (read_of (selected_by h) c nine h) → P (d_read_of c nine h)
  unfolding d_read_of
  read_cases nine p = else (eqb (selected_by h).size 0) (selected_by h).readable _ p

  pub write_cases : (b : ℕ) → P (stored (selected_by h) c h b) → P (d_write_of c h b)
  unfolding d_write_of write_of
  write_cases b p = else (eqb (selected_by h).size 0) (selected_by h).writable _ (go (strange (selected_by h).role b))
    where
      go : (z : Bool) → P (cond z (turned_away c h 4) (stored (selected_by h) c h b))
      go true = away 4
      go false = p

-- WHAT A RESET KEEPS

module _ (c : Core) where
  abbrev pub Same : Core → Type 0
  Same d = d.kept ≡ c.kept

  pub obeyed_kept : (through_g : Bool) (k : Command) → Same (obeyed through_g k c)
  unfolding obeyed moved
  obeyed_kept through_g (Set s) = refl
  obeyed_kept through_g (Get q) = refl
  obeyed_kept through_g Unlisted = refl

  read_kept : (role : Role) → Same (read_by role c)
  unfolding read_by
  read_kept Plain = refl
  read_kept (Cleared r) = refl
  read_kept (Commands through_g) = refl
  read_kept (Enables r) = refl
  read_kept (Address i) = refl

  written_kept : (role : Role) (b : ℕ) → Same (written_by role b c).core
  unfolding written_by
  written_kept Plain b = refl
  written_kept (Cleared r) b = refl
  written_kept (Commands through_g) b = obeyed_kept through_g (command_of b)
  written_kept (Enables r) b = refl
  written_kept (Address i) b = refl

  module _ (nine : Nine) (h : Host) where
    abbrev Keeps : Acted → Type 0
    Keeps t = Same t.core

    read_keeps : Keeps (read_of (selected_by h) c nine h)
    unfolding read_of
    read_keeps = read_kept (selected_by h).role

    pub served_kept : (a : Ask.Access) → (served a c nine h).core.kept ≡ c.kept
    unfolding served c_read_of
    served_kept (WriteC b) = refl
    served_kept (WriteD b) = write_cases Keeps c h (λ k. refl) b (written_kept (selected_by h).role b)
    served_kept ReadC = refl
    served_kept ReadD = read_cases Keeps c h (λ k. refl) nine read_keeps

    pub read_nobody : (d_read_of c nine h).port ≡ None
    unfolding read_of
    read_nobody = read_cases (λ t. t.port ≡ None) c h (λ k. refl) nine refl
