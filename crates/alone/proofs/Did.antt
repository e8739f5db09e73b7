-- A record does what its deed does: the chip's step over any bytes is `doing` of the deed that an observer makes of them. Assumes nothing.
--   did            == the step
--   proper_deed    == what the deed of any record carries is within its bounds
--   selection_next == P and R after a deed are those of the past with it
--   repeater_next  == so is the repeater
use Prim.Native.Nat.{ℕ, ◌/◌, ◌%◌, ◌≤◌, ◌<◌}
use mathlib.Core.Path.{◌≡◌, refl, sym, ap, ◌∙◌}
use mathlib.Core.Bool.{Bool, true, false, cond, not, true≢false}
use mathlib.Core.List.{List, ◌∷◌}
use mathlib.Core.Logic.{◌⊎◌, ⊎_elim}
use native.Mathlib.Omega.{arith}
use borrow.Author.Tests.{ltb-true}
use lib.Dec.{eqb}
use lib.ListN.{length}
use Rattle.std.specs.Prelude.{Option, None}
use Rattle.ports.specs.Sets.{port_count}
use Rattle.ports.specs.declared.Quiet.TheVariants.{Pulse, Tick}
use Rattle.ports.proofs.Sets.{and_second}
use Rattle.management.specs.declared.Command.{Command}
use Rattle.management.specs.declared.Command.TheVariants.{Set, Get, Unlisted}
use Rattle.management.specs.Commands.{command_of}
use Rattle.record.specs.declared.Access.{Access}
use Rattle.record.specs.declared.Access.TheVariants.{WriteC, WriteD, ReadC, ReadD}
use Rattle.record.specs.declared.Asked.{Asked}
use Rattle.record.specs.declared.Asked.TheVariants as ask
use Rattle.record.specs.Refusals.{record_of}
use Rattle.record.specs.Accepted.{Bounded}
use Rattle.record.proofs.Accepted.{bounded_as}
use Rattle.host.specs.declared.Host.{Host}
use Rattle.host.specs.declared.Row.{Row}
use Rattle.host.specs.declared.Register.{Register}
use Rattle.host.specs.declared.Register.TheVariants as reg
use Rattle.host.specs.declared.Role.{Role}
use Rattle.host.specs.declared.Role.TheVariants.{Plain, Cleared, Commands, Enables, Address}
use Rattle.host.specs.Map.{table, row_at}
use Rattle.host.specs.Stands.{fits_role, listed, proper, meant}
use Rattle.host.specs.Sequence.{selected, read_byte, wrote_byte}
use Rattle.host.proofs.Listed.{every_row, row_fits, row_listed, row_of_register, proper_register, proper_role}
use Rattle.answer.specs.declared.Answer.TheVariants.{Done}
use Rattle.attributes.specs.declared.Nine.{Nine}
use Rattle.chip.specs.declared.Core.{Core}
use Rattle.chip.specs.Chip.{moved}
use Rattle.access.specs.declared.Acted.{Acted}
use Rattle.access.specs.Access.{read_by, obeyed, is_listed, strange, written_by, turned_away, selected_by, c_read_of, read_of, write_of, d_read_of, d_write_of, served}
use Rattle.himib.specs.Bursts.{burst_core, noted_on, burst_on}
use Rattle.himib.specs.Step.{after_access, taken, step_of}
use Rattle.himib.specs.Runs.{Point, repeater_at}
use Rattle.himib.proofs.HimibLaws.{addressed_nobody}
use Rattle.pass.proofs.HostPast.{source_six}
use Rattle.past.specs.Deeds.{Deed, bursts, pulses, ticks, commands, uses, resets, refused, Use, selects_p, selects_r, allows, addresses, asks, reads}
use Rattle.past.specs.Deeds.{selecting, commanding, writing, writing_to, reading_of, accessing, deed_of, page_by, register_by, deed_after}
use Rattle.alone.specs.Doing.{read_from, used_at, doing, next, obeying, repeater_by, ProperUse, Proper}

-- LAWS OF ROWS

-- how many bytes a register has that takes what is written
abbrev pub role_size : Role → ℕ → ℕ
role_size Plain n = n
role_size (Cleared k) n = n
role_size (Commands through_g) n = 1
role_size (Enables k) n = 1
role_size (Address i) n = 6

pub role_size_lem : (p r : ℕ) → (row_at p r).size ≡ role_size (row_at p r).role (row_at p r).size
unfolding table
role_size_lem p r = every_row (λ w. w.size) (λ w. role_size w.role w.size) p r (λ i q. refl)

read_from_lem : (c : Core) (p r : ℕ) → read_by (row_at p r).role c ≡ read_from (row_at p r).register c
unfolding table read_by read_from
read_from_lem c p r = every_row (λ w. read_by w.role c) (λ w. read_from w.register c) p r (λ i q. refl)

-- WHAT AN ACCESS DOES

module _ (p : Point) where
  abbrev c : Core
  c = p.chip.core

  abbrev nine : Nine
  nine = p.chip.attributes

  abbrev h : Host
  h = p.host

  -- nobody's address is written
  nobody_after : (d : Core) (g : Host) (a : Acted) → a.core ≡ d → a.host ≡ g → a.port ≡ None
      → after_access nine a ≡ record { chip = record { core = d; attributes = nine }; host = g; answer = a.answer }
  nobody_after d g a e f k = rw (e, f, k, addressed_nobody g.bytes nine)

  away : (k : ℕ) → after_access nine (turned_away c h k) ≡ doing (refused k) p
  unfolding doing
  away k = nobody_after c h (turned_away c h k) refl refl refl

  selected_by_lem : (b : ℕ) → (b < 32) ⊎ ((224 ≤ b) × (b < 256)) → after_access nine (served (WriteC b) c nine h) ≡ used_at (selecting b) p
  unfolding served selected used_at
  selected_by_lem b l = ⊎_elim
      (λ m. let z : b / 32 ≡ 0 = omega arith in rw (z, addressed_nobody h.bytes nine))
      (λ m. let z : b / 32 ≡ 7 = omega arith in rw (z, addressed_nobody h.bytes nine))
      l

  asked_by_lem : after_access nine (served ReadC c nine h) ≡ used_at asks p
  unfolding served c_read_of used_at
  asked_by_lem = rw (addressed_nobody h.bytes nine)

  done_reading : after_access nine (read_of (selected_by h) c nine h) ≡ doing (uses (reads (selected_by h).register (selected_by h).size)) p
  unfolding read_of doing used_at
  done_reading = nobody_after _ _ (read_of (selected_by h) c nine h) (read_from_lem c h.page h.register) refl refl

  read_by_lem : after_access nine (d_read_of c nine h) ≡ doing (reading_of (selected_by h)) p
  unfolding d_read_of
  read_by_lem = go (eqb (selected_by h).size 0) (selected_by h).readable
    where
      go : (x y : Bool)
          → after_access nine (cond x (turned_away c h 5) (cond (not y) (turned_away c h 6) (read_of (selected_by h) c nine h)))
          ≡ doing (cond x (refused 5) (cond (not y) (refused 6) (uses (reads (selected_by h).register (selected_by h).size)))) p
      go true y = away 5
      go false false = away 6
      go false true = done_reading

  -- a byte that a register of this role takes
  abbrev put : Role → ℕ → ℕ → Acted
  put role size b = record {
    core = (written_by role b c).core;
    host = (wrote_byte size b h).host;
    answer = Done;
    port = cond (wrote_byte size b h).complete (written_by role b c).port None;
  }

  nobody_else : (t : Bool) → cond {A = Option ℕ} t None None ≡ None
  nobody_else true = refl
  nobody_else false = refl

  plainly : (d : Core) (size b : ℕ)
      → after_access nine
      (record { core = d; host = (wrote_byte size b h).host; answer = Done; port = cond (wrote_byte size b h).complete None None })
      ≡ record { chip = record { core = d; attributes = nine }; host = (wrote_byte size b h).host; answer = Done }
  plainly d size b = rw (nobody_else (wrote_byte size b h).complete, addressed_nobody (wrote_byte size b h).host.bytes nine)

  command_by : (g : Bool) (b : ℕ) (k : Command) → command_of b ≡ k
      → after_access nine (cond (not (is_listed k)) (turned_away c h 4) (put (Commands g) 1 b)) ≡ doing (commanding g b k) p
  unfolding written_by doing
  command_by g b (Set s) e = plainly (obeyed g (command_of b) c) 1 b
  command_by g b (Get q) e = plainly (obeyed g (command_of b) c) 1 b
  command_by g b Unlisted e = away 4

  wrote_by : (w : Row) (role : Role) (b : ℕ) → fits_role role w ≡ true → w.writable ≡ true → w.size ≡ role_size role w.size
      → after_access nine (cond (strange role b) (turned_away c h 4) (put role w.size b)) ≡ doing (writing role b) p
  unfolding written_by doing used_at
  wrote_by w Plain b f y z = absurd (true≢false (sym f ∙ ap not y))
  wrote_by w (Cleared k) b f y z = absurd (true≢false (sym (and_second w.readable (not w.writable) f) ∙ ap not y))
  wrote_by w (Commands g) b f y z = rw z (command_by g b (command_of b) refl)
  wrote_by w (Enables k) b f y z = rw z (plainly _ 1 b)
  wrote_by w (Address i) b f y z = rw z

  write_by : (b : ℕ) → after_access nine (d_write_of c h b) ≡ doing (writing_to (selected_by h) b) p
  unfolding d_write_of write_of
  write_by b = go (eqb (selected_by h).size 0) (selected_by h).writable refl
    where
      go : (x y : Bool) → (selected_by h).writable ≡ y
          → after_access nine
          (cond x (turned_away c h 5)
          (cond (not y) (turned_away c h 6)
          (cond (strange (selected_by h).role b) (turned_away c h 4) (put (selected_by h).role (selected_by h).size b))))
          ≡ doing (cond x (refused 5) (cond (not y) (refused 6) (writing (selected_by h).role b))) p
      go true y e = away 5
      go false false e = away 6
      go false true e = wrote_by (selected_by h) (selected_by h).role b (row_fits h.page h.register) e (role_size_lem h.page h.register)

  served_by : (a : Access) → Bounded (ask.Access a) → after_access nine (served a c nine h) ≡ doing (accessing (selected_by h) a) p
  unfolding served doing
  served_by (WriteC b) l = selected_by_lem b l
  served_by (WriteD b) l = write_by b
  served_by ReadC l = asked_by_lem
  served_by ReadD l = read_by_lem

  taken_by : (a : Asked) (source : List ℕ) → Bounded a → taken a source p.chip h ≡ doing (deed_of (selected_by h) a source) p
  unfolding taken doing deed_of
  taken_by (ask.Burst b) source l = refl
  taken_by (ask.Quiet (Pulse mask)) source l = refl
  taken_by (ask.Quiet Tick) source l = refl
  taken_by (ask.Access a) source l = served_by a l
  taken_by ask.Reset source l = refl
  taken_by (ask.Refused k) source l = refl

pub did : (past : List Deed) (p : Point) → p.host.page ≡ page_by past → p.host.register ≡ register_by past → (bs : List ℕ)
    → step_of p.chip p.host bs ≡ doing (deed_after past bs) p
unfolding step_of deed_after
did past p e f bs =
    rw (← e, ← f) (taken_by p (record_of bs).asked (record_of bs).source (bounded_as bs refl refl))

-- BOUNDS

module _ (p r : ℕ) where
  proper_command : (g : Bool) (b : ℕ) (k : Command) → command_of b ≡ k → Proper (commanding g b k)
  proper_command g b (Set s) e = ap is_listed e
  proper_command g b (Get q) e = ap is_listed e
  proper_command g b Unlisted e = tt

  proper_writing : (role : Role) (b : ℕ) → (row_at p r).role ≡ role → Proper (writing role b)
  proper_writing Plain b e = tt
  proper_writing (Cleared k) b e = tt
  proper_writing (Commands g) b e = proper_command g b (command_of b) refl
  proper_writing (Enables k) b e = ap (λ (role : Role). proper (meant role (row_at p r).register)) (sym e) ∙ proper_role p r
  proper_writing (Address i) b e =
      ltb-true i port_count (ap (λ (role : Role). proper (meant role (row_at p r).register)) (sym e) ∙ proper_role p r)

  proper_write : (b : ℕ) → Proper (writing_to (row_at p r) b)
  proper_write b = go (eqb (row_at p r).size 0) (row_at p r).writable
    where
      go : (x y : Bool) → Proper (cond x (refused 5) (cond (not y) (refused 6) (writing (row_at p r).role b)))
      go true y = tt
      go false false = tt
      go false true = proper_writing (row_at p r).role b refl

  read_listed : eqb (row_at p r).size 0 ≡ false → listed (row_at p r).register ≡ true
  read_listed e = go (listed (row_at p r).register) refl
    where
      go : (x : Bool) → listed (row_at p r).register ≡ x → listed (row_at p r).register ≡ true
      go true l = l
      go false l = absurd (true≢false (sym (ap not l) ∙ sym (row_listed p r) ∙ e))

  proper_read : Proper (reading_of (row_at p r))
  proper_read = go (eqb (row_at p r).size 0) (row_at p r).readable refl
    where
      go : (x y : Bool) → eqb (row_at p r).size 0 ≡ x
          → Proper (cond x (refused 5) (cond (not y) (refused 6) (uses (reads (row_at p r).register (row_at p r).size))))
      go true y e = tt
      go false false e = tt
      go false true e = (proper_register p r, read_listed e, ap (λ (w : Row). w.size) (row_of_register p r))

  proper_selection : (b : ℕ) → ProperUse (selecting b)
  proper_selection b = go (eqb (b / 32) 0b000)
    where
      go : (x : Bool) → ProperUse (cond x (selects_p (b % 32)) (selects_r (b % 32)))
      go true = omega arith
      go false = omega arith

  proper_access : (a : Access) → Proper (accessing (row_at p r) a)
  proper_access (WriteC b) = proper_selection b
  proper_access (WriteD b) = proper_write b
  proper_access ReadC = tt
  proper_access ReadD = proper_read

  proper_of : (a : Asked) (source : List ℕ) → Bounded a → length source ≡ 6 → Proper (deed_of (row_at p r) a source)
  unfolding deed_of
  proper_of (ask.Burst b) source l six = (l, six)
  proper_of (ask.Quiet (Pulse mask)) source l six = l
  proper_of (ask.Quiet Tick) source l six = tt
  proper_of (ask.Access a) source l six = proper_access a
  proper_of ask.Reset source l six = tt
  proper_of (ask.Refused k) source l six = tt

pub proper_deed : (past : List Deed) (bs : List ℕ) → Proper (deed_after past bs)
unfolding deed_after
proper_deed past bs = proper_of (page_by past) (register_by past) (record_of bs).asked (record_of bs).source (bounded_as bs refl refl) (source_six bs)

-- P AND R

module _ (past : List Deed) (p : Point) (e : p.host.page ≡ page_by past) (f : p.host.register ≡ register_by past) where
  abbrev Selected : Deed → Type 0
  Selected d = ((next d p).host.page ≡ page_by (d ∷ past)) × ((next d p).host.register ≡ register_by (d ∷ past))

  used_next : (u : Use) → Selected (uses u)
  unfolding doing used_at page_by register_by wrote_byte read_byte
  used_next (selects_p n) = (refl, f)
  used_next (selects_r n) = (e, refl)
  used_next (allows k b) = (e, f)
  used_next (addresses i b) = (e, f)
  used_next asks = (e, f)
  used_next (reads register size) = (e, f)

  pub selection_next : (d : Deed) → Selected d
  unfolding doing page_by register_by wrote_byte
  selection_next (bursts b source) = (e, f)
  selection_next (pulses mask) = (e, f)
  selection_next ticks = (e, f)
  selection_next (commands g k) = (e, f)
  selection_next (uses u) = used_next u
  selection_next resets = (refl, refl)
  selection_next (refused k) = (e, f)

-- THE REPEATER

module _ (p : Point) where
  obeyed_next : (g : Bool) (k : Command) → (obeyed g k p.chip.core).repeater ≡ obeying k (repeater_at p)
  unfolding obeyed moved
  obeyed_next g (Set s) = refl
  obeyed_next g (Get q) = refl
  obeyed_next g Unlisted = refl

  read_next : (register : Register) → (read_from register p.chip.core).repeater ≡ repeater_at p
  unfolding read_from
  read_next reg.Unlisted = refl
  read_next reg.TransmitCollisions = refl
  read_next reg.TotalOctets = refl
  read_next reg.Version = refl
  read_next reg.SetPort = refl
  read_next reg.GetPort = refl
  read_next (reg.Change r) = refl
  read_next (reg.Enable r) = refl
  read_next (reg.Counter i r) = refl
  read_next (reg.Address i) = refl

  use_next : (u : Use) → repeater_at (next (uses u) p) ≡ repeater_at p
  unfolding doing used_at
  use_next (selects_p n) = refl
  use_next (selects_r n) = refl
  use_next (allows k b) = refl
  use_next (addresses i b) = refl
  use_next asks = refl
  use_next (reads register size) = read_next register

  pub repeater_next : (d : Deed) → repeater_at (next d p) ≡ repeater_by d (repeater_at p)
  unfolding doing repeater_by moved noted_on burst_on burst_core
  repeater_next (bursts b source) = refl
  repeater_next (pulses mask) = refl
  repeater_next ticks = refl
  repeater_next (commands g k) = obeyed_next g (command_of k)
  repeater_next (uses u) = use_next u
  repeater_next resets = refl
  repeater_next (refused k) = refl
