-- Document 01, 'Host registers': accesses with a record that is lent in any state. Assumes nothing.
--   at_32, at_200    == instances: P 32; AUI's address at place 200
--   above_31         == where P or R is above 31, every D access is turned away with 5, and nothing changes
--   past_read, past_write == with a byte place past the register's last byte a D access that is accepted does what it does at the first
use Prim.Native.Nat.{ℕ, ◌≤◌, ◌<◌}
use mathlib.Core.Path.{◌≡◌, refl, ap}
use mathlib.Core.Bool.{Bool, true, false, cond, not, true≢false}
use mathlib.Core.List.{[], ◌∷◌}
use lib.Dec.{eqb}
use Rattle.std.specs.Prelude.{None}
use Rattle.host.specs.declared.Host.{Host}
use Rattle.host.specs.declared.Reading.{Reading}
use Rattle.host.specs.declared.Writing.{Writing}
use Rattle.host.specs.declared.Row.{Row}
use Rattle.host.specs.Sequence.{restarted}
use Rattle.host.proofs.Listed as Listed
use Rattle.host.proofs.AnyRecord.{reads_first, writes_first}
use Rattle.attributes.specs.declared.Nine.{Nine}
use Rattle.answer.specs.declared.Answer.TheVariants.{Done, Value}
use Rattle.chip.specs.declared.Core.{Core}
use Rattle.access.specs.declared.Acted.{Acted}
use Rattle.access.specs.Access.{strange, turned_away, selected_by, value_of, read_by, written_by, read_of, write_of, d_read_of, d_write_of}
use Rattle.access.specs.Refusals.{is_refused}
use Rattle.access.specs.Sheet.{up, counting_ports}
use Rattle.access.proofs.Computing.{accessing}

-- P 32 and R 12, with five bytes behind it
abbrev on32 : Host
on32 = record { page = 32; register = 12; bytes = 1 ∷ 2 ∷ 3 ∷ 4 ∷ 5 ∷ 0 ∷ []; place = 5; writing = true }

at_32 : (d_read_of up counting_ports on32 ≡ turned_away up on32 5) × (d_write_of up on32 7 ≡ turned_away up on32 5)
unfolding accessing
at_32 = (refl, refl)

-- TP3's address, which is 2, 0, 0, 7, 8, 9
abbrev on200 : Host
on200 = record { page = 19; register = 14; bytes = 1 ∷ 1 ∷ 1 ∷ 1 ∷ 1 ∷ 1 ∷ []; place = 200; writing = false }

at_200 : ((d_read_of up counting_ports on200).answer ≡ Value 2) × ((d_read_of up counting_ports on200).host.place ≡ 1)
unfolding accessing
at_200 = (refl, refl {a = 1})

module _ (c : Core) (h : Host) where
  pub above_31 : (nine : Nine) (b : ℕ) → (h.page < 32 → h.register < 32 → ⊥) → (d_read_of c nine h ≡ turned_away c h 5) × (d_write_of c h b ≡ turned_away c h 5)
  unfolding d_read_of d_write_of
  above_31 nine b f =
      let e = Listed.above_31 h.page h.register f in
      (rw e, rw e)

  read_first : (w : Row) (nine : Nine) → w.size ≤ h.place → read_of w c nine h ≡ read_of w c nine (restarted h)
  unfolding read_of
  read_first w nine l =
      ap (λ (q : Reading). record { core = read_by w.role c; host = q.host; answer = Value q.byte; port = None })
      (reads_first w.size h (value_of c nine w.register) l)

  write_first : (w : Row) (b : ℕ) → w.size ≤ h.place → write_of w c h b ≡ write_of w c (restarted h) b
  unfolding write_of
  write_first w b l =
      ap (λ (t : Writing). record { core = (written_by w.role b c).core; host = t.host; answer = Done; port = cond t.complete (written_by w.role b c).port None })
      (writes_first w.size h b l)

  pub past_read : (nine : Nine) → (selected_by h).size ≤ h.place → is_refused (d_read_of c nine h).answer ≡ false → d_read_of c nine h ≡ d_read_of c nine (restarted h)
  unfolding d_read_of
  past_read nine l =
      go (eqb (selected_by h).size 0) (selected_by h).readable (read_of (selected_by h) c nine h) (read_of (selected_by h) c nine (restarted h))
      (read_first (selected_by h) nine l)
    where
      go : (x y : Bool) (t s : Acted) → t ≡ s → is_refused (cond x (turned_away c h 5) (cond (not y) (turned_away c h 6) t)).answer ≡ false
          → cond x (turned_away c h 5) (cond (not y) (turned_away c h 6) t) ≡ cond x (turned_away c (restarted h) 5) (cond (not y) (turned_away c (restarted h) 6) s)
      go true y t s e a = absurd (true≢false a)
      go false true t s e a = e
      go false false t s e a = absurd (true≢false a)

  pub past_write : (b : ℕ) → (selected_by h).size ≤ h.place → is_refused (d_write_of c h b).answer ≡ false → d_write_of c h b ≡ d_write_of c (restarted h) b
  unfolding d_write_of
  past_write b l =
      go (eqb (selected_by h).size 0) (selected_by h).writable (strange (selected_by h).role b) (write_of (selected_by h) c h b)
      (write_of (selected_by h) c (restarted h) b) (write_first (selected_by h) b l)
    where
      go : (x y z : Bool) (t s : Acted) → t ≡ s
          → is_refused (cond x (turned_away c h 5) (cond (not y) (turned_away c h 6) (cond z (turned_away c h 4) t))).answer ≡ false
          → cond x (turned_away c h 5) (cond (not y) (turned_away c h 6) (cond z (turned_away c h 4) t))
          ≡ cond x (turned_away c (restarted h) 5) (cond (not y) (turned_away c (restarted h) 6) (cond z (turned_away c (restarted h) 4) s))
      go true y z t s e a = absurd (true≢false a)
      go false true true t s e a = absurd (true≢false a)
      go false true false t s e a = e
      go false false z t s e a = absurd (true≢false a)
