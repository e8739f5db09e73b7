-- Demand 2: bytes read in sequence are those of one value, and four of them spell the counter. Assumes nothing.
--   host_kept, host_read == what a record does to the host's record where nothing disturbs a sequence: nothing, or it reads a byte
--   further              == the reads after the first give the bytes of the copy, whatever comes between them
--   four_bytes_at        == four bytes spell the number, at any point with such counters as there are
use Prim.Native.Nat.{ℕ, zero, suc, ◌+◌, ◌^◌, ◌≤◌, ◌<◌}
use mathlib.Core.Path.{◌≡◌, refl, sym, ap, ◌∙◌}
use mathlib.Core.Bool.{Bool, true, false, cond, not, ◌&&◌, ◌||◌, true≢false}
use mathlib.Core.List.{List, [], ◌∷◌, ◌++◌}
use native.Mathlib.Omega.{arith}
use native.Mathlib.Nat.{add-zero, le_of_eq}
use native.Mathlib.Numerals.{one-add}
use borrow.Author.Tests.{not-true}
use lib.Dec.{eqb}
use lib.ListN.{length, get_or, take, replicate, get_or-append}
use lib.Seq.{ext_get_or, get_or-take, length-take-le}
use Rattle.spelling.specs.Spelling.{least_first, spelt}
use Rattle.spelling.proofs.Spells.{spells}
use Rattle.ports.proofs.Sets.{and_first, and_second}
use Rattle.record.specs.declared.Access.TheVariants.{WriteC, WriteD, ReadC, ReadD}
use Rattle.record.specs.declared.Asked.{Asked}
use Rattle.record.specs.declared.Asked.TheVariants as ask
use Rattle.record.specs.Refusals.{record_of}
use Rattle.record.specs.Accepted.{kind_number}
use Rattle.record.specs.Records.{no_address, c_write_record, d_read_record}
use Rattle.host.specs.declared.Host.{Host}
use Rattle.host.specs.declared.Reading.{Reading}
use Rattle.host.specs.declared.Row.{Row}
use Rattle.host.specs.Bytes.{spread_of}
use Rattle.host.specs.Sequence.{with_sequence, place_for, read_byte, next_place}
use Rattle.host.proofs.Listed.{row_of_register, proper_register}
use Rattle.host.proofs.Places.{next_on}
use Rattle.host.proofs.Copied.{read_first, read_on}
use Rattle.answer.specs.Answer.{byte_of}
use Rattle.chip.specs.declared.Chip.{Chip}
use Rattle.access.specs.declared.Acted.{Acted}
use Rattle.access.specs.Access.{selected_by, value_of, c_read_of, read_of, d_read_of, served}
use Rattle.access.proofs.Cases.{read_cases}
use Rattle.access.proofs.Values.{value_number}
use Rattle.himib.specs.Step.{taken, step_of}
use Rattle.himib.specs.Runs.{Point, Happening, happening, start, Given, accepted, selects, writes, reads, resets, counter_at, history_of, run_of, all_at}
use Rattle.himib.proofs.Runs.{all_given, found, found_once}
use Rattle.pass.specs.Judged.{happens, history, run}
use Rattle.pass.specs.Pass.{bytes_read, undisturbed, register_of, bytes_of, Sequence, SequenceIsOneValue, number_in, FourBytes}
use Rattle.pass.proofs.Computing.{step_computes, somebody, aui_frame, selecting, reading}
use Rattle.record.proofs.KindLaws.{quiet_is_no}
use Rattle.pass.proofs.Credited.{Fit, fit_run, fit_start}
use Rattle.pass.proofs.TurnedAway.{host_left}

-- INSTANCES

-- AUI's Readable Frames, selected, and read while a frame comes after the first byte: the counter moves on to 0x04030300, the bytes do not
abbrev powered : Point
powered = start (all_at 0x040302ff)

abbrev begun : Point
begun = run powered selecting

-- where the sequence begins: its place, the register's bytes, its value, and the counter
record Begun : Type 0 where
  place : ℕ
  size : ℕ
  value : List ℕ
  counter : ℕ
  number : ℕ

abbrev begun_of : Point → List Happening → Begun
begun_of p hs = record {
  place = place_for false (bytes_of p) p.host;
  size = bytes_of p;
  value = value_of p.chip.core (all_at 0x040302ff).attributes (register_of p);
  counter = counter_at 8 0 p;
  number = number_in (register_of p) p;
}

begins_at : found happens begun_of powered selecting
    ≡ record { place = 0; size = 4; value = 0xff ∷ 0x02 ∷ 0x03 ∷ 0x04 ∷ 0 ∷ 0 ∷ []; counter = 0x040302ff; number = 0x040302ff }
unfolding step_computes happening history_of run_of
begins_at = found_once happens begun_of powered selecting refl

-- what was read: whether anything disturbed it, the bytes, and the counter after it
record Read : Type 0 where
  quiet : Bool
  bytes : List ℕ
  counter : ℕ

abbrev read_off : Point → List Happening → Read
read_off p hs = record { quiet = undisturbed hs; bytes = bytes_read hs; counter = counter_at 8 0 p }

reads_on : found happens read_off begun (d_read_record ∷ reading) ≡ record { quiet = true; bytes = 0xff ∷ 0x02 ∷ 0x03 ∷ 0x04 ∷ []; counter = 0x04030300 }
unfolding step_computes happening history_of run_of accepted bytes_read undisturbed
reads_on = found_once happens read_off begun (d_read_record ∷ reading) refl

first_read : reads (happens begun d_read_record) ≡ true
unfolding step_computes happening run_of accepted
first_read = refl {a = true}

its_bytes : (bytes_read (history begun (d_read_record ∷ reading)) ≡ 0xff ∷ 0x02 ∷ 0x03 ∷ 0x04 ∷ [])
    × (value_of begun.chip.core (all_at 0x040302ff).attributes (register_of begun) ≡ 0xff ∷ 0x02 ∷ 0x03 ∷ 0x04 ∷ 0 ∷ 0 ∷ [])
its_bytes = (ap (λ (s : Read). s.bytes) reads_on, ap (λ (s : Begun). s.value) begins_at)

four_selected : bytes_of begun ≡ 4
four_selected = ap (λ (s : Begun). s.size) begins_at

a_sequence : Sequence begun d_read_record reading
a_sequence =
    record {
      begins = ap (λ (s : Begun). s.place) begins_at;
      first = first_read;
      quiet = ap (λ (s : Read). s.quiet) reads_on;
      enough = le_of_eq (four_selected ∙ sym (ap (λ (s : Read). length s.bytes) reads_on));
    }

moved_on : (counter_at 8 0 begun ≡ 0x040302ff) × (counter_at 8 0 (run begun (d_read_record ∷ reading)) ≡ 0x04030300)
moved_on = (ap (λ (s : Begun). s.counter) begins_at, ap (λ (s : Read). s.counter) reads_on)

-- six bytes: AUI's address, read twice over with the same frame after the first byte
abbrev addressed : Point
addressed = run powered (c_write_record 0x1f ∷ c_write_record 0xee ∷ [])

abbrev bytes_off : Point → List Happening → List ℕ
bytes_off p hs = bytes_read hs

its_address : (bytes_of addressed ≡ 6)
    × (found happens bytes_off addressed (d_read_record ∷ aui_frame ∷ replicate 11 d_read_record) ≡ no_address ++ somebody)
unfolding step_computes happening history_of run_of accepted bytes_read
its_address = (refl {a = 6}, found_once happens bytes_off addressed (d_read_record ∷ aui_frame ∷ replicate 11 d_read_record) refl)

-- one byte: AUI's source address change, which the read itself clears
abbrev changed : Point
changed = run powered (aui_frame ∷ c_write_record 0x01 ∷ c_write_record 0xe7 ∷ [])

its_bit : (bytes_of changed ≡ 1) × (found happens bytes_off changed (d_read_record ∷ d_read_record ∷ []) ≡ 0x80 ∷ 0 ∷ [])
unfolding step_computes happening history_of run_of accepted bytes_read
its_bit = (refl {a = 1}, found_once happens bytes_off changed (d_read_record ∷ d_read_record ∷ []) refl)

four_spelt : Given (all_at 0x040302ff)
    × (bytes_of begun ≡ 4)
    × (spelt (take 4 (bytes_read (history begun (d_read_record ∷ reading)))) ≡ 0x040302ff)
    × (number_in (register_of begun) begun ≡ 0x040302ff)
four_spelt = (
  all_given 0x040302ff (omega arith),
  four_selected,
  ap (λ (s : Read). spelt (take 4 s.bytes)) reads_on,
  ap (λ (s : Begun). s.number) begins_at,
)

-- ONE RECORD

-- a D read of the register that h selects
abbrev reading_at : Chip → Host → Reading
reading_at s h = read_byte (selected_by h).size (value_of s.core s.attributes (selected_by h).register) h

-- what an accepted record does to the host's record
module _ (source : List ℕ) (s : Chip) (h : Host) where
  kept_by : (a : Asked) → (eqb (kind_number a) 4 || eqb (kind_number a) 5 && true || eqb (kind_number a) 8) ≡ false → (eqb (kind_number a) 7 && true) ≡ false
      → (taken a source s h).host ≡ h
  unfolding taken served c_read_of
  kept_by (ask.Burst b) d e = refl
  kept_by (ask.Quiet q) d e = refl
  kept_by (ask.Access (WriteC b)) d e = absurd (true≢false d)
  kept_by (ask.Access (WriteD b)) d e = absurd (true≢false d)
  kept_by (ask.Access ReadC) d e = refl
  kept_by (ask.Access ReadD) d e = absurd (true≢false e)
  kept_by ask.Reset d e = absurd (true≢false d)
  kept_by (ask.Refused k) d e = refl

  -- an accepted D read
  abbrev Gives : Acted → Type 0
  Gives t = accepted t.answer ≡ true → (t.host ≡ (reading_at s h).host) × (byte_of t.answer ≡ (reading_at s h).byte)

  gives_read : Gives (d_read_of s.core s.attributes h)
  unfolding read_of accepted
  gives_read = read_cases Gives s.core h (λ k e. absurd (true≢false (sym e))) s.attributes (λ e. (refl, refl))

  read_by_lem : (a : Asked) → (eqb (kind_number a) 7 && accepted (taken a source s h).answer) ≡ true
      → ((taken a source s h).host ≡ (reading_at s h).host) × (byte_of (taken a source s h).answer ≡ (reading_at s h).byte)
  unfolding taken served
  read_by_lem (ask.Burst b) e = absurd (true≢false (sym e))
  read_by_lem (ask.Quiet q) e = absurd (true≢false (sym (and_first _ _ e) ∙ quiet_is_no 7 refl q))
  read_by_lem (ask.Access (WriteC b)) e = absurd (true≢false (sym e))
  read_by_lem (ask.Access (WriteD b)) e = absurd (true≢false (sym e))
  read_by_lem (ask.Access ReadC) e = absurd (true≢false (sym e))
  read_by_lem (ask.Access ReadD) e = gives_read e
  read_by_lem ask.Reset e = absurd (true≢false (sym e))
  read_by_lem (ask.Refused k) e = absurd (true≢false (sym e))

module _ (p : Point) (r : List ℕ) where
  abbrev disturbs : Bool
  disturbs = selects (happens p r) || writes (happens p r) || resets (happens p r)

  host_kept : disturbs ≡ false → reads (happens p r) ≡ false → (happens p r).after.host ≡ p.host
  unfolding happening step_of
  host_kept d e = go (accepted (happens p r).answer) refl
    where
      go : (b : Bool) → accepted (happens p r).answer ≡ b → (happens p r).after.host ≡ p.host
      go true t = kept_by (record_of r).source p.chip p.host (record_of r).asked (rw t at d) (rw t at e)
      go false t = host_left p r t

  host_read : reads (happens p r) ≡ true
      → ((happens p r).after.host ≡ (reading_at p.chip p.host).host) × (byte_of (happens p r).answer ≡ (reading_at p.chip p.host).byte)
  unfolding happening step_of
  host_read e = read_by_lem (record_of r).source p.chip p.host (record_of r).asked e

-- reads further on in a sequence of the register that h selects, of which v was copied
module _ (h : Host) (v : List ℕ) where
  abbrev size : ℕ
  size = (selected_by h).size

  read_further : (q : Point) (r : List ℕ) (i : ℕ) → q.host ≡ with_sequence h v i false → 0 < i → i < size → reads (happens q r) ≡ true
      → ((happens q r).after.host ≡ with_sequence h v (next_place size i) false) × (byte_of (happens q r).answer ≡ get_or v i 0)
  read_further q r i e l u t =
      let k = host_read q r t in
      let w = value_of q.chip.core q.chip.attributes (selected_by h).register in
      let o = ap (reading_at q.chip) e ∙ read_on size w v h i l u in
      (k.0 ∙ ap (λ (x : Reading). x.host) o, k.1 ∙ ap (λ (x : Reading). x.byte) o)

  abbrev Further : List (List ℕ) → Type 0
  Further rs =
      (q : Point) (i j : ℕ) → q.host ≡ with_sequence h v i false → 0 < i → i + j < size
      → undisturbed (history q rs) ≡ true → j < length (bytes_read (history q rs))
      → get_or (bytes_read (history q rs)) j 0 ≡ get_or v (i + j) 0

  further : (rs : List (List ℕ)) → Further rs
  unfolding history_of bytes_read undisturbed
  further [] q i j e l u d f = absurd (omega arith)
  further (r ∷ rs) q i j e l u d f = go (reads (happens q r)) refl j u f (further rs)
    where
      next : Point
      next = (happens q r).after

      later : List ℕ
      later = bytes_read (history next rs)

      still : disturbs q r ≡ false
      still = not-true (disturbs q r) (and_first (not (disturbs q r)) (undisturbed (history next rs)) d)

      quiet : undisturbed (history next rs) ≡ true
      quiet = and_second (not (disturbs q r)) (undisturbed (history next rs)) d

      go : (b : Bool) → reads (happens q r) ≡ b → (j : ℕ) → i + j < size → j < length (cond b (byte_of (happens q r).answer ∷ later) later)
          → Further rs
          → get_or (cond b (byte_of (happens q r).answer ∷ later) later) j 0 ≡ get_or v (i + j) 0
      go false t j u f more = more next i j (host_kept q r still t ∙ e) l u quiet f
      go true t zero u f more = (read_further q r i e l (omega arith) t).1 ∙ rw (add-zero i)
      go true t (suc j) u f more =
          let k = (read_further q r i e l (omega arith) t).0 in
          let m : suc i + j ≡ i + suc j = omega arith in
          more next (suc i) j (k ∙ rw (next_on size i (omega arith))) (omega arith) (omega arith) quiet (omega arith) ∙ rw m

-- the first read, and what comes after it
pub sequence_is_one_value : SequenceIsOneValue
unfolding history_of bytes_read undisturbed
sequence_is_one_value p r rs s i u = rw s.first (go i u)
  where
    h : Host
    h = p.host

    v : List ℕ
    v = value_of p.chip.core p.chip.attributes (selected_by h).register

    next : Point
    next = (happens p r).after

    later : List ℕ
    later = bytes_read (history next rs)

    enough : size h v ≤ suc (length later)
    enough = rw s.first at s.enough

    go : (i : ℕ) → i < size h v → get_or (byte_of (happens p r).answer ∷ later) i 0 ≡ get_or v i 0
    go zero u = (host_read p r s.first).1 ∙ ap (λ (x : Reading). x.byte) (read_first (size h v) v h s.begins)
    go (suc i) u =
        further h v rs next 1 i
        ((host_read p r s.first).0 ∙ ap (λ (x : Reading). x.host) (read_first (size h v) v h s.begins) ∙ rw (next_on (size h v) 0 (omega arith)))
        (omega arith)
        (omega arith)
        (and_second (not (disturbs p r)) (undisturbed (history next rs)) s.quiet)
        (omega (arith, enough))
        ∙ rw (one-add i)

-- FOUR BYTES

-- a register of four bytes spreads its number, which is below 2^32 at a point with such counters as there are
module _ (p : Point) (g : Fit p) where
  pub four_bytes_at : (r : List ℕ) (rs : List (List ℕ)) → bytes_of p ≡ 4 → Sequence p r rs
      → spelt (take 4 (bytes_read (history p (r ∷ rs)))) ≡ number_in (register_of p) p
  four_bytes_at r rs e s = ap spelt first_four ∙ spells 4 n k.1
    where
      n : ℕ
      n = number_in (register_of p) p

      k : (value_of p.chip.core p.chip.attributes (register_of p) ≡ spread_of n) × (n < 2 ^ 32)
      k =
          value_number p.chip.core p.chip.attributes g.attributes g.collisions-low g.octets-low (register_of p)
          (proper_register p.host.page p.host.register)
          (ap (λ (w : Row). w.size) (row_of_register p.host.page p.host.register) ∙ e)

      bs : List ℕ
      bs = bytes_read (history p (r ∷ rs))

      first_four : take 4 bs ≡ least_first 4 n
      first_four =
          ext_get_or 0 (take 4 bs) (least_first 4 n) (length-take-le 4 bs (rw e at s.enough))
          (λ i u.
          let l : i < 4 = rw (length-take-le 4 bs (rw e at s.enough)) at u in
          get_or-take 4 bs i 0 l
          ∙ sequence_is_one_value p r rs s i (rw e l)
          ∙ ap (λ (w : List ℕ). get_or w i 0) k.0
          ∙ get_or-append (least_first 4 n) (replicate 2 0) 0 i l)

pub four_bytes : FourBytes
four_bytes given g before r rs e s =
    four_bytes_at (run (start given) before) (fit_run (start given) before (fit_start given g)) r rs e s
