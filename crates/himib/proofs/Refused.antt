-- Document 01, 'Numbers turned away with': what is turned away changes nothing, and the number is the first of the one table.
-- Assumes nothing.
use Prim.Native.Nat.{ℕ, zero, suc, ◌<◌}
use mathlib.Core.Path.{◌≡◌, refl, sym, ap, ◌∙◌}
use mathlib.Core.Bool.{Bool, true, false, cond, not, ◌&&◌, ◌||◌, or-false, true≢false}
use mathlib.Core.List.{List, [], ◌∷◌, ◌++◌}
use mathlib.Core.Option.{Option, none, some}
use native.Mathlib.Omega.{arith}
use borrow.Author.Tests.{ne_eqb}
use lib.Dec.{eqb}
use lib.ListN.{length, set}
use Rattle.record.specs.declared.Access.{Access}
use Rattle.record.specs.declared.Access.TheVariants.{WriteC, WriteD, ReadC, ReadD}
use Rattle.record.specs.Record.{record_length, kind, written, byte_in, d_write_kind, d_read_kind, kinds, find, stray}
use Rattle.record.specs.Records.{no_address, burst_record, plain_record, c_write_record, d_write_record, d_read_record}
use Rattle.record.specs.Refusals.{Row, refusals, first_of, answer, asked_by, record_of}
use Rattle.host.specs.declared.Host.{Host}
use Rattle.host.specs.declared.Row as R
use Rattle.host.specs.Sequence.{power_up, with_selection}
use Rattle.attributes.specs.declared.Nine.{Nine}
use Rattle.answer.specs.Answer.{number_of, outputs_of, byte_of}
use Rattle.answer.specs.declared.Answer.{Answer}
use Rattle.answer.specs.declared.Answer.TheVariants.{Refused}
use Rattle.chip.specs.declared.Chip.{Chip}
use Rattle.access.specs.declared.Acted.{Acted}
use Rattle.access.specs.Access.{selected_by, strange, served}
use Rattle.access.specs.Refusals.{listed, write_only, read_only, rows_of, is_refused, Left}
use Rattle.access.proofs.Refused.{left}
use Rattle.himib.specs.declared.Stepped.{Stepped}
use Rattle.himib.specs.Bursts.{noted_on, burst_on}
use Rattle.himib.specs.Step.{after_access, turned, taken, step_of}
use Rattle.himib.specs.Runs.{start, all_at}
use Rattle.himib.specs.Refusals.{access_refusals, refusals_of, Settled, Untouched}
use Rattle.himib.proofs.HimibLaws.{addressed_nobody}
use Rattle.himib.proofs.Computing.{computing}

-- records that are turned away, each with the host's record that it comes with, in the table's order: S is P 0, R 30
abbrev on_s : Host
on_s = with_selection power_up 0 30

abbrev turned_aways : List (Host × List ℕ)
turned_aways =
    (power_up, [])
    ∷ (power_up, plain_record 9 0 0)
    ∷ (power_up, burst_record 512 0 1 0 0 0 0 no_address)
    ∷ (power_up, burst_record 1 0 0 0 0 0 0 no_address)
    ∷ (power_up, burst_record 0 0 1 0 0 0 0 no_address)
    ∷ (power_up, c_write_record 0x20)
    ∷ (power_up, d_read_record)
    ∷ (on_s, d_read_record)
    ∷ (on_s, d_write_record 0)
    ∷ []

-- the same with the next condition holding as well, where both can
abbrev turned_twice : List (Host × List ℕ)
turned_twice =
    (power_up, 9 ∷ [])
    ∷ (power_up, set (burst_record 512 0 1 0 0 0 0 no_address) 14 1)
    ∷ (power_up, burst_record 512 0 0 0 0 0 0 no_address)
    ∷ (power_up, burst_record 0 0 0 0 0 0 0 no_address)
    ∷ (power_up, set (c_write_record 0x20) 31 1)
    ∷ (on_s, set (d_write_record 0) 24 1)
    ∷ []

numbers : List (Host × List ℕ) → List (Option ℕ)
numbers [] = []
numbers (w ∷ ws) = first_of (refusals_of w.0 w.1) ∷ numbers ws

answered : List (Host × List ℕ) → List Answer
answered [] = []
answered (w ∷ ws) = (step_of (start (all_at 0)).chip w.0 w.1).answer ∷ answered ws

each_number : (answered turned_aways ≡ Refused 9 ∷ Refused 8 ∷ Refused 3 ∷ Refused 2 ∷ Refused 1 ∷ Refused 7 ∷ Refused 5 ∷ Refused 6 ∷ Refused 4 ∷ [])
    × (numbers turned_aways ≡ some 9 ∷ some 8 ∷ some 3 ∷ some 2 ∷ some 1 ∷ some 7 ∷ some 5 ∷ some 6 ∷ some 4 ∷ [])
    × (answered turned_twice ≡ Refused 9 ∷ Refused 8 ∷ Refused 3 ∷ Refused 2 ∷ Refused 8 ∷ Refused 8 ∷ [])
unfolding computing access_refusals refusals_of numbers answered
each_number = (refl, refl, refl)

-- the first of two tables
abbrev or_else : Option ℕ → Option ℕ → Option ℕ
or_else none p = p
or_else (some k) p = some k

first_append : (rs ts : List Row) → first_of (rs ++ ts) ≡ or_else (first_of rs) (first_of ts)
unfolding first_of
first_append [] ts = refl
first_append (r ∷ rs) ts = go r.holds (first_append rs ts)
  where
    go : (b : Bool) → first_of (rs ++ ts) ≡ or_else (first_of rs) (first_of ts)
        → cond b (some r.number) (first_of (rs ++ ts)) ≡ or_else (cond b (some r.number) (first_of rs)) (first_of ts)
    go true e = refl
    go false e = e

-- an access that is left as it was leaves the chip so, too
module _ (s : Chip) (h : Host) where
  lifted : (o : Option ℕ) (t : Acted) → Left o s.core h t → Settled o s h (after_access s.attributes t)
  lifted none t e = e
  lifted (some k) t e = ap (after_access s.attributes) e
      ∙ ap (λ (nine : Nine). turned (record { core = s.core; attributes = nine }) h k) (addressed_nobody h.bytes s.attributes)

  settled_access : (a : Access) → Settled (first_of (rows_of a (selected_by h))) s h (after_access s.attributes (served a s.core s.attributes h))
  settled_access a = lifted (first_of (rows_of a (selected_by h))) (served a s.core s.attributes h) (left s.core s.attributes h a)

-- the rows of an access for a record of kind n with the written byte b, where w is selected
abbrev rows_for : ℕ → R.Row → ℕ → Option ℕ
rows_for n w b =
    cond ((eqb n d_write_kind || eqb n d_read_kind) && not (listed w)) (some 5)
    (cond (eqb n d_read_kind && write_only w || eqb n d_write_kind && read_only w) (some 6)
    (cond (eqb n d_write_kind && strange w.role b) (some 4) none))

access_rows : (h : Host) (bs : List ℕ) → first_of (access_refusals h bs) ≡ rows_for (byte_in bs kind) (selected_by h) (byte_in bs written)
unfolding first_of access_refusals
access_rows h bs = refl

no_kind : (n : ℕ) (bs : List ℕ) → 8 < n → stray n bs ≡ true
unfolding stray find
no_kind n bs l =
    simp (
      ne_eqb n 1 (λ e. omega arith),
      ne_eqb n 2 (λ e. omega arith),
      ne_eqb n 3 (λ e. omega arith),
      ne_eqb n 4 (λ e. omega arith),
      ne_eqb n 5 (λ e. omega arith),
      ne_eqb n 6 (λ e. omega arith),
      ne_eqb n 7 (λ e. omega arith),
      ne_eqb n 8 (λ e. omega arith),
    )

module _ (s : Chip) (h : Host) (bs source : List ℕ) where
  settled_kind : (n : ℕ) → stray n bs ≡ false
      → Settled (rows_for n (selected_by h) (byte_in bs written)) s h (taken (asked_by (find kinds n) bs) source s h)
  unfolding taken find stray noted_on burst_on first_of
  settled_kind zero e = absurd (true≢false e)
  settled_kind (suc zero) e = refl
  settled_kind (suc (suc zero)) e = refl
  settled_kind (suc (suc (suc zero))) e = refl
  settled_kind (suc (suc (suc (suc zero)))) e = settled_access s h (WriteC (byte_in bs written))
  settled_kind (suc (suc (suc (suc (suc zero))))) e = settled_access s h (WriteD (byte_in bs written))
  settled_kind (suc (suc (suc (suc (suc (suc zero)))))) e = settled_access s h ReadC
  settled_kind (suc (suc (suc (suc (suc (suc (suc zero))))))) e = rw (or-false (write_only (selected_by h))) (settled_access s h ReadD)
  settled_kind (suc (suc (suc (suc (suc (suc (suc (suc zero)))))))) e = refl
  settled_kind (suc (suc (suc (suc (suc (suc (suc (suc (suc n))))))))) e =
      absurd (true≢false (sym (no_kind (suc (suc (suc (suc (suc (suc (suc (suc (suc n))))))))) bs (omega arith)) ∙ e))

-- of two rows the second does not hold where the table has no number
second_fails : (a b : Bool) (j k : ℕ) (o : Option ℕ) → cond a (some j) (cond b (some k) o) ≡ none → b ≡ false
second_fails true b j k o e = let z : ◌≡◌ {A = ℕ} 0 1 = cc in absurd (omega arith)
second_fails false true j k o e = let z : ◌≡◌ {A = ℕ} 0 1 = cc in absurd (omega arith)
second_fails false false j k o e = refl

not_stray : (bs : List ℕ) → first_of (refusals bs) ≡ none → stray (byte_in bs kind) bs ≡ false
unfolding first_of refusals
not_stray bs e = second_fails (not (eqb (length bs) record_length)) (stray (byte_in bs kind) bs) 9 8 _ e

module _ (s : Chip) (h : Host) (bs : List ℕ) where
  own_row : (k : ℕ) → first_of (refusals bs) ≡ some k → step_of s h bs ≡ turned s h k
  unfolding step_of record_of answer taken
  own_row k e = rw e

  access_row : first_of (refusals bs) ≡ none → Settled (first_of (access_refusals h bs)) s h (step_of s h bs)
  unfolding step_of record_of answer
  access_row e = rw (e, access_rows h bs) (settled_kind s h bs (answer none bs).source (byte_in bs kind) (not_stray bs e))

  -- Every record, whatever its bytes, on every chip and with every host's record: turned away with the first number of the table whose condition holds, and
  -- then nothing has changed; and with no number where none holds.
  pub settled : Settled (first_of (refusals_of h bs)) s h (step_of s h bs)
  unfolding refusals_of
  settled = rw (first_append (refusals bs) (access_refusals h bs)) (go (first_of (refusals bs)) refl)
    where
      go : (o : Option ℕ) → first_of (refusals bs) ≡ o → Settled (or_else o (first_of (access_refusals h bs))) s h (step_of s h bs)
      go (some k) e = own_row k e
      go none e = access_row e

  -- Turned away with k exactly if k is the first number of the table whose condition holds.
  pub refused_first_lem : (k : ℕ) → (step_of s h bs).answer ≡ Refused k → first_of (refusals_of h bs) ≡ some k
  refused_first_lem k e = go (first_of (refusals_of h bs)) settled
    where
      go : (o : Option ℕ) → Settled o s h (step_of s h bs) → o ≡ some k
      go none w = absurd (true≢false (sym (ap is_refused e) ∙ w))
      go (some j) w = let r : Refused j ≡ Refused k = sym (ap (λ (t : Stepped). t.answer) w) ∙ e in cc

  turned_away_lem : (k : ℕ) → first_of (refusals_of h bs) ≡ some k → step_of s h bs ≡ turned s h k
  turned_away_lem k e = rw e at settled

  pub first_refused : (k : ℕ) → first_of (refusals_of h bs) ≡ some k → (step_of s h bs).answer ≡ Refused k
  first_refused k e = ap (λ (t : Stepped). t.answer) (turned_away_lem k e)

  -- What is turned away leaves the chip and the host's record as they were, sends nothing out and gives no value.
  pub refused_untouched : (k : ℕ) → (step_of s h bs).answer ≡ Refused k → Untouched s h (step_of s h bs) k
  refused_untouched k e =
      let w = turned_away_lem k (refused_first_lem k e) in
      record {
        chip = ap (λ (t : Stepped). t.chip) w;
        host = ap (λ (t : Stepped). t.host) w;
        number = ap number_of e;
        outputs = ap outputs_of e;
        value = ap byte_of e;
      }
