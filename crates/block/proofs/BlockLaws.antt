-- The block's definitions, turn by turn, as the loop goes. Assumes nothing.
--   begins, ends, fills == the loop begins; it ends where no whole record is left, and where there is no room for a line
--   piece_off, rest_off, whole_off == a piece that comes off the rest of the input is the piece at its place; what is then left; there was a whole one
--   turned              == a record read, answered and told leads to where the loop stands next, whatever it asked for
--   step_burst, step_quiet, step_c_write, step_d_write, step_c_read, step_d_read, step_reset, step_refused
--                       == what it leads to, for each thing that it can ask for
--   piece_refused       == what is no whole record is turned away with 9
use Rattle.std.proofs.Common.{◌≡◌, ℕ, zero, suc, ◌+◌, ◌-◌, ◌/◌, ◌<◌, ◌≤◌, true, false, List, ◌++◌, length, take, drop, sym, refl, ap, ◌∙◌, arith, length-append, length-drop, length-take, ne_eqb}
use Rattle.std.proofs.Math.Seq.{take-append_seam, drop-append_seam, drop-drop}
use Rattle.ports.specs.declared.Quiet.{Quiet}
use Rattle.std.specs.Prelude.{None}
use Rattle.record.specs.declared.Access.{Access}
use Rattle.record.specs.declared.Access.TheVariants.{WriteC, WriteD, ReadC, ReadD}
use Rattle.record.specs.declared.Asked.{Asked}
use Rattle.record.specs.declared.Asked.TheVariants as ask
use Rattle.record.specs.declared.Burst.{Burst}
use Rattle.record.specs.declared.Record.{Record}
use Rattle.record.specs.Record.{record_length}
use Rattle.record.specs.Refusals.{refusals, first_of, answer, record_of}
use Rattle.repeater.specs.Repeater.{quieted}
use Rattle.host.specs.declared.Host.{Host}
use Rattle.host.specs.Sequence.{power_up, selected}
use Rattle.answer.specs.declared.Answer.{Answer}
use Rattle.answer.specs.declared.Answer.TheVariants.{Refused}
use Rattle.answer.specs.Line.{line_of}
use Rattle.answer.specs.Put.{WrittenLine, room, has_room, laid, after_line, with_line}
use Rattle.answer.proofs.Room as rooms
use Rattle.attributes.specs.declared.Nine.{Nine}
use Rattle.chip.specs.declared.Core.{Core}
use Rattle.chip.specs.Chip.{moved, core_reset, with_core}
use Rattle.access.specs.declared.Acted.{Acted}
use Rattle.access.specs.Access.{d_write_of, c_read_of, d_read_of, served}
use Rattle.access.proofs.Cases.{read_nobody}
use Rattle.himib.specs.declared.Credited.{Credited}
use Rattle.himib.specs.declared.Stepped.{Stepped}
use Rattle.himib.specs.Bursts.{burst_on}
use Rattle.himib.specs.Step.{step_of, taken, after_burst, after_access, addressed_at, finished}
use Rattle.himib.specs.Step as step
use Rattle.himib.specs.Runs.{Point, at, happening}
use Rattle.himib.proofs.HimibLaws.{addressed_nobody}
use Rattle.block.specs.Block.{Work, piece, after_record, worked, begun, block_of, Answered}
use Rattle.block.specs.Turns.{left, Stands, Reading}

module _ (s : List ℕ) (w : Work) where
  worked_full : (k : ℕ) → has_room w.out w.used ≡ false → w ≡ worked k s w
  unfolding worked
  worked_full zero e = refl
  worked_full (suc k) e = rw e

  worked_one : (k : ℕ) → has_room w.out w.used ≡ true → worked (suc k) s w ≡ worked k s (after_record s w)
  unfolding worked
  worked_one k e = rw e

  worked_end : length s - w.at < record_length → w ≡ worked (left s w) s w
  unfolding worked
  worked_end h = let z : left s w ≡ 0 = omega arith in rw z

  worked_more : record_length ≤ length s - w.at → has_room w.out w.used ≡ true
      → worked (left s w) s w ≡ worked ((length s - (w.at + record_length)) / record_length) s (after_record s w)
  worked_more h e =
      let z : left s w ≡ suc ((length s - (w.at + record_length)) / record_length) = omega arith in
      rw z (worked_one ((length s - (w.at + record_length)) / record_length) e)

-- THE LOOP'S BEGINNING AND ITS TWO ENDS

module _ (p : Point) (n : ℕ) (input out : List ℕ) where
  pub begins : Stands p n input out (begun p n out)
  unfolding block_of
  begins = record {
    inside = omega arith;
    fits = omega arith;
    behind = omega arith;
    same = refl;
    leads = let z : length input - 0 ≡ length input = omega arith in rw z;
  }

  pub ends : (w : Work) → Stands p n input out w → length input - w.at < record_length → Answered p n input out w
  ends w s e = record { is = worked_end input w e ∙ s.leads; inside = s.inside; fits = s.fits; all = λ h. e }

  pub fills : (w : Work) → Stands p n input out w → record_length ≤ length input - w.at → length w.out - w.used < room → Answered p n input out w
  fills w s e f = record {
    is = worked_full input w (left input w) (rooms.short_of_room w.out w.used s.fits f) ∙ s.leads;
    inside = s.inside;
    fits = s.fits;
    all = λ h. absurd (omega (arith, e, f, s.behind, s.same));
  }

-- A PIECE COMES OFF THE REST OF THE INPUT

module _ (input : List ℕ) (from : ℕ) (left x rest : List ℕ) (f : left ≡ drop from input) (e : left ≡ x ++ rest) (l : length x ≡ record_length) where
  both : drop from input ≡ x ++ rest
  both = sym f ∙ e

  pub piece_off : x ≡ piece input from
  piece_off = sym (ap (take record_length) both ∙ ap (λ (k : ℕ). take k (x ++ rest)) (sym l) ∙ take-append_seam x rest)

  pub rest_off : rest ≡ drop (from + record_length) input
  rest_off = sym (sym (drop-drop record_length from input) ∙ ap (drop record_length) both ∙ ap (λ (k : ℕ). drop k (x ++ rest)) (sym l) ∙ drop-append_seam x rest)

  pub whole_off : record_length ≤ length input - from
  whole_off =
      let a : length input - from ≡ length x + length rest = sym (length-drop from input) ∙ ap length both ∙ length-append x rest in
      omega (arith, a, l)

-- a line changes no length
same_line : {old new : List ℕ} {at n r : ℕ} {a : Answer} → at ≤ length old → room ≤ length old - at → WrittenLine old at n a new r
    → length new ≡ length old
unfolding after_line with_line laid
same_line {old} {new} {at} {n} {r} {a} h k p =
    let yes : has_room old at ≡ true = rooms.room old at h k in
    let next : r ≡ at + length (line_of n a) = rw yes at p.next in
    let bytes : new ≡ take at old ++ line_of n a ++ drop (at + length (line_of n a)) old = rw yes at p.bytes in
    let short = p.short in
    rw bytes (simp (length-append, length-take, length-drop) (omega arith))

-- A TURN

-- what the record r leads to at the work w
abbrev taking : Work → Record → Stepped
taking w r = taken r.asked r.source w.point.chip w.point.host

-- what an access leads to, with the attributes and the host's record after it
abbrev acted : Acted → Nine → Host → Stepped
acted t nine host = record { chip = record { core = t.core; attributes = nine }; host = host; answer = t.answer }

module _ {p : Point} {n : ℕ} {input out : List ℕ} {w : Work} {r : Record} {next : ℕ} (k : Reading p n input out w r next) where
  pub turned : {t : Stepped} {used : ℕ} {new : List ℕ} → t ≡ taking w r → WrittenLine w.out w.used w.number t.answer new used
      → Stands p n input out (record { point = at t.chip t.host; number = next; at = w.at + record_length; used = used; out = new })
  unfolding after_record happening step_of
  turned {t} {used} {new} e put =
      let stood = k.stands in
      let roomy : has_room w.out w.used ≡ true = rooms.room w.out w.used stood.fits k.roomy in
      let length_of_line : length new ≡ length w.out = same_line stood.fits k.roomy put in
      let step : t ≡ step_of w.point.chip w.point.host (piece input w.at) = e ∙ ap (taking w) k.read in
      record {
        inside = omega (arith, k.whole, stood.inside);
        fits = omega (arith, put.short, k.roomy, length_of_line);
        behind = omega (arith, put.short, stood.behind);
        same = length_of_line ∙ stood.same;
        leads = rw (k.counted, put.next, put.bytes, step) (sym (worked_more input w k.whole roomy)) ∙ stood.leads;
      }

  asks : (a : Asked) → r.asked ≡ a → taken a r.source w.point.chip w.point.host ≡ taking w r
  asks a e = ap (λ (z : Asked). taken z r.source w.point.chip w.point.host) (sym e)

  -- EACH WAY THROUGH THE LOOP: what the record asked for, and what the functions gave that are called for it

  pub step_burst : {b : Burst} {t : Credited} → r.asked ≡ ask.Burst b → t ≡ burst_on w.point.chip.core w.point.chip.attributes b r.source
      → after_burst w.point.host t ≡ taking w r
  unfolding taken
  step_burst {b} e f = ap (after_burst w.point.host) f ∙ asks (ask.Burst b) e

  pub step_quiet : {quiet : Quiet} {core : Core} → r.asked ≡ ask.Quiet quiet
      → core ≡ moved w.point.chip.core (quieted quiet w.point.chip.core.repeater) false false 0
      → finished (with_core w.point.chip core) w.point.host ≡ taking w r
  unfolding taken
  step_quiet {quiet} e f = rw f (asks (ask.Quiet quiet) e)

  -- an access v
  serves : (v : Access) → r.asked ≡ ask.Access v
      → after_access w.point.chip.attributes (served v w.point.chip.core w.point.chip.attributes w.point.host) ≡ taking w r
  unfolding taken
  serves v e = asks (ask.Access v) e

  pub step_c_write : {b : ℕ} {host : Host} → r.asked ≡ ask.Access (WriteC b) → host ≡ selected b w.point.host
      → finished w.point.chip host ≡ taking w r
  unfolding served addressed_at
  step_c_write {b} e g = rw g (serves (WriteC b) e)

  pub step_d_write : {b : ℕ} {t : Acted} {nine : Nine} → r.asked ≡ ask.Access (WriteD b)
      → t ≡ d_write_of w.point.chip.core w.point.host b
      → nine ≡ addressed_at t.port t.host.bytes w.point.chip.attributes → acted t nine t.host ≡ taking w r
  unfolding served
  step_d_write {b} e g n = rw (n, g) (serves (WriteD b) e)

  pub step_c_read : {t : Acted} → r.asked ≡ ask.Access ReadC
      → t ≡ c_read_of w.point.chip.core w.point.host
      → acted t w.point.chip.attributes w.point.host ≡ taking w r
  unfolding served c_read_of addressed_at
  step_c_read e g = rw g (serves ReadC e)

  pub step_d_read : {t : Acted} → r.asked ≡ ask.Access ReadD
      → t ≡ d_read_of w.point.chip.core w.point.chip.attributes w.point.host
      → acted t w.point.chip.attributes t.host ≡ taking w r
  unfolding served
  step_d_read {t} e g =
      let c = w.point.chip.core in
      let nine = w.point.chip.attributes in
      let none : t.port ≡ None = ap (λ (z : Acted). z.port) g ∙ read_nobody c nine w.point.host in
      let kept : addressed_at t.port t.host.bytes nine ≡ nine = rw none (addressed_nobody t.host.bytes nine) in
      ap (λ (l : Nine). acted t l t.host) (sym kept) ∙ ap (after_access nine) g ∙ serves ReadD e

  pub step_reset : {core : Core} {host : Host} → r.asked ≡ ask.Reset → core ≡ core_reset w.point.chip.core → host ≡ power_up
      → finished (with_core w.point.chip core) host ≡ taking w r
  unfolding taken
  step_reset e f g = rw (g, f) (asks ask.Reset e)

  pub step_refused : {number : ℕ} → r.asked ≡ ask.Refused number → step.turned w.point.chip w.point.host number ≡ taking w r
  unfolding taken
  step_refused {number} e = asks (ask.Refused number) e

-- what has not as many bytes as a record is turned away with 9
pub piece_refused : (p : Point) (part : List ℕ) → (length part ≡ record_length → ⊥) → Refused 9 ≡ (happening p part).answer
unfolding happening step_of record_of refusals first_of answer taken
piece_refused p part n = rw (ne_eqb (length part) record_length n)
