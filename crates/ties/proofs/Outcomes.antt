-- One outcome each, and demand 1 with the host's record lent. Assumes nothing.
--   a_line, a_piece, an_access == what the contracts allow is there: a line of six bytes, a piece of three bytes, a C write; no_other == and nothing else
use Prim.Native.Nat.{ℕ}
use mathlib.Core.Path.{◌≡◌, refl, sym, ap, ap₂, ◌∙◌}
use mathlib.Core.Bool.{Bool, true, false}
use mathlib.Core.List.{List, [], ◌∷◌, ◌++◌}
use native.Mathlib.Omega.{arith}
use borrow.Author.Tests.{eqb-true, eqb-false}
use lib.Dec.{eqb}
use lib.ListN.{length, replicate}
use Rattle.record.specs.declared.Record.{Record}
use Rattle.record.specs.Record.{record_length}
use Rattle.host.specs.declared.Host.{Host}
use Rattle.host.specs.Sequence.{power_up, with_selection}
use Rattle.answer.specs.declared.Answer.{Answer}
use Rattle.answer.specs.declared.Answer.TheVariants.{Done}
use Rattle.answer.specs.Text.{ascii}
use Rattle.answer.specs.Numerals.{numeral, decimal}
use Rattle.answer.specs.Line.{said_of, tail_of, line_of}
use Rattle.answer.specs.Put.{has_room, laid, after_line, with_line, WrittenLine}
use Rattle.ports.specs.Each.{each}
use Rattle.attributes.specs.Flat.{flat_size, spots_size}
use Rattle.chip.specs.declared.FlatChip.{FlatChip}
use Rattle.chip.specs.Flat.{chip_of, Sized}
use Rattle.chip.proofs.FlatLaws.{chip_one}
use Rattle.himib.specs.declared.Stepped.{Stepped}
use Rattle.himib.specs.Step.{step_of}
use Rattle.himib.specs.Runs.{Point, at, happening, history_of, run_of, answers_in}
use Rattle.himib.proofs.Computing.{computing}
use Rattle.block.specs.Block.{Work, came_to, AnsweredPiece}
use Rattle.lent.specs.declared.Rest.{Rest}
use Rattle.lent.specs.Lent.{together, requested, c_write, c_read, d_write, d_read}
use Rattle.lent.proofs.Kept.{lent_kept, step_kept}
use Rattle.pass.specs.Judged.{happens, history, run}
use Rattle.pass.specs.Examples.{up}
use Rattle.ties.specs.Outcomes.{OneLine, OneBlock, OnePiece, OneList, OneLent, Takes, Steps, StillLent, LentIsStill}
use Rattle.ties.specs.Outcomes.{asked_in, LentCallsAreARun}

-- INSTANCES

abbrev dots : List ℕ
dots = replicate 40 46

a_line : WrittenLine dots 0 10 Done (ascii "10 ok\n" ++ replicate 34 46) 6
unfolding has_room laid after_line with_line line_of tail_of said_of numeral decimal
a_line = record { next = refl; bytes = refl; short = omega arith }

a_piece : AnsweredPiece 7 (1 ∷ 2 ∷ 3 ∷ []) dots (ascii "7 ref 9\n" ++ replicate 32 46) 8
unfolding computing happening has_room laid after_line with_line line_of tail_of said_of numeral decimal
a_piece = record { line = λ other p. (refl, refl); none = λ e. absurd (omega (arith, e)) }

-- power-up with zeros, as it is kept
abbrev zeros : FlatChip
zeros = record { core = up.chip.core; flat = record { counters = replicate flat_size 0; addresses = replicate spots_size 0 } }

zeros_up : (chip_of zeros ≡ up.chip) × Sized zeros
unfolding computing each
zeros_up = (refl, record { counters = refl; addresses = refl })

an_access : Takes (c_write 0x10) zeros power_up (record { chip = zeros; answer = Done }) (with_selection power_up 16 0)
unfolding computing
an_access = refl

-- P 17 is not allowed after it
no_other : Takes (c_write 0x10) zeros power_up (record { chip = zeros; answer = Done }) (with_selection power_up 17 0) → ⊥
unfolding computing
no_other e =
    let k : ◌≡◌ {A = ℕ} 17 16 = ap (λ (t : Stepped). t.host.page) e in
    absurd (omega (arith, k))

-- THE THEOREMS

pub one_line : OneLine
one_line old at n a x y r s p q = (p.next ∙ sym q.next, p.bytes ∙ sym q.bytes)

pub one_block : OneBlock
one_block c h n input out r s x y a b p q =
    let e : came_to r x ≡ came_to s y = p.is ∙ sym q.is in
    let d : r.chip ≡ s.chip = chip_one r.chip s.chip a b (ap (λ (w : Work). w.point.chip) e) in (
      ap₂ (λ (k : FlatChip) (w : Work). record { chip = k; host = w.point.host; number = w.number; at = w.at; used = w.used }) d e,
      ap (λ (w : Work). w.out) e,
    )

pub one_piece : OnePiece
one_piece n piece out x y r s p q = go (eqb (length piece) record_length) refl
  where
    go : (b : Bool) → eqb (length piece) record_length ≡ b → (r ≡ s) × (x ≡ y)
    go true e =
        let k = eqb-true (length piece) record_length e in
        ((p.none k).0 ∙ sym (q.none k).0, (p.none k).1 ∙ sym (q.none k).1)
    go false e =
        let k = eqb-false (length piece) record_length e in
        ((p.line k up).0 ∙ sym (q.line k up).0, (p.line k up).1 ∙ sym (q.line k up).1)

pub one_list : OneList
one_list c bs out d e x y a b p q = (chip_one d e a b (p.0 ∙ sym q.0), p.1 ∙ sym q.1)

one : (t : Stepped) (r s : Rest) (y z : Host) → Sized r.chip → Sized s.chip → together r y ≡ t → together s z ≡ t → (r ≡ s) × (y ≡ z)
one t r s y z a b p q =
    let e : together r y ≡ together s z = p ∙ sym q in
    let c : r.chip ≡ s.chip = chip_one r.chip s.chip a b (ap (λ (w : Stepped). w.chip) e) in (
      ap₂ (λ (k : FlatChip) (w : Stepped). record { chip = k; answer = w.answer }) c e,
      ap (λ (w : Stepped). w.host) e,
    )

pub one_lent : OneLent
one_lent = record {
  write_c = λ byte c h. one (requested (c_write byte) (chip_of c) h);
  write_d = λ byte c h. one (requested (d_write byte) (chip_of c) h);
  read_c = λ c h. one (requested c_read (chip_of c) h);
  read_d = λ c h. one (requested d_read (chip_of c) h);
  step = λ bs c h. one (step_of (chip_of c) h bs);
}

-- what stands for the chip as it was is the chip as it was
still : (c : FlatChip) (h : Host) (r : Rest) (z : Host) → Sized c → Sized r.chip → (chip_of r.chip ≡ chip_of c) × (z ≡ h) → (r.chip ≡ c) × (z ≡ h)
still c h r z a b e = (chip_one r.chip c b a e.0, e.1)

still_step : (bs : List ℕ) → StillLent (Steps bs)
still_step bs c h r z k a b e d =
    let t = step_kept (chip_of c) h bs k (sym (ap (λ (s : Stepped). s.answer) e) ∙ d) in
    still c h r z a b (ap (λ (s : Stepped). s.chip) (e ∙ t), ap (λ (s : Stepped). s.host) (e ∙ t))

still_access : (q : Record) → StillLent (Takes q)
still_access q c h r z k a b e d = still c h r z a b (lent_kept q c h r z k e d)

pub lent_is_still : LentIsStill
lent_is_still = record {
  write_c = λ byte. still_access (c_write byte);
  write_d = λ byte. still_access (d_write byte);
  read_c = still_access c_read;
  read_d = still_access d_read;
  step = still_step;
}

-- a call leaves the point that its record leads to, and has its answer
called : (bs : List ℕ) (c : FlatChip) (h : Host) (r : Rest) (z : Host) → Steps bs c h r z
    → (at (chip_of r.chip) z ≡ (happens (at (chip_of c) h) bs).after) × (r.answer ≡ (happens (at (chip_of c) h) bs).answer)
unfolding happening
called bs c h r z e = (ap (λ (t : Stepped). at t.chip t.host) e, ap (λ (t : Stepped). t.answer) e)

pub lent_calls_are_a_run : LentCallsAreARun
unfolding run_of history_of
lent_calls_are_a_run c h [] u = (refl, refl)
lent_calls_are_a_run c h (k ∷ ks) (e, es) =
    let here = called k.bytes c h k.rest k.host e in
    let more = lent_calls_are_a_run k.rest.chip k.host ks es in (
      more.0 ∙ ap (λ (p : Point). run p (asked_in ks)) here.0,
      ap₂ (λ (a : Answer) (l : List Answer). a ∷ l) here.1 (more.1 ∙ ap (λ (p : Point). answers_in (history p (asked_in ks))) here.0),
    )
