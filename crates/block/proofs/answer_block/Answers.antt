use Rattle.std.proofs.Common.{refl, ◌≡◌, ℕ, ◌+◌, ◌-◌, ◌%◌, ◌^◌, ◌≤◌, List, length, drop, get_or, ◌∙◌, ◌++◌, arith, w32, Fits, rules, ap, sym, length-drop}
use Rattle.record.specs.declared.Record.{Record}
use Rattle.record.specs.Record.{record_length}
use Rattle.record.specs.Refusals.{record_of}
use Rattle.std.specs.Slice.Iter.{chunks_exact_rest}
use Rattle.answer.specs.Put.{room}
use Rattle.himib.specs.Runs.{Point}
use Rattle.block.specs.Block.{Work}
use Rattle.block.specs.Turns.{Stands, Reading}
use Rattle.block.proofs.BlockLaws.{begins, ends, fills, piece_off, rest_off, whole_off, turned, step_burst, step_quiet, step_reset, step_refused}
use Rattle.block.proofs.BlockLaws.{step_c_write, step_d_write, step_c_read, step_d_read}
use Rattle.block.proofs.answer_block.Goals as goal

-- what a turn begins with: the piece x that came off, the record that it is, and the number after its own
reading : {p : Point} {n : ℕ} {input out : List ℕ} {w : Work} {r : Record} {next : ℕ} {left : List ℕ} (x rest : List ℕ) → Stands p n input out w → left ≡ drop w.at input → left ≡ x ++ rest
    → length x ≡ record_length → room ≤ length w.out - w.used → r ≡ record_of x → next ≡ (w.number + 1) % 2 ^ 64 → Reading p n input out w r next
reading {input = input} {w = w} {left = left} x rest s f e l k q d = record { stands = s; whole = whole_off input w.at left x rest f e l; roomy = k; read = q ∙ ap record_of (piece_off input w.at left x rest f e l); counted = d }

pub loop-piece-init : goal.loop-piece-init
loop-piece-init c =
    let a = c.args in (
      begins _ _ _ _,
      record {
        counters = record { long = search rules; low = λ k. let f : Fits w32 (get_or a.chip.flat.counters k 0) = search rules in f.fits };
        spots = search rules;
      },
      search rules,
      search rules,
    )

pub overflow_sub-out : goal.overflow_sub-out
overflow_sub-out c = c.loop-piece.invariant.0.fits

pub overflow_add-at : goal.overflow_add-at
overflow_add-at c =
    let i = c.loop-piece.invariant in
    let s = c.in-Some.ensures.steps in
    let h : length c.args.input.now ≤ 9223372036854775807 = search rules in
    omega (arith, h, i.0.inside, whole_off c.args.input.now c.loop-piece.at _ _ _ i.3 s.1.0 (s.1.1 ∙ i.2))

pub loop-piece-preserved-in-Burst : goal.loop-piece-preserved-in-Burst
loop-piece-preserved-in-Burst c =
    let i = c.loop-piece.invariant in
    let s = c.in-Some.ensures.steps in
    let l = s.1.1 ∙ i.2 in
    let k = reading _ _ i.0 i.3 s.1.0 l c.if-out-used-lt-ROOM.false c.read_record-r.ensures refl in
    (turned k (step_burst k c.in-Burst.is (c.burst-t.ensures.is i.1)) c.put_line-used.ensures, c.burst-t.ensures.fine i.1, s.0 ∙ i.2, rest_off c.args.input.now c.loop-piece.at _ _ _ i.3 s.1.0 l)

pub loop-piece-preserved-in-Quiet : goal.loop-piece-preserved-in-Quiet
loop-piece-preserved-in-Quiet c =
    let i = c.loop-piece.invariant in
    let s = c.in-Some.ensures.steps in
    let l = s.1.1 ∙ i.2 in
    let k = reading _ _ i.0 i.3 s.1.0 l c.if-out-used-lt-ROOM.false c.read_record-r.ensures refl in
    (turned k (step_quiet k c.in-Quiet.is c.pass-core.ensures) c.put_line-used-in-Quiet.ensures, i.1, s.0 ∙ i.2, rest_off c.args.input.now c.loop-piece.at _ _ _ i.3 s.1.0 l)

pub loop-piece-preserved-in-Access-WriteC : goal.loop-piece-preserved-in-Access-WriteC
loop-piece-preserved-in-Access-WriteC c =
    let i = c.loop-piece.invariant in
    let s = c.in-Some.ensures.steps in
    let l = s.1.1 ∙ i.2 in
    let k = reading _ _ i.0 i.3 s.1.0 l c.if-out-used-lt-ROOM.false c.read_record-r.ensures refl in
    (turned k (step_c_write k {b = c.in-Access-WriteC.byte} (search rules) c.select-record.ensures) c.put_line-used-in-Access-WriteC.ensures, i.1, s.0 ∙ i.2, rest_off c.args.input.now c.loop-piece.at _ _ _ i.3 s.1.0 l)

pub loop-piece-preserved-in-Access-WriteD : goal.loop-piece-preserved-in-Access-WriteD
loop-piece-preserved-in-Access-WriteD c =
    let i = c.loop-piece.invariant in
    let s = c.in-Some.ensures.steps in
    let l = s.1.1 ∙ i.2 in
    let k = reading _ _ i.0 i.3 s.1.0 l c.if-out-used-lt-ROOM.false c.read_record-r.ensures refl in
    (turned k (step_d_write k {b = c.in-Access-WriteD.byte} (search rules) c.write_d-t.ensures (c.write_address.ensures.is i.1)) c.put_line-used-in-Access-WriteD.ensures, c.write_address.ensures.fine i.1, s.0 ∙ i.2, rest_off c.args.input.now c.loop-piece.at _ _ _ i.3 s.1.0 l)

pub loop-piece-preserved-in-Access-ReadC : goal.loop-piece-preserved-in-Access-ReadC
loop-piece-preserved-in-Access-ReadC c =
    let i = c.loop-piece.invariant in
    let s = c.in-Some.ensures.steps in
    let l = s.1.1 ∙ i.2 in
    let k = reading _ _ i.0 i.3 s.1.0 l c.if-out-used-lt-ROOM.false c.read_record-r.ensures refl in
    (turned k (step_c_read k (search rules) c.read_c-t.ensures) c.put_line-used-in-Access-ReadC.ensures, i.1, s.0 ∙ i.2, rest_off c.args.input.now c.loop-piece.at _ _ _ i.3 s.1.0 l)

pub loop-piece-preserved-in-Access-ReadD : goal.loop-piece-preserved-in-Access-ReadD
loop-piece-preserved-in-Access-ReadD c =
    let i = c.loop-piece.invariant in
    let s = c.in-Some.ensures.steps in
    let l = s.1.1 ∙ i.2 in
    let k = reading _ _ i.0 i.3 s.1.0 l c.if-out-used-lt-ROOM.false c.read_record-r.ensures refl in
    (turned k (step_d_read k (search rules) c.read_d-t.ensures) c.put_line-used-in-Access-ReadD.ensures, i.1, s.0 ∙ i.2, rest_off c.args.input.now c.loop-piece.at _ _ _ i.3 s.1.0 l)

pub loop-piece-preserved-in-Reset : goal.loop-piece-preserved-in-Reset
loop-piece-preserved-in-Reset c =
    let i = c.loop-piece.invariant in
    let s = c.in-Some.ensures.steps in
    let l = s.1.1 ∙ i.2 in
    let k = reading _ _ i.0 i.3 s.1.0 l c.if-out-used-lt-ROOM.false c.read_record-r.ensures refl in
    (turned k (step_reset k c.in-Reset.is c.reset-core.ensures c.power_up-record.ensures) c.put_line-used-in-Reset.ensures, i.1, s.0 ∙ i.2, rest_off c.args.input.now c.loop-piece.at _ _ _ i.3 s.1.0 l)

pub loop-piece-preserved : goal.loop-piece-preserved
loop-piece-preserved c =
    let i = c.loop-piece.invariant in
    let s = c.in-Some.ensures.steps in
    let l = s.1.1 ∙ i.2 in
    let k = reading _ _ i.0 i.3 s.1.0 l c.if-out-used-lt-ROOM.false c.read_record-r.ensures refl in
    (turned k (step_refused k c.in-Refused.is) c.put_line-used-in-Refused.ensures, i.1, s.0 ∙ i.2, rest_off c.args.input.now c.loop-piece.at _ _ _ i.3 s.1.0 l)

pub returns-in-None : goal.returns-in-None
returns-in-None c =
    let i = c.loop-piece.invariant in
    let left : length c.args.input.now - c.loop-piece.at ≡ length (chunks_exact_rest c.loop-piece.piece-iterator) = sym (ap length i.3 ∙ length-drop _ _) in
    ends _ _ _ _ _ i.0 (rw left (rw (sym i.2) c.in-None.ensures.steps.1.0))

pub returns-then-out-used-lt-ROOM : goal.returns-then-out-used-lt-ROOM
returns-then-out-used-lt-ROOM c =
    let i = c.loop-piece.invariant in
    let s = c.in-Some.ensures.steps in
    fills _ _ _ _ _ i.0 (whole_off c.args.input.now c.loop-piece.at _ _ _ i.3 s.1.0 (s.1.1 ∙ i.2)) c.if-out-used-lt-ROOM.true
