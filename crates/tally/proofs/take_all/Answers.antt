use Rattle.std.proofs.Common.{◌≡◌, ℕ, List, min, ◌-◌, ◌≤◌, ◌<◌, ◌++◌, ◌∙◌, sym, refl, ap, arith, rules, w32, Fits, get_or, length, take, drop, length-drop}
use Rattle.std.specs.Slice.Iter.{chunks_rest}
use Rattle.record.specs.Record.{record_length}
use Rattle.record.specs.Refusals.{record_of}
use Rattle.tally.specs.Tally.{end_of}
use Rattle.lent.proofs.ListLaws.{piece_off}
use Rattle.tally.proofs.TallyLaws.{begins, turned, ends, end_inside, piece_end, rest_end, refusal_low}
use Rattle.tally.proofs.take_all.Goals as goal

-- A piece x that comes off the bytes that are left, by places: it begins where they begin, and the next one where the others do.
module _ (input left x others : List ℕ) where
  abbrev from : ℕ
  from = length input - length left

  abbrev next : ℕ
  next = length input - length others

  module _ (f : left ≡ drop from input) (e : left ≡ x ++ others) (l : length x ≡ min record_length (length left)) (more : 0 < length left) where
    inside : from < length input
    inside = let n : length left ≡ length input - from = ap length f ∙ length-drop from input in omega (arith, n, more)

    behind : others ≡ drop (end_of from (length input)) input
    behind = sym (piece_off left x others e l).1 ∙ ap (drop record_length) f ∙ sym (rest_end input from)

    at_end : next ≡ end_of from (length input)
    at_end =
        let n : length others ≡ length input - end_of from (length input) = ap length behind ∙ length-drop (end_of from (length input)) input in
        omega (arith, n, end_inside from (length input) inside)

    left_next : others ≡ drop next input
    left_next = behind ∙ ap (λ (k : ℕ). drop k input) (sym at_end)

    read : record_of x ≡ record_of (take (next - from) (drop from input))
    read =
        ap record_of
        (sym (piece_off left x others e l).0 ∙ ap (take record_length) f ∙ sym (piece_end input from)
        ∙ ap (λ (k : ℕ). take (k - from) (drop from input)) (sym at_end))

pub loop-piece-init : goal.loop-piece-init
loop-piece-init c =
    let left : chunks_rest c.into_iter-piece-iterator.result ≡ c.args.input.now = search rules in
    let from : length c.args.input.now - length (chunks_rest c.into_iter-piece-iterator.result) ≡ 0 = rw left (omega arith) in (
      search rules,
      left ∙ ap (λ (k : ℕ). drop k c.args.input.now) (sym from),
      rw from (begins _ _ _ _ _ refl
          (record {
            counters = record { long = search rules; low = λ k. let f : Fits w32 (get_or c.args.chip.flat.counters k 0) = search rules in f.fits };
            spots = search rules;
          })),
    )

pub overflow_add-refused : goal.overflow_add-refused
overflow_add-refused c =
    let low : c.refusal-refused.result ≤ 1 = rw c.refusal-refused.ensures (refusal_low _) in
    let i = c.loop-piece.invariant in
    let s = c.in-Some.ensures.steps in
    omega (arith, i.2.few, low, inside _ _ _ _ i.1 s.1.0 (s.1.1 ∙ search rules) s.1.2)

pub loop-piece-preserved : goal.loop-piece-preserved
loop-piece-preserved c =
    let i = c.loop-piece.invariant in
    let s = c.in-Some.ensures.steps in
    let l : length c.in-Some.piece.now ≡ min record_length (length (chunks_rest c.loop-piece.piece-iterator)) = s.1.1 ∙ search rules in (
      s.0 ∙ i.0,
      left_next _ _ _ _ i.1 s.1.0 l s.1.2,
      turned _ _ _ _ _ _ _ i.2 (inside _ _ _ _ i.1 s.1.0 l s.1.2) _ (at_end _ _ _ _ i.1 s.1.0 l s.1.2) _
          (c.read_record-r.ensures ∙ read _ _ _ _ i.1 s.1.0 l s.1.2) _ _ c.follow-t.ensures _ c.refusal-refused.ensures,
    )

pub returns : goal.returns
returns c =
    let i = c.loop-piece.invariant in
    let none : length (chunks_rest c.loop-piece.piece-iterator) ≡ 0 = c.in-None.ensures.steps.1.0 in
    ends _ _ _ _ _ _ _ i.2 (omega (arith, none))
