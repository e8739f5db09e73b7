-- A block is a run, turn by turn, and so is a list with the host's record lent. Assumes nothing.
--   Went s w v j   == j turns over the input s lead from the work w to v
--   ran            == a block that leaves less than a record is the run of its whole records
--   block_is_a_run, lent_is_a_run == the two statements
use Prim.Native.Nat.{ℕ, zero, suc, ◌+◌, ◌*◌, ◌-◌, ◌/◌, ◌^◌, ◌≤◌, ◌<◌}
use mathlib.Core.Path.{◌≡◌, refl, sym, ap, ◌∙◌}
use mathlib.Core.Bool.{Bool, true, false}
use mathlib.Core.List.{List, ◌++◌, append_assoc, append-nil}
use native.Mathlib.Omega.{arith}
use lib.ListN.{length, take, drop}
use lib.Seq.{drop-drop}
use Rattle.record.specs.Record.{record_length}
use Rattle.answer.specs.declared.Answer.{Answer}
use Rattle.answer.specs.Line.{line_of, lines_of}
use Rattle.answer.specs.Put.{has_room}
use Rattle.answer.proofs.Lines.{next_place_lem, front, rest}
use Rattle.himib.specs.Runs.{Point, happening, history_of, run_of, answers_in}
use Rattle.block.specs.Block.{Work, piece, after_record, worked, begun, block_of}
use Rattle.lent.specs.Lists.{cut_off}
use Rattle.pass.specs.Judged.{history, run}
use Rattle.ties.specs.Ties.{records_in, Ran, BlockIsARun, LentIsARun}

abbrev ahead : List ℕ → Work → ℕ → List (List ℕ)
ahead s w j = cut_off j (drop w.at s)

record Went (s : List ℕ) (w v : Work) (j : ℕ) : Type 0 where
  point : v.point ≡ run w.point (ahead s w j)
  number : v.number ≡ w.number + j
  taken : v.at ≡ w.at + record_length * j
  on : w.used ≤ v.used
  lines : take v.used v.out ≡ take w.used w.out ++ lines_of w.number (answers_in (history w.point (ahead s w j)))
  after : drop v.used v.out ≡ drop v.used w.out

record Turned (s : List ℕ) (w v : Work) (k : ℕ) : Type 0 where
  turns : ℕ
  most : turns ≤ k
  went : Went s w v turns

-- what two buffers have in common from a place on they have from any later place on
later : (m n : ℕ) (xs ys : List ℕ) → m ≤ n → drop m xs ≡ drop m ys → drop n xs ≡ drop n ys
later m n xs ys h e =
    let k : m + (n - m) ≡ n = omega arith in
    ap (λ (z : ℕ). drop z xs) (sym k) ∙ sym (drop-drop (n - m) m xs) ∙ ap (drop (n - m)) e ∙ drop-drop (n - m) m ys ∙ ap (λ (z : ℕ). drop z ys) k

module _ (s : List ℕ) (w : Work) where
  none : Went s w w 0
  unfolding cut_off run_of history_of lines_of
  none =
      record { point = refl; number = omega arith; taken = omega arith; on = omega arith; lines = sym (append-nil (take w.used w.out)); after = refl }

  module _ (e : has_room w.out w.used ≡ true) (low : w.number + 1 < 2 ^ 64) where
    said : Answer
    said = (happening w.point (piece s w.at)).answer

    counted : (after_record s w).number ≡ w.number + 1
    unfolding after_record
    counted = omega arith

    moved : (after_record s w).used ≡ w.used + length (line_of w.number said)
    unfolding after_record said
    moved = next_place_lem w.out _ w.used w.number _ said refl refl e

    shown : take (after_record s w).used (after_record s w).out ≡ take w.used w.out ++ line_of w.number said
    unfolding after_record said
    shown = front w.out _ w.used w.number _ said refl refl e

    kept : drop (after_record s w).used (after_record s w).out ≡ drop (after_record s w).used w.out
    unfolding after_record said
    kept = rest w.out _ w.used w.number _ said refl refl e

    onward : (j : ℕ) → ahead s (after_record s w) j ≡ cut_off j (drop record_length (drop w.at s))
    unfolding after_record
    onward j = ap (cut_off j) (sym (drop-drop record_length w.at s))

    one_more : (v : Work) (j : ℕ) → Went s (after_record s w) v j → Went s w v (suc j)
    unfolding cut_off run_of history_of lines_of after_record said
    one_more v j g =
        record {
          point = g.point ∙ ap (run (after_record s w).point) (onward j);
          number = g.number ∙ rw counted (omega arith);
          taken = g.taken ∙ omega arith;
          on = omega (arith, g.on, moved);
          lines = g.lines ∙ rw (shown, counted, onward j) (append_assoc (take w.used w.out) (line_of w.number said) _);
          after = g.after ∙ later (after_record s w).used v.used (after_record s w).out w.out g.on kept;
        }

turned : (k : ℕ) (s : List ℕ) (w : Work) → w.number + k < 2 ^ 64 → Turned s w (worked k s w) k
unfolding worked
turned zero s w h = record { turns = 0; most = omega arith; went = none s w }
turned (suc k) s w h = go (has_room w.out w.used) refl (λ e. turned k s (after_record s w) (rw (counted s w e (omega arith)) (omega arith)))
  where
    go : (y : Bool) → has_room w.out w.used ≡ y → (has_room w.out w.used ≡ true → Turned s (after_record s w) (worked k s (after_record s w)) k)
        → Turned s w (worked (suc k) s w) (suc k)
    go true e f =
        let t : Turned s (after_record s w) (worked k s (after_record s w)) k = f e in
        let g : Went s w (worked k s (after_record s w)) (suc t.turns) = one_more s w e (omega arith) _ t.turns t.went in
        rw e (record { turns = suc t.turns; most = omega (arith, t.most); went = g })
    go false e f = rw e (record { turns = 0; most = omega arith; went = none s w })

pub cut_length : (k : ℕ) (bs : List ℕ) → length (cut_off k bs) ≡ k
unfolding cut_off
cut_length zero bs = refl
cut_length (suc k) bs = ap suc (cut_length k (drop record_length bs))

-- a block that leaves less than a record is the run of all its whole records
pub ran : (p : Point) (n : ℕ) (input out : List ℕ) (w : Work) → n + length input / record_length < 2 ^ 64 → w ≡ block_of p n input out
    → length input - w.at < record_length → Ran p n (records_in input) out w
unfolding block_of
ran p n input out w low is less =
    let t : Turned input (begun p n out) w (length input / record_length) = rw is (turned (length input / record_length) input (begun p n out) low) in
    let g : Went input (begun p n out) w t.turns = t.went in
    let all : t.turns ≡ length input / record_length = omega (arith, t.most, g.taken, less) in
    let full : length (records_in input) ≡ t.turns = cut_length (length input / record_length) input ∙ sym all in
    record {
      point = g.point ∙ rw all;
      number = g.number ∙ rw (sym full);
      taken = g.taken ∙ rw (sym full) (omega arith);
      lines = g.lines ∙ rw all;
      rest = g.after;
    }

pub block_is_a_run : BlockIsARun
block_is_a_run p n input out w room low a = ran p n input out w low a.is (a.all room)

pub lent_is_a_run : LentIsARun
lent_is_a_run c bs = (refl, refl)
