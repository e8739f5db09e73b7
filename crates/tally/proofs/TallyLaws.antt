-- A tally, record by record, as the loop of `take_all` goes. Assumes nothing.
--   end_short, end_whole  == where a piece ends
--   piece_end, rest_end   == the bytes up to there are the next record, and those behind it the rest
--   onward_none, onward_next, onward_begun == what some bytes come to: nothing; the first record and the others; from the start
--   Stands p input ..     == where the loop stands: what is left of the input leads from here to what all of it comes to
--   begins, turned, ends  == it begins; a record read and followed leads to where it stands next; it ends
use Prim.Native.Nat.{ℕ, ◌+◌, ◌-◌, ◌≤◌, ◌<◌}
use mathlib.Core.Path.{◌≡◌, refl, sym, ap, ◌∙◌}
use mathlib.Core.Bool.{Bool, true, false, cond}
use mathlib.Core.List.{List, []}
use native.Mathlib.Omega.{arith}
use borrow.Author.Tests.{ltb-true, ltb-false, lt-ltb, le-ltb}
use lib.Dec.{ltb}
use lib.ListN.{length, take, drop, length-drop}
use lib.Seq.{take_all, drop-length, drop-nil, drop-drop}
use Rattle.record.specs.declared.Record.{Record}
use Rattle.record.specs.Record.{record_length}
use Rattle.record.specs.Refusals.{record_of}
use Rattle.host.specs.declared.Host.{Host}
use Rattle.answer.specs.declared.Answer.{Answer}
use Rattle.attributes.specs.declared.Flat.{Flat}
use Rattle.attributes.specs.Flat.{Fit}
use Rattle.chip.specs.declared.Core.{Core}
use Rattle.chip.specs.Flat.{holding}
use Rattle.himib.specs.declared.Stepped.{Stepped}
use Rattle.himib.specs.declared.Followed.{Followed}
use Rattle.himib.specs.Step.{taken, step_of}
use Rattle.himib.specs.Flat.{followed_by, Follows}
use Rattle.himib.specs.Runs.{Point, at, happening, history_of, run_of, history, run, answers_in, accepted}
use Rattle.lent.specs.Lists.{pieces, cut_off, cut}
use Rattle.lent.proofs.ListLaws.{cut_next}
use Rattle.tally.specs.Tally.{Tally, end_of, refusal, refused_in, tally_of}
use Rattle.tally.specs.Blocks.{begun, onward}
use Rattle.tally.proofs.Sheet.{in_two_blocks}

-- ---- Where a piece ends

module _ (from n : ℕ) where
  pub end_short : n - from < record_length → end_of from n ≡ n
  end_short h = let e : ltb (n - from) record_length ≡ true = lt-ltb (n - from) record_length h in simp e

  pub end_whole : record_length ≤ n - from → end_of from n ≡ from + record_length
  end_whole h = let e : ltb (n - from) record_length ≡ false = le-ltb (n - from) record_length h in simp e

drop_past : (n : ℕ) (bs : List ℕ) → length bs ≤ n → drop n bs ≡ []
drop_past n bs h =
    let e : length bs + (n - length bs) ≡ n = omega arith in
    sym (ap (λ (k : ℕ). drop k bs) e) ∙ sym (drop-drop (n - length bs) (length bs) bs) ∙ ap (drop (n - length bs)) (drop-length bs) ∙ drop-nil (n - length bs)

module _ (from n : ℕ) (h : from < n) where
  -- further on, and inside
  pub end_after : from < end_of from n
  end_after = by (ltb (n - from) record_length) refl where
    by : (b : Bool) → ltb (n - from) record_length ≡ b → from < end_of from n
    by true e = rw (end_short from n (ltb-true (n - from) record_length e)) h
    by false e = rw (end_whole from n (ltb-false (n - from) record_length e)) (omega arith)

  pub end_inside : end_of from n ≤ n
  end_inside = by (ltb (n - from) record_length) refl where
    by : (b : Bool) → ltb (n - from) record_length ≡ b → end_of from n ≤ n
    by true e = rw (end_short from n (ltb-true (n - from) record_length e)) (omega arith)
    by false e = let l : record_length ≤ n - from = ltb-false (n - from) record_length e in rw (end_whole from n l) (omega (arith, l))

module _ (bs : List ℕ) (from : ℕ) where
  abbrev end : ℕ
  end = end_of from (length bs)

  -- the bytes that are read are the next record, and those behind them the rest
  pub piece_end : take (end - from) (drop from bs) ≡ take record_length (drop from bs)
  piece_end = by (ltb (length bs - from) record_length) refl where
    by : (b : Bool) → ltb (length bs - from) record_length ≡ b → take (end - from) (drop from bs) ≡ take record_length (drop from bs)
    by true e =
        let l : length bs - from < record_length = ltb-true (length bs - from) record_length e in
        ap (λ (k : ℕ). take (k - from) (drop from bs)) (end_short from (length bs) l)
        ∙ take_all (length bs - from) (drop from bs) (rw (length-drop from bs) (omega arith)) ∙ sym
        (take_all record_length (drop from bs) (rw (length-drop from bs) (omega (arith, l))))
    by false e =
        let k : from + record_length - from ≡ record_length = omega arith in
        ap (λ (k : ℕ). take (k - from) (drop from bs)) (end_whole from (length bs) (ltb-false (length bs - from) record_length e))
        ∙ ap (λ (k : ℕ). take k (drop from bs)) k

  pub rest_end : drop end bs ≡ drop record_length (drop from bs)
  rest_end = by (ltb (length bs - from) record_length) refl where
    by : (b : Bool) → ltb (length bs - from) record_length ≡ b → drop end bs ≡ drop record_length (drop from bs)
    by true e =
        let l : length bs - from < record_length = ltb-true (length bs - from) record_length e in
        ap (λ (k : ℕ). drop k bs) (end_short from (length bs) l) ∙ drop-length bs
        ∙ sym (drop_past (from + record_length) bs (omega (arith, l))) ∙ sym (drop-drop record_length from bs)
    by false e =
        ap (λ (k : ℕ). drop k bs) (end_whole from (length bs) (ltb-false (length bs - from) record_length e)) ∙ sym (drop-drop record_length from bs)

-- ---- Records, and what they come to

-- the tally w, with these records behind it
abbrev with : Tally → List (List ℕ) → Tally
with w rs = record { point = run w.point rs; refused = w.refused + refused_in (answers_in (history w.point rs)) }

three : (x y z : ℕ) → x + (y + z) ≡ x + y + z
three x y z = omega arith

module _ (w : Tally) (bs : List ℕ) where
  -- one record more
  abbrev first : List ℕ
  first = take record_length bs

  abbrev counted : Tally
  counted = record { point = (happening w.point first).after; refused = w.refused + refusal (happening w.point first).answer }

  pub onward_none : length bs ≡ 0 → onward w bs ≡ w
  unfolding tally_of refused_in history_of run_of cut_off
  onward_none h =
      let e : w.refused + 0 ≡ w.refused = omega arith in
      ap (λ (k : ℕ). with w (cut_off (pieces k) bs)) h ∙ ap (λ (n : ℕ). record { point = w.point; refused = n }) e

  pub onward_next : 0 < length bs → onward w bs ≡ onward counted (drop record_length bs)
  unfolding tally_of refused_in history_of run_of
  onward_next h =
      let q : Point = (happening w.point first).after in
      let rest : List (List ℕ) = cut (drop record_length bs) in
      ap (with w) (cut_next bs h)
      ∙ ap (λ (n : ℕ). record { point = run q rest; refused = n })
      (three w.refused (refusal (happening w.point first).answer) (refused_in (answers_in (history q rest))))

pub onward_begun : (p : Point) (bs : List ℕ) → onward (begun p) bs ≡ tally_of p bs
unfolding tally_of
onward_begun p bs =
    let n : ℕ = refused_in (answers_in (history p (cut bs))) in
    let e : 0 + n ≡ n = omega arith in
    ap (λ (k : ℕ). record { point = run p (cut bs); refused = k }) e

pub refusal_low : (a : Answer) → refusal a ≤ 1
refusal_low a = by (accepted a) where
  by : (b : Bool) → cond b 0 1 ≤ 1
  by true = omega arith
  by false = omega arith

-- ---- The loop

pub record Stands (p : Point) (input : List ℕ) (core : Core) (flat : Flat) (h : Host) (refused from : ℕ) : Type 0 where
  pub inside : from ≤ length input
  pub few : refused ≤ from
  pub fit : Fit flat
  pub leads : onward (record { point = at (holding core flat) h; refused = refused }) (drop from input) ≡ tally_of p input

module _ (p : Point) (input : List ℕ) where
  pub begins : (core : Core) (flat : Flat) (h : Host) → p ≡ at (holding core flat) h → Fit flat
      → Stands p input core flat h 0 0
  begins core flat h e fit = record {
    inside = omega arith;
    few = omega arith;
    fit = fit;
    leads = ap (λ (q : Point). onward (begun q) input) (sym e) ∙ onward_begun p input;
  }

  module _ (core : Core) (flat : Flat) (h : Host) (refused from : ℕ) (s : Stands p input core flat h refused from) where
    abbrev here : Tally
    here = record { point = at (holding core flat) h; refused = refused }

    pub turned : from < length input → (next : ℕ) → next ≡ end_of from (length input) → (r : Record) → r ≡ record_of (take (next - from) (drop from input))
        → (t : Followed) (later : Flat) → Follows core h r.asked r.source flat t later → (one : ℕ) → one ≡ refusal t.answer
        → Stands p input t.core later t.host (refused + one) next
    unfolding happening step_of
    turned l next e r q t later f one d =
        let bytes : List ℕ = take record_length (drop from input) in
        let rest : List ℕ = drop record_length (drop from input) in
        let read : r ≡ record_of bytes = q ∙ ap (λ (k : ℕ). record_of (take (k - from) (drop from input))) e ∙ ap record_of (piece_end input from) in
        let is : followed_by t later ≡ step_of (holding core flat) h bytes =
        f.is s.fit ∙ ap (λ (x : Record). taken x.asked x.source (holding core flat) h) read in
        let low : one ≤ 1 = rw d (refusal_low t.answer) in
        let further : from < next = rw e (end_after from (length input) l) in
        let long : 0 < length (drop from input) = rw (length-drop from input) (omega (arith, l)) in
        record {
          inside = rw e (end_inside from (length input) l);
          few = omega (arith, s.few, low, further);
          fit = f.fine s.fit;
          leads =
              ap (onward (record { point = at (holding t.core later) t.host; refused = refused + one }))
              (ap (λ (k : ℕ). drop k input) e ∙ rest_end input from)
              ∙ ap (λ (n : ℕ). onward (record { point = at (holding t.core later) t.host; refused = refused + n }) rest) d
              ∙ ap (λ (z : Stepped). onward (record { point = at z.chip z.host; refused = refused + refusal z.answer }) rest) is
              ∙ sym (onward_next here (drop from input) long) ∙ s.leads;
        }

    pub ends : length input ≤ from → here ≡ tally_of p input
    ends l =
        let none : length (drop from input) ≡ 0 = rw (length-drop from input) (omega (arith, l)) in
        sym (onward_none here (drop from input) none) ∙ s.leads
