-- Laws of the definitions of `specs/Lists`, and what holds at each turn of a run through a list.
--   laid_out, laid_in     == an answer left out, and laid
--   piece_off             == a piece that comes off the front of some bytes is their first record, and what is behind it the rest
--   cut_none, cut_next    == no bytes are no record; the first record of some, and the others
--   Going                 == the rest of the list, from here, gives what the whole list gives
--   going_start, going_next, going_end == it holds at the start, after a further piece, and says the result at the end
-- Assumes nothing.
use mathlib.Core.Path.{◌≡◌, refl, sym, ◌∙◌, ap}
use Prim.Native.Nat.{ℕ, suc, min, ◌+◌, ◌*◌, ◌/◌, ◌<◌, ◌≤◌}
use native.Mathlib.Omega.{arith}
use mathlib.Core.Bool.{Bool, true, false}
use mathlib.Core.List.{List, [], ◌∷◌, ◌++◌}
use lib.Dec.{leb}
use lib.ListN.{length, take, drop, length-drop}
use lib.Seq.{take_all}
use borrow.Author.Tests.{le-leb, lt-leb, leb-true, leb-false}
use Rattle.std.proofs.lemmas.List.{append-nil, length-append, nil_from_length}
use Rattle.std.proofs.Math.Nat.{min-eq_left, min-eq_right}
use Rattle.std.proofs.Math.ListN.{drop_of_length-le}
use Rattle.std.proofs.Math.Seq.{take-append_seam, drop-append_seam}
use Rattle.record.specs.Record.{record_length}
use Rattle.record.specs.Refusals.{record_of}
use Rattle.answer.specs.declared.Answer.{Answer}
use Rattle.host.specs.declared.Host.{Host}
use Rattle.host.specs.Sequence.{power_up}
use Rattle.chip.specs.declared.Chip.{Chip}
use Rattle.chip.specs.Flat.{chip_of}
use Rattle.himib.specs.declared.Stepped.{Stepped}
use Rattle.himib.specs.Step.{step_of}
use Rattle.himib.specs.Runs.{at, happening, history_of, run_of, history, run, answers_in}
use Rattle.lent.specs.declared.Rest.{Rest}
use Rattle.lent.specs.declared.lists.Told.{Told}
use Rattle.lent.specs.Lent.{together, requested}
use Rattle.lent.specs.Lists.{pieces, cut_off, cut, told_of, told_bytes, laid_at, laid, laid_all, chip_after_all, answers_laid}

module _ (out : List ℕ) (i : ℕ) (a : Answer) where
  pub laid_out : length out / told_bytes ≤ i → out ≡ laid out i a
  unfolding laid
  laid_out h =
      let e : leb (told_bytes * i + told_bytes) (length out) ≡ false = lt-leb (told_bytes * i + told_bytes) (length out) (omega arith) in
      simp e

  pub laid_in : (t : Told) → t ≡ told_of a → i < length out / told_bytes → laid_at out (told_bytes * i) t ≡ laid out i a
  unfolding laid
  laid_in t e h =
      let l : leb (told_bytes * i + told_bytes) (length out) ≡ true = le-leb (told_bytes * i + told_bytes) (length out) (omega arith) in
      simp (l, e)

-- ---- A piece comes off

module _ (bs x rest : List ℕ) (e : bs ≡ x ++ rest) (l : length x ≡ min record_length (length bs)) where
  all : length bs ≡ length x + length rest
  all = ap length e ∙ length-append x rest

  abbrev Off : Type 0
  Off = (take record_length bs ≡ x) × (drop record_length bs ≡ rest)

  whole : length x ≡ record_length → Off
  whole h = (
    ap (λ (k : ℕ). take k bs) (sym h) ∙ ap (take (length x)) e ∙ take-append_seam x rest,
    ap (λ (k : ℕ). drop k bs) (sym h) ∙ ap (drop (length x)) e ∙ drop-append_seam x rest,
  )

  last : length bs ≤ record_length → Off
  last h =
      let none : rest ≡ [] = nil_from_length rest (omega (arith, all, l, min-eq_right h)) in
      let one : bs ≡ x = e ∙ ap (λ (ys : List ℕ). x ++ ys) none ∙ append-nil x in
      (take_all record_length bs h ∙ one, drop_of_length-le bs h ∙ sym none)

  pub piece_off : Off
  piece_off = by (leb record_length (length bs)) refl where
    by : (b : Bool) → leb record_length (length bs) ≡ b → Off
    by true q = whole (l ∙ min-eq_left (leb-true record_length (length bs) q))
    by false q = last (omega (arith, leb-false record_length (length bs) q))

pub cut_none : cut [] ≡ []
unfolding cut_off
cut_none = refl

pub cut_next : (bs : List ℕ) → 0 < length bs → cut bs ≡ take record_length bs ∷ cut (drop record_length bs)
unfolding cut_off
cut_next bs h =
    let e : pieces (length bs) ≡ suc (pieces (length (drop record_length bs))) = rw (length-drop record_length bs) (omega arith) in
    ap (λ (k : ℕ). cut_off k bs) e

module _ (c₀ : Chip) (bs out₀ : List ℕ) where
  -- these bytes are left, the answers to those before them have their places below i
  pub record Going (left : List ℕ) (i : ℕ) (c : Chip) (h : Host) (out : List ℕ) : Type 0 where
    pub chips : (run (at c h) (cut left)).chip ≡ chip_after_all c₀ bs
    pub answers : laid_all out i (answers_in (history (at c h) (cut left))) ≡ answers_laid c₀ bs out₀

  pub going_start : (left : List ℕ) (i : ℕ) (h : Host) → left ≡ bs → i ≡ 0 → h ≡ power_up → Going left i c₀ h out₀
  going_start left i h e z d = record { chips = rw (e, d); answers = rw (e, z, d) }

  module _ (left : List ℕ) (i : ℕ) (c : Chip) (h : Host) (out : List ℕ) (g : Going left i c h out) where
    pub going_next : (x rest : List ℕ) (next : ℕ) → left ≡ x ++ rest → length x ≡ min record_length (length left) → 0 < length left → next ≡ i + 1 → (r : Rest) (z : Host) (out' : List ℕ)
        → together r z ≡ requested (record_of x) c h → out' ≡ laid out i r.answer → Going rest next (chip_of r.chip) z out'
    unfolding happening history_of run_of laid_all step_of
    going_next x rest next e l more q r z out' f d =
        let off : (take record_length left ≡ x) × (drop record_length left ≡ rest) = piece_off left x rest e l in
        let pieces : cut left ≡ x ∷ cut rest = cut_next left more ∙ ap (λ (y : List ℕ). y ∷ cut (drop record_length left)) off.0 ∙ ap (λ (ys : List ℕ). x ∷ cut ys) off.1 in
        record {
          chips = ap (λ (s : Stepped). (run (at s.chip s.host) (cut rest)).chip) f ∙ sym (ap (λ (ps : List (List ℕ)). (run (at c h) ps).chip) pieces) ∙ g.chips;
          answers =
              ap (λ (k : ℕ). laid_all out' k (answers_in (history (at (chip_of r.chip) z) (cut rest)))) q
              ∙ ap (λ (ys : List ℕ). laid_all ys (i + 1) (answers_in (history (at (chip_of r.chip) z) (cut rest)))) d
              ∙ ap (λ (s : Stepped). laid_all (laid out i s.answer) (i + 1) (answers_in (history (at s.chip s.host) (cut rest)))) f
              ∙ sym (ap (λ (ps : List (List ℕ)). laid_all out i (answers_in (history (at c h) ps))) pieces) ∙ g.answers;
        }

    pub going_end : length left ≡ 0 → (c ≡ chip_after_all c₀ bs) × (out ≡ answers_laid c₀ bs out₀)
    unfolding history_of run_of laid_all
    going_end none =
        let over : cut left ≡ [] = ap cut (nil_from_length left none) ∙ cut_none in (
          sym (ap (λ (ps : List (List ℕ)). (run (at c h) ps).chip) over) ∙ g.chips,
          sym (ap (λ (ps : List (List ℕ)). laid_all out i (answers_in (history (at c h) ps))) over) ∙ g.answers,
        )
