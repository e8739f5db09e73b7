-- Laws that the functions' proofs cite. Assumes nothing.
--   as_word, cond_le         == what a Bool is as a number
--   spelt_append, spelt_more == the words of a longer list
--   put_over                 == bytes that are put over the last byte of others
--   line_put                 == what `put_line` does with room, but for the newline
--   wrote_all, wrote_past, wrote_short == what `put_told` shows with room and without
--   moved_made               == what the loop over the ports has made at its end
--   told_made                == a step, its words and its line together
use Prim.Native.Nat.{ℕ, zero, suc, ◌+◌, ◌-◌, ◌≤◌, ◌<◌}
use mathlib.Core.Path.{◌≡◌, refl, sym, ap, subst, ◌∙◌}
use mathlib.Core.Bool.{Bool, true, false, cond}
use mir.Val.{bool_byte}
use mathlib.Core.List.{List, [], ◌∷◌, ◌++◌, append_assoc}
use native.Mathlib.Omega.{arith}
use borrow.Author.Tests.{le-leb, lt-leb}
use lib.ListN.{length, length-append, get_or, set, take}
use lib.Seq.{sets, sets-eq, set-set, take-suc}
use Rattle.ports.specs.Sets.{gather}
use Rattle.ports.proofs.Sets.{gather_from, from_all}
use Rattle.host.specs.declared.Host.{Host}
use Rattle.answer.specs.declared.Answer.{Answer}
use Rattle.answer.specs.Numerals.{decimal, hex}
use Rattle.answer.specs.Line.{space, newline, said_of, tail_of, line_of}
use Rattle.answer.specs.Put.{Put, WrittenLine, has_room, laid, with_line}
use Rattle.answer.proofs.Pieces.{put_then, put_as}
use Rattle.answer.proofs.Lines.{next_place_lem}
use Rattle.answer.proofs.Lengths.{line_length_ge}
use Rattle.answer.proofs.Room as rooms
use Rattle.chip.specs.declared.FlatChip.{FlatChip}
use Rattle.chip.specs.Flat.{chip_of}
use Rattle.himib.specs.declared.Stepped.{Stepped}
use Rattle.himib.specs.declared.Left.{Left}
use Rattle.himib.specs.Step.{step_of}
use Rattle.himib.specs.Flat.{stepped_by}
use Rattle.himib.specs.Runs.{happening, at}
use Rattle.telling.specs.Telling.{spoken, spelt, told_as, words_of, tell_of, longest, roomy, Wrote, Tells}

-- a Bool as a number
pub as_word : (b : Bool) → bool_byte b ≡ cond b 1 0
as_word true = refl
as_word false = refl

pub cond_le : (b : Bool) → cond b 1 0 ≤ 1
cond_le true = omega arith
cond_le false = omega arith

pub spelt_append : (xs ys : List ℕ) → spelt (xs ++ ys) ≡ spelt xs ++ spelt ys
unfolding spelt
spelt_append [] ys = refl
spelt_append (x ∷ xs) ys = rw (spelt_append xs ys) (sym (append_assoc (space ∷ hex 3 x) (spelt xs) (spelt ys)))

one_spelt : (w : ℕ) → spelt (w ∷ []) ≡ space ∷ hex 3 w
unfolding spelt
one_spelt w = refl

-- a word more
pub spelt_more : {old mid new : List ℕ} {at r s : ℕ} (ws : List ℕ) (i : ℕ) → i < length ws
    → Put old at (spelt (take i ws)) mid r → Put mid r (space ∷ hex 3 (get_or ws i 0)) new s → Put old at (spelt (take (i + 1) ws)) new s
spelt_more {old} {mid} {new} {at} {r} {s} ws i l p q =
    let k : i + 1 ≡ suc i = omega arith in
    let e : spelt (take (i + 1) ws) ≡ spelt (take i ws) ++ (space ∷ hex 3 (get_or ws i 0)) =
    rw (k, take-suc ws i 0 l) (spelt_append (take i ws) (get_or ws i 0 ∷ []) ∙ ap (λ (l : List ℕ). spelt (take i ws) ++ l) (one_spelt (get_or ws i 0))) in
    put_as (sym e) (put_then p q)

pub spelt_none : (old : List ℕ) (at : ℕ) → Put old at (spelt []) old at
unfolding spelt
spelt_none old at = record { next = omega arith; bytes = refl }

pub put_over : {old mid new : List ℕ} {at r s : ℕ} (xs zs : List ℕ) (c : ℕ) → 0 < length zs
    → Put old at (xs ++ (c ∷ [])) mid r → Put mid (r - 1) zs new s → Put old at (xs ++ zs) new s
put_over xs [] c l p q = absurd (omega arith)
put_over {old} {mid} {new} {at} {r} {s} xs (d ∷ ys) c l p q =
    let m : List ℕ = sets old at xs in
    let k : ℕ = at + length xs in
    let first : Put old at xs m k = record { next = refl; bytes = refl } in
    let one : Put m k (c ∷ []) (set m k c) (k + 1) = record { next = refl; bytes = refl } in
    let was : mid ≡ set m k c = p.bytes ∙ sym (put_then first one).bytes in
    let e : r - 1 ≡ k = omega (arith, p.next, length-append xs (c ∷ [])) in
    let second : Put m k (d ∷ ys) new s =
    record { next = q.next ∙ rw e; bytes = q.bytes ∙ rw (e, was) (ap (λ (l : List ℕ). sets l (suc k) ys) (set-set m k c d)) } in
    put_then first second

pub said_line : (n : ℕ) (a : Answer) → line_of n a ≡ spoken n a ++ (newline ∷ [])
unfolding line_of tail_of spoken
said_line n a = sym (append_assoc (decimal n) (space ∷ said_of a) (newline ∷ []))

module _ {old mid : List ℕ} {place n r : ℕ} {a : Answer} (h : place + longest ≤ length old) (w : WrittenLine old place n a mid r) where
  line_room : has_room old place ≡ true
  line_room = rooms.room old place (omega arith) (omega arith)

  line_next : r ≡ place + length (line_of n a)
  line_next = next_place_lem old mid place n r a w.next w.bytes line_room

  pub line_pos : 1 ≤ r
  line_pos = omega (arith, line_next, line_length_ge n a)

  pub line_put : Put old place (spoken n a ++ (newline ∷ [])) mid r
  unfolding with_line laid
  line_put =
      let inside : place + length (line_of n a) ≤ length old = omega (arith, line_next, w.short) in
      let laid_out : with_line old place n a ≡ sets old place (line_of n a) = rw line_room (sym (sets-eq (line_of n a) old place inside)) in
      let p : Put old place (line_of n a) mid r = record { next = line_next; bytes = w.bytes ∙ laid_out } in
      put_as (said_line n a) p

pub wrote_all : {old new line : List ℕ} {place r : ℕ} → place ≤ length old → longest ≤ length old - place → Put old place line new r → r ≤ place + longest
    → Wrote old place line new r
unfolding laid roomy
wrote_all {old} {new} {line} {place} {r} l h p s =
    let yes : roomy old place ≡ true = simp (le-leb _ _ l, le-leb _ _ h) in
    let inside : place + length line ≤ length old = omega (arith, p.next) in
    record { next = rw yes p.next; bytes = rw yes (p.bytes ∙ sets-eq line old place inside); short = s }

wrote_nothing : (old line : List ℕ) (place : ℕ) → roomy old place ≡ false → Wrote old place line old place
wrote_nothing old line place full = record { next = rw full; bytes = rw full; short = omega arith }

pub wrote_past : (old line : List ℕ) (place : ℕ) → length old < place → Wrote old place line old place
unfolding roomy
wrote_past old line place h = wrote_nothing old line place (simp (lt-leb _ _ h))

pub wrote_short : (old line : List ℕ) (place : ℕ) → place ≤ length old → length old - place < longest → Wrote old place line old place
unfolding roomy
wrote_short old line place l h = wrote_nothing old line place (simp (le-leb _ _ l, lt-leb _ _ h))

pub moved_made : (f : ℕ → Bool) (i m : ℕ) → i ≤ 0 → m ≡ gather_from 9 i f → m ≡ gather 9 f
moved_made f zero m h e = e ∙ from_all 9 f
moved_made f (suc i) m h e = absurd (omega arith)

pub told_made : (s : FlatChip) (h : Host) (n : ℕ) (bs old new ws : List ℕ) (t : Left) (place next : ℕ) → stepped_by t ≡ step_of (chip_of s) h bs
    → ws ≡ words_of (chip_of s) (chip_of t.chip) t.host → Wrote old place (told_as n t.answer ws) new next
    → Tells s h n bs old place (record { chip = t.chip; host = t.host; next = next }) new
unfolding happening tell_of
told_made s h n bs old new ws t place next e f w =
    record {
      after = ap (λ (t : Stepped). at t.chip t.host) e;
      wrote =
          subst (λ (t : Stepped). Wrote old place (told_as n t.answer (words_of (chip_of s) t.chip t.host)) new next) e
          (subst (λ (ws : List ℕ). Wrote old place (told_as n t.answer ws) new next) f w);
    }
