-- Lines one behind the other, and what a caller has of `put_line`'s contract, its parts `next` and `bytes`. Assumes nothing.
--   lines_append, lines_one == the lines of a longer list of answers
--   lines_length_le, lines_length_ge == how long lines are together
--   room_left  == what room is
--   next_place_lem, kept_length, front, rest == with room: the place behind the line, the buffer's length, what stands before that place and
--                                           what stands from it on
--   behind     == a line that is put behind the lines of earlier answers
--   not_put    == without room nothing changes
use Prim.Native.Nat.{ℕ, suc, ◌+◌, ◌*◌, ◌-◌, ◌^◌, ◌≤◌, ◌<◌}
use mathlib.Core.Path.{◌≡◌, refl, ap, sym, ◌∙◌}
use mathlib.Core.Bool.{Bool, true, false, ◌&&◌, false≢true}
use mathlib.Core.List.{List, [], ◌∷◌, ◌++◌, append_assoc, append-nil}
use native.Mathlib.Nat.{add-zero}
use native.Mathlib.Omega.{arith}
use borrow.Author.Tests.{leb-true}
use lib.Dec.{leb}
use lib.ListN.{length, length-append, length-drop, take, drop, get_or}
use lib.Seq.{length-take-le, take_at, drop_at}
use Rattle.answer.specs.declared.Answer.{Answer}
use Rattle.answer.specs.declared.Answer.TheVariants.{Done}
use Rattle.answer.specs.Answer.{number_of}
use Rattle.answer.specs.Line.{line_of, lines_of}
use Rattle.answer.specs.Put.{has_room, laid, after_line, with_line}
use Rattle.answer.proofs.Lengths.{line_length_le, line_length_ge}

pub lines_append : (n : ℕ) (xs ys : List Answer) → lines_of n (xs ++ ys) ≡ lines_of n xs ++ lines_of (n + length xs) ys
unfolding lines_of
lines_append n [] ys = rw (add-zero n)
lines_append n (a ∷ xs) ys =
    let e : n + suc (length xs) ≡ n + 1 + length xs = omega arith in
    rw (e, append_assoc (line_of n a) (lines_of (n + 1) xs) (lines_of (n + 1 + length xs) ys), lines_append (n + 1) xs ys)

one_line : (n : ℕ) (a : Answer) → lines_of n (a ∷ []) ≡ line_of n a
unfolding lines_of
one_line n a = append-nil (line_of n a)

pub lines_one : (n : ℕ) (xs : List Answer) (a : Answer) → lines_of n (xs ++ (a ∷ [])) ≡ lines_of n xs ++ line_of (n + length xs) a
lines_one n xs a = lines_append n xs (a ∷ []) ∙ ap (λ (l : List ℕ). lines_of n xs ++ l) (one_line (n + length xs) a)

pub lines_length_le : (n : ℕ) (xs : List Answer) → n + length xs ≤ 2 ^ 64 → ((i : ℕ) → number_of (get_or xs i Done) < 256)
    → length (lines_of n xs) ≤ 29 * length xs
unfolding lines_of
lines_length_le n [] h k = omega arith
lines_length_le n (a ∷ xs) h k =
    rw (length-append (line_of n a) (lines_of (n + 1) xs))
    (omega (arith, line_length_le n a (omega arith) (k 0), lines_length_le (n + 1) xs (omega arith) (λ i. k (suc i))))

pub lines_length_ge : (n : ℕ) (xs : List Answer) → 5 * length xs ≤ length (lines_of n xs)
unfolding lines_of
lines_length_ge n [] = omega arith
lines_length_ge n (a ∷ xs) =
    rw (length-append (line_of n a) (lines_of (n + 1) xs)) (omega (arith, line_length_ge n a, lines_length_ge (n + 1) xs))

pub room_left : (old : List ℕ) (at : ℕ) → has_room old at ≡ true → (at ≤ length old) × (32 ≤ length old - at)
unfolding has_room
room_left old at h = go (leb at (length old)) (leb 32 (length old - at)) refl refl h
  where
    go : (a b : Bool) → leb at (length old) ≡ a → leb 32 (length old - at) ≡ b → (a && b) ≡ true → (at ≤ length old) × (32 ≤ length old - at)
    go true true p q r = (leb-true at (length old) p, leb-true 32 (length old - at) q)
    go true false p q r = absurd (false≢true r)
    go false b p q r = absurd (false≢true r)

module _ (old new : List ℕ) (at n r : ℕ) (a : Answer) (next : r ≡ after_line old at n a) (bytes : new ≡ with_line old at n a) where
  pub next_place_lem : has_room old at ≡ true → r ≡ at + length (line_of n a)
  unfolding after_line
  next_place_lem h = next ∙ rw h

  now_holds : has_room old at ≡ true → new ≡ take at old ++ line_of n a ++ drop (at + length (line_of n a)) old
  unfolding with_line laid
  now_holds h = bytes ∙ rw h

  front_length : has_room old at ≡ true → length (take at old ++ line_of n a) ≡ r
  front_length h =
      length-append (take at old) (line_of n a)
      ∙ rw (length-take-le at old (room_left old at h).0) (sym (next_place_lem h))

  pub front : has_room old at ≡ true → take r new ≡ take at old ++ line_of n a
  front h = rw (now_holds h) (take_at (take at old ++ line_of n a) (drop (at + length (line_of n a)) old) r (front_length h))

  pub rest : has_room old at ≡ true → drop r new ≡ drop r old
  rest h =
      rw (now_holds h) (drop_at (take at old ++ line_of n a) (drop (at + length (line_of n a)) old) r (front_length h))
      ∙ ap (λ (k : ℕ). drop k old) (sym (next_place_lem h))

  pub not_put : has_room old at ≡ false → (r ≡ at) × (new ≡ old)
  unfolding after_line with_line
  not_put h = (next ∙ rw h, bytes ∙ rw h)

  pub kept_length : r ≤ at + 29 → length new ≡ length old
  kept_length short = go (has_room old at) refl
    where
      go : (b : Bool) → has_room old at ≡ b → length new ≡ length old
      go false h = ap length (not_put h).1
      go true h =
          let e : length (take at old ++ line_of n a) ≡ r = front_length h in
          let p : r ≡ at + length (line_of n a) = next_place_lem h in
          let l : (at ≤ length old) × (32 ≤ length old - at) = room_left old at h in
          rw (now_holds h, length-append (take at old ++ line_of n a) (drop (at + length (line_of n a)) old), e, length-drop (at + length (line_of n a)) old)
          (omega arith)

  pub behind : (m : ℕ) (xs : List Answer) → has_room old at ≡ true → take at old ≡ lines_of m xs → n ≡ m + length xs → take r new ≡ lines_of m (xs ++ (a ∷ []))
  behind m xs h k e = front h ∙ rw (k, e) (sym (lines_one m xs a))
