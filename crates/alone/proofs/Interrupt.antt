-- The C read goes by the past: what the change bits and their enables say together. Assumes nothing.
--   any_same, any_none, none_any == `any_below`, by each number
--   any_bit       == a set is not empty exactly if it has one of its places
--   five_never    == R 5 has no change bit
--   interrupt_seen == pending is what the past says, where change bits and enables are
use Prim.Native.Nat.{ℕ, zero, suc, ◌+◌, ◌^◌, ◌<◌}
use mathlib.Core.Path.{◌≡◌, refl, sym, ap, ◌∙◌}
use mathlib.Core.Bool.{Bool, true, false, cond, not, ◌&&◌, ◌||◌, and-false, or-false, or_comm, true≢false}
use mathlib.Core.List.{List, [], ◌∷◌}
use native.Mathlib.Omega.{arith}
use borrow.Author.Tests.{eqb-true, eqb-false}
use lib.Dec.{eqb}
use lib.ListN.{get_or}
use lib.Bits.{bit_and, and_le_l}
use Rattle.ports.specs.Sets.{has}
use Rattle.ports.proofs.Sets.{has_none, has_and, same_set}
use Rattle.changes.specs.Changes.{both, pending, bit7}
use Rattle.himib.specs.Runs.{Point}
use Rattle.past.specs.Deeds.{Deed}
use Rattle.past.specs.Since.{came_since}
use Rattle.past.specs.Changes.{changes, clears, change_by, allowed_by, any_below, interrupt_by}
use Rattle.past.specs.Reads.{Start}
use Rattle.past.specs.Answers.{status_by}
use Rattle.alone.specs.Seen.{Noticed}

-- ONE OF THE FIRST NUMBERS

any_same : (n : ℕ) (f g : ℕ → Bool) → ((i : ℕ) → i < n → f i ≡ g i) → any_below n f ≡ any_below n g
unfolding any_below
any_same zero f g h = refl
any_same (suc n) f g h = rw (h n (omega arith), any_same n f g (λ i l. h i (omega arith)))

any_none : (n : ℕ) (f : ℕ → Bool) → ((i : ℕ) → i < n → f i ≡ false) → any_below n f ≡ false
unfolding any_below
any_none zero f h = refl
any_none (suc n) f h = rw (h n (omega arith)) (any_none n f (λ i l. h i (omega arith)))

or_first : (a b : Bool) → (a || b) ≡ false → a ≡ false
or_first true b h = h
or_first false b h = refl

or_second : (a b : Bool) → (a || b) ≡ false → b ≡ false
or_second true b h = absurd (true≢false h)
or_second false b h = h

none_any : (n : ℕ) (f : ℕ → Bool) → any_below n f ≡ false → (i : ℕ) → i < n → f i ≡ false
unfolding any_below
none_any zero f h i l = absurd (omega arith)
none_any (suc n) f h i l = go (eqb i n) refl (λ k. none_any n f (or_second (f n) (any_below n f) h) i k)
  where
    go : (b : Bool) → eqb i n ≡ b → (i < n → f i ≡ false) → f i ≡ false
    go true e below = rw (eqb-true i n e) (or_first (f n) (any_below n f) h)
    go false e below = let z : i ≡ n → ⊥ = eqb-false i n e in below (omega arith)

any_bit : (n m : ℕ) → m < 2 ^ n → not (eqb m 0) ≡ any_below n (has m)
any_bit n m l = go (eqb m 0) (any_below n (has m)) refl refl
  where
    go : (a b : Bool) → eqb m 0 ≡ a → any_below n (has m) ≡ b → not a ≡ b
    go true b e k = sym (any_none n (has m) (λ i h. rw (eqb-true m 0 e) (has_none i))) ∙ k
    go false true e k = refl
    go false false e k =
        absurd (eqb-false m 0 e (same_set n m 0 l (omega (arith, l)) (λ i h. none_any n (has m) k i h ∙ sym (has_none i))))

-- WHAT IS PENDING

five_never : (first : ℕ → List ℕ) (past : List Deed) (j : ℕ) → change_by first past 5 j ≡ false
unfolding change_by changes came_since
five_never first [] j = refl
five_never first (d ∷ past) j = rw (five_never first past j) (and-false (not (clears 5 past d)))

-- the other way round
turned : (x y z : Bool) → x ≡ z → (x || y) ≡ (y || z)
turned x y z e = or_comm x y ∙ ap (λ (t : Bool). y || t) e

module _ (start : Start) (past : List Deed) (p : Point) (noticed : Noticed start past p) where
  -- a change bit of R and its enable
  abbrev raised : ℕ → Bool
  raised r = any_below 8 (λ j. change_by start.addresses past r j && has (allowed_by past r) j)

  both_seen : (r : ℕ) → r < 8 → both p.chip.core.changes p.chip.core.enables r ≡ raised r
  both_seen r h =
      let x : ℕ = get_or p.chip.core.changes r 0 in
      let y : ℕ = get_or p.chip.core.enables r 0 in
      let low : x < 256 = noticed.low r h in
      any_bit 8 (bit_and x y) (omega (arith, and_le_l x y))
      ∙ any_same 8 _ _ (λ j l. has_and x y j ∙ rw (noticed.changes r j h l, noticed.enables r h))

  raised_five : raised 5 ≡ false
  raised_five = any_none 8 _ (λ j l. rw (five_never start.addresses past j))

  pub interrupt_seen : pending p.chip.core.changes p.chip.core.enables ≡ interrupt_by start.addresses past
  unfolding pending interrupt_by any_below
  interrupt_seen =
      rw (
        both_seen 0 (omega arith),
        both_seen 1 (omega arith),
        both_seen 2 (omega arith),
        both_seen 3 (omega arith),
        both_seen 4 (omega arith),
        both_seen 6 (omega arith),
        both_seen 7 (omega arith),
      )
      (in_turn (raised 0) (raised 1) (raised 2) (raised 3) (raised 4) (raised 5) (raised 6) (raised 7) raised_five)
    where
      in_turn : (a b c d e f g h : Bool) → f ≡ false
          → (a || b || c || d || e || g || h) ≡ (h || (g || (f || (e || (d || (c || (b || (a || false))))))))
      in_turn a b c d e f g h none =
          rw none
          (turned _ h _ (turned _ g _ (turned _ e _ (turned _ d _ (turned _ c _ (turned a b _ (sym (or-false a))))))))

  pub status_seen : bit7 (pending p.chip.core.changes p.chip.core.enables) + cond p.chip.core.interface_error 64 0 ≡ status_by start past
  status_seen = rw (interrupt_seen, noticed.error)
