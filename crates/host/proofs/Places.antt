-- Selection and places by their cases, as the code asks about them. Assumes nothing.
use Prim.Native.Nat.{ℕ, suc, ◌+◌, ◌-◌, ◌/◌, ◌%◌, ◌≤◌, ◌<◌}
use mathlib.Core.Path.{◌≡◌, refl}
use mathlib.Core.Bool.{Bool, true, false, cond, beq}
use mathlib.Core.Logic.{◌⊎◌, inl, inr}
use native.Mathlib.Omega.{arith}
use native.Mathlib.Numerals.{add-one}
use lib.Dec.{ltb}
use borrow.Author.Tests.{le-leb, lt-leb, lt-ltb, leb-false}
use Rattle.host.specs.declared.Host.{Host}
use mathlib.Core.List.{List}
use Rattle.host.proofs.AnyRecord.{either_first}
use Rattle.host.specs.Sequence.{selected, restarted, with_selection, with_sequence, place_for, is_last, next_place}

module _ (b : ℕ) (h : Host) where
  pub selects_page : b < 32 → restarted (with_selection h b h.register) ≡ selected b h
  unfolding selected
  selects_page l =
      let q : b / 32 ≡ 0 = omega arith in
      let m : b % 32 ≡ b = omega arith in
      rw (q, m)

  pub selects_register : 224 ≤ b → b < 256 → restarted (with_selection h h.page (b - 224)) ≡ selected b h
  unfolding selected
  selects_register l u =
      let q : b / 32 ≡ 7 = omega arith in
      let m : b % 32 ≡ b - 224 = omega arith in
      rw (q, m)

pub last : (n i : ℕ) → n ≤ i + 1 → true ≡ is_last n i
unfolding is_last
last n i h = rw (le-leb n (i + 1) h)

pub not_yet : (n i : ℕ) → i + 1 < n → is_last n i ≡ false
unfolding is_last
not_yet n i h = lt-leb n (i + 1) h

pub not_last : (n i : ℕ) → is_last n i ≡ false → i + 1 < n
unfolding is_last
not_last n i e = leb-false n (i + 1) e

-- the place after a place
pub next_on : (n i : ℕ) → i + 1 < n → next_place n i ≡ suc i
unfolding next_place is_last
next_on n i l = rw (lt-leb n (i + 1) l) (add-one i)

pub next_over : (n i : ℕ) → n ≤ i + 1 → next_place n i ≡ 0
unfolding next_place is_last
next_over n i l = rw (le-leb n (i + 1) l)

pub next_cases : (n i : ℕ) → (next_place n i ≡ 0) ⊎ (next_place n i < n)
unfolding next_place
next_cases n i = go (is_last n i) refl
  where
    go : (b : Bool) → is_last n i ≡ b → (next_place n i ≡ 0) ⊎ (next_place n i < n)
    go true e = inl (rw e)
    go false e = inr (rw e (not_last n i e))

-- an access in the direction of the last one goes on, one in the other direction starts afresh
pub alike : (w : Bool) → beq w w ≡ true
alike true = refl
alike false = refl

module _ (n : ℕ) (h : Host) (bs : List ℕ) where
  pub goes_on : (w : Bool) (i : ℕ) → i < n → place_for w n (with_sequence h bs i w) ≡ i
  unfolding place_for
  goes_on w i l = simp (alike w, lt-ltb i n l)

  pub at_first : (w t : Bool) → place_for w n (with_sequence h bs 0 t) ≡ 0
  unfolding place_for
  at_first w t = go (beq t w) (ltb 0 n)
    where
      go : (x y : Bool) → ◌≡◌ {A = ℕ} (cond x (cond y 0 0) 0) 0
      go true y = either_first y
      go false y = refl
