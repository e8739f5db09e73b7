-- Laws of `Put`: what a store leaves, and pieces that are put one behind the other. Assumes nothing.
--   put_mid_sets == a part of a buffer that is written over
--   put_then   == one piece behind another is the two pieces together
--   one_put    == two outcomes of `put_mask` are the same
--   put_as     == the same bytes, written otherwise
use Prim.Native.Nat.{ℕ, suc, ◌+◌, ◌≤◌}
use mathlib.Core.Path.{◌≡◌, refl, sym, subst, ◌∙◌}
use mathlib.Core.List.{List, [], ◌∷◌, ◌++◌, append_assoc}
use mathlib.Core.Bool.{Bool, true, false}
use native.Mathlib.Nat.{add-zero}
use native.Mathlib.Omega.{arith}
use borrow.Author.Tests.{leb-true, leb-false}
use borrow.Rule.Slice.PartMut.{put_mid}
use Rattle.std.proofs.lemmas.List.{drop-drop}
use lib.Dec.{leb}
use lib.ListN.{length, length-append, set, take, drop}
use lib.Seq.{sets, sets-eq, length-sets}
use Rattle.answer.specs.Put.{Put, OnePut}

-- a part that is written over
pub put_mid_sets : (old bs ys : List ℕ) (at n : ℕ) → n ≡ length bs → ys ≡ bs → at + length bs ≤ length old
    → (length (put_mid at n old ys) ≡ length old) × (put_mid at n old ys ≡ sets old at bs)
put_mid_sets old bs ys at n k e h =
    let same : put_mid at n old ys ≡ sets old at bs = rw (k, e, sets-eq bs old at h, drop-drop) (sym (append_assoc (take at old) bs (drop (at + length bs) old))) in
    (rw same (length-sets old at bs), same)

sets_then : (xs old ys : List ℕ) (at : ℕ) → sets (sets old at xs) (at + length xs) ys ≡ sets old at (xs ++ ys)
sets_then [] old ys at = rw (add-zero at)
sets_then (x ∷ xs) old ys at = rw next (sets_then xs (set old at x) ys (suc at))
  where
    next : at + suc (length xs) ≡ suc at + length xs
    next = omega arith

pub put_then : {old mid new xs ys : List ℕ} {at r s : ℕ} → Put old at xs mid r → Put mid r ys new s → Put old at (xs ++ ys) new s
put_then {old} {mid} {new} {xs} {ys} {at} {r} {s} p q =
    record {
      next = omega (arith, length-append xs ys);
      bytes = q.bytes ∙ rw (p.bytes, p.next) (sets_then xs old ys at);
    }

pub put_as : {old new xs ys : List ℕ} {at r : ℕ} → xs ≡ ys → Put old at xs new r → Put old at ys new r
put_as {old} {new} {xs} {ys} {at} {r} e p = subst (λ (bs : List ℕ). Put old at bs new r) e p

pub one_put : OnePut
one_put old bs at x y r s p q = go (leb (at + length bs) (length old)) refl
  where
    go : (b : Bool) → leb (at + length bs) (length old) ≡ b → (x ≡ y) × (r ≡ s)
    go true e =
        let u = p.fits (leb-true _ _ e) in
        let v = q.fits (leb-true _ _ e) in
        (u.bytes ∙ sym v.bytes, u.next ∙ sym v.next)
    go false e =
        let u = p.full (leb-false _ _ e) in
        let v = q.full (leb-false _ _ e) in
        (u.0 ∙ sym v.0, u.1 ∙ sym v.1)
