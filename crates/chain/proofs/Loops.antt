-- A reading in its four bytes, the first and the last reading of many bytes, and where the loop of `carried` stands: readings are cut off the front of what is left
-- of the bytes. Assumes nothing.
--   spelt_in                               == four bytes are one reading
--   behind, none_there                     == a chain behind many bytes has the last reading in them; behind less than four bytes it is as it was
--   long                                   == where there is a reading there are four bytes
--   from_itself                            == a sum from the first reading on is the sum of all
--   nothing_on                             == where there is no sum, none comes of it
--   Stands total last bytes sum before rest == the rest of the bytes leads from here to what all of them come to; begins, turned, over, ends
use Prim.Native.Nat.{ℕ, ◌+◌, ◌%◌, ◌^◌, ◌<◌, ◌≤◌}
use mathlib.Core.Path.{◌≡◌, refl, sym, ap, ap₂, ◌∙◌}
use mathlib.Core.List.{List, [], ◌∷◌, ◌++◌, append-nil}
use native.Mathlib.Omega.{arith}
use native.Mathlib.Nat.{add-zero}
use lib.ListN.{length, length-append, get_or, take, drop}
use Rattle.std.proofs.Common.{length-take-le}
use Rattle.std.proofs.lemmas.List.{take-append-drop}
use Rattle.std.specs.Prelude.{Option, Some, None}
use Rattle.spelling.specs.Spelling.{spelt}
use Rattle.attributes.specs.Octets.{difference_of, total_after, total_of, answered, total_on}
use Rattle.attributes.proofs.Totals.{fits}
use Rattle.chain.specs.declared.Chain.{Chain}
use Rattle.chain.specs.Chain.{reading_length, readings_in, total_behind, onward}
use Rattle.chain.proofs.ChainLaws.{in_short, in_joined, last_joined, on_joined}

pub spelt_in : (x : List ℕ) → length x ≡ reading_length
    → spelt (get_or x 0 0 ∷ get_or x 1 0 ∷ get_or x 2 0 ∷ get_or x 3 0 ∷ []) ∷ [] ≡ readings_in x
unfolding readings_in
spelt_in (a ∷ b ∷ c ∷ d ∷ []) e = refl
spelt_in [] e = absurd (omega (arith, e))
spelt_in (a ∷ []) e = absurd (omega (arith, e))
spelt_in (a ∷ b ∷ []) e = absurd (omega (arith, e))
spelt_in (a ∷ b ∷ c ∷ []) e = absurd (omega (arith, e))
spelt_in (a ∷ b ∷ c ∷ d ∷ f ∷ more) e = absurd (omega (arith, e))

-- a whole reading, and what is behind it
in_front : (r : ℕ) (x rest : List ℕ) → length x ≡ reading_length → r ∷ [] ≡ readings_in x → readings_in (x ++ rest) ≡ r ∷ readings_in rest
in_front r x rest l e = in_joined x rest (omega (arith, l)) ∙ ap (λ (rs : List ℕ). rs ++ readings_in rest) (sym e)

-- the last whole reading, and what is behind it
in_back : (bytes front x after : List ℕ) (r : ℕ) → bytes ≡ (front ++ x) ++ after → length x ≡ reading_length → length after ≡ length bytes % reading_length
    → r ∷ [] ≡ readings_in x → readings_in bytes ≡ readings_in front ++ (r ∷ [])
in_back bytes front x after r e l k is =
    let n : length bytes ≡ (length front + length x) + length after =
    ap length e ∙ length-append (front ++ x) after ∙ ap (λ (m : ℕ). m + length after) (length-append front x) in
    let w : length front % reading_length ≡ 0 = omega (arith, n, l, k) in
    let b : length (front ++ x) % reading_length ≡ 0 = omega (arith, length-append front x, w, l) in
    let s : length after < reading_length = omega (arith, k) in
    ap readings_in e ∙ in_joined (front ++ x) after b ∙ ap (λ (rs : List ℕ). readings_in (front ++ x) ++ rs) (in_short after s) ∙ append-nil _
    ∙ in_joined front x w ∙ ap (λ (rs : List ℕ). readings_in front ++ rs) (sym is)

pub long : (bytes front x after : List ℕ) → bytes ≡ (front ++ x) ++ after → length x ≡ reading_length → reading_length ≤ length bytes
long bytes front x after e l = omega (arith, l, ap length e ∙ length-append (front ++ x) after, length-append front x)

-- a chain behind readings, the last of which is r
at_last : (c : Chain) (fs : List ℕ) (r : ℕ) (t : Option ℕ) → t ≡ total_behind c.total c.last (fs ++ (r ∷ []))
    → ◌≡◌ {A = Chain} (record { total = t; last = Some r }) (onward c (fs ++ (r ∷ [])))
unfolding onward
at_last c [] r t e = ap (λ (u : Option ℕ). record { total = u; last = Some r }) e
at_last c (f ∷ fs) r t e = ap₂ (λ (u : Option ℕ) (m : ℕ). record { total = u; last = Some m }) e (last_joined f fs (r ∷ []))

pub behind : (c : Chain) (bytes front x after : List ℕ) (r : ℕ) → bytes ≡ (front ++ x) ++ after → length x ≡ reading_length
    → length after ≡ length bytes % reading_length → r ∷ [] ≡ readings_in x → (t : Option ℕ) → t ≡ total_behind c.total c.last (readings_in bytes)
    → ◌≡◌ {A = Chain} (record { total = t; last = Some r }) (onward c (readings_in bytes))
behind c bytes front x after r e l k is t g =
    let b = in_back bytes front x after r e l k is in
    at_last c (readings_in front) r t (g ∙ ap (total_behind c.total c.last) b) ∙ sym (ap (onward c) b)

pub none_there : (c : Chain) (bytes : List ℕ) → length bytes < reading_length → c ≡ onward c (readings_in bytes)
unfolding onward
none_there c bytes l = sym (ap (onward c) (in_short bytes l))

-- a sum from the first reading on is the sum of all: the first is no difference from itself
pub from_itself : (bytes : List ℕ) (r : ℕ) → reading_length ≤ length bytes → r ∷ [] ≡ readings_in (take reading_length bytes)
    → total_on (Some 0) r (readings_in bytes) ≡ answered (total_of (readings_in bytes))
unfolding total_on total_of total_after
from_itself bytes r l is =
    let e = ap readings_in (sym (take-append-drop reading_length bytes)) ∙ in_front r (take reading_length bytes) (drop reading_length bytes) (length-take-le reading_length bytes l) is in
    ap (total_on (Some 0) r) e ∙ same (readings_in (drop reading_length bytes)) ∙ sym (ap (λ (rs : List ℕ). answered (total_of rs)) e)
  where
    same : (rs : List ℕ) → total_on (Some 0) r (r ∷ rs) ≡ answered (total_of (r ∷ rs))
    same rs = let d : 0 + (difference_of r r + total_after r rs) ≡ total_after r rs = omega arith in ap answered d

-- where there is no sum, none comes of it
pub nothing_on : (last : ℕ) (rs : List ℕ) → None ≡ total_on None last rs
unfolding total_on
nothing_on last rs = refl

module _ (total : Option ℕ) (last : ℕ) (bytes : List ℕ) where
  pub record Stands (sum before : ℕ) (rest : List ℕ) : Type 0 where
    pub low : sum < 2 ^ 64
    pub leads : total_on (Some sum) before (readings_in rest) ≡ total_on total last (readings_in bytes)

  pub begins : (sum : ℕ) → sum < 2 ^ 64 → total ≡ Some sum → Stands sum last bytes
  begins sum l e = record { low = l; leads = ap (λ (t : Option ℕ). total_on t last (readings_in bytes)) (sym e) }

  module _ (sum before : ℕ) (rest : List ℕ) (s : Stands sum before rest) (x more : List ℕ) (e : rest ≡ x ++ more) (l : length x ≡ reading_length) (r : ℕ) (is : r ∷ [] ≡ readings_in x) where
    on : (t : Option ℕ) → t ≡ total_on (Some sum) before (r ∷ []) → total_on t r (readings_in more) ≡ total_on total last (readings_in bytes)
    on t f =
        ap (λ (u : Option ℕ). total_on u r (readings_in more)) f ∙ on_joined (Some sum) before (r ∷ []) (readings_in more)
        ∙ ap (total_on (Some sum) before) (sym (ap readings_in e ∙ in_front r x more l is)) ∙ s.leads

    pub turned : (t : ℕ) → t < 2 ^ 64 → Some t ≡ total_on (Some sum) before (r ∷ []) → Stands t r more
    turned t m f = record { low = m; leads = on (Some t) f }

    pub over : None ≡ total_on (Some sum) before (r ∷ []) → None ≡ total_on total last (readings_in bytes)
    unfolding total_on
    over f = on None f

  pub ends : (sum before : ℕ) (rest : List ℕ) → Stands sum before rest → length rest < reading_length → Some sum ≡ total_on total last (readings_in bytes)
  unfolding total_on total_after
  ends sum before rest s l =
      sym (fits sum s.low) ∙ ap answered (sym (add-zero sum)) ∙ sym (ap (total_on (Some sum) before) (in_short rest l)) ∙ s.leads
