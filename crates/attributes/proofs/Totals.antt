-- Many readings of one counter: the laws of what their differences add up to. Assumes nothing.
--   fits, no_more   == below 2^64 the sum itself is the answer, and from there on that it is too large
--   total_joined    == the sum up to a reading and the sum from it on are the whole sum
--   carried_on, readings_add_up == a sum that is carried on is the sum of all readings
--   none_at_all, from_first == what `total_of` gives, of no reading and of some
--   Going           == where the loop of `carried` stands; begins, turned, over, ends
use Rattle.std.proofs.Common.{◌≡◌, ℕ, suc, ◌+◌, ◌-◌, ◌^◌, ◌<◌, ◌≤◌, Bool, true, false, ltb, List, [], ◌∷◌, ◌++◌, Option, Some, None, length, get_or, take, drop, sym, refl, ap, ◌∙◌, add-zero, add_assoc, zero-add, arith, take_all, drop-cons, ltb-false, ltb-true, le-ltb, lt-ltb}
use lib.ListN.{drop_of_length-le}
use Rattle.attributes.specs.Octets.{difference_of, total_after, total_of, answered, total_on, ReadingsAddUp}
use Rattle.attributes.proofs.TotalSheet

-- SUMS

module _ (n : ℕ) where
  pub fits : n < 2 ^ 64 → answered n ≡ Some n
  unfolding answered
  fits l = rw (lt-ltb n (2 ^ 64) l)

  pub no_more : 2 ^ 64 ≤ n → answered n ≡ None
  unfolding answered
  no_more l = rw (le-ltb n (2 ^ 64) l)

-- from the reading last on, more readings come
after_joined : (first : ℕ) (rs : List ℕ) (last : ℕ) (more : List ℕ)
    → total_after first (rs ++ (last ∷ more)) ≡ total_after first (rs ++ (last ∷ [])) + total_after last more
unfolding total_after
after_joined first [] last more = omega arith
after_joined first (r ∷ rs) last more =
    ap (λ (n : ℕ). difference_of r first + n) (after_joined r rs last more) ∙ sym (add_assoc _ _ _)

pub total_joined : (rs : List ℕ) (last : ℕ) (more : List ℕ) → total_of (rs ++ (last ∷ more)) ≡ total_of (rs ++ (last ∷ [])) + total_after last more
unfolding total_of total_after
total_joined [] last more = sym (zero-add _)
total_joined (r ∷ rs) last more = after_joined r rs last more

-- a sum that does not fit, and what comes to it
module _ (n last : ℕ) (more : List ℕ) where
  pub carried_on : total_on (answered n) last more ≡ answered (n + total_after last more)
  unfolding total_on
  carried_on = go (ltb n (2 ^ 64)) refl
    where
      go : (b : Bool) → ltb n (2 ^ 64) ≡ b → total_on (answered n) last more ≡ answered (n + total_after last more)
      go true e = ap (λ (t : Option ℕ). total_on t last more) (fits n (ltb-true n (2 ^ 64) e))
      go false e =
          let l = ltb-false n (2 ^ 64) e in
          ap (λ (t : Option ℕ). total_on t last more) (no_more n l) ∙ sym (no_more (n + total_after last more) (omega arith))

pub readings_add_up : ReadingsAddUp
readings_add_up rs last more = carried_on (total_of (rs ++ (last ∷ []))) last more ∙ ap answered (sym (total_joined rs last more))

-- WHAT total_of GIVES

pub none_at_all : (rs : List ℕ) → length rs < 1 → Some 0 ≡ answered (total_of rs)
unfolding total_of
none_at_all [] e = sym (fits 0 (omega arith))
none_at_all (r ∷ rs) e = absurd (omega (arith, e))

pub from_first : (rs : List ℕ) → 1 ≤ length rs → answered (0 + total_after (get_or rs 0 0) (take (length rs - 1) (drop 1 rs))) ≡ answered (total_of rs)
unfolding total_of
from_first [] l = absurd (omega (arith, l))
from_first (r ∷ rs) l = ap answered (zero-add _ ∙ ap (total_after r) (take_all (suc (length rs) - 1) rs (omega arith)))

-- THE LOOP

-- i readings are added to the total, before is the last of them, and what is left makes up the rest
pub record Going (sum last : ℕ) (rs : List ℕ) (total before i : ℕ) : Type 0 where
  pub low : total < 2 ^ 64
  pub left : total + total_after before (drop i rs) ≡ sum + total_after last rs

module _ (sum last : ℕ) (rs : List ℕ) where
  pub begins : sum < 2 ^ 64 → Going sum last rs sum last 0
  begins l = record { low = l; left = refl }

  module _ (total before i : ℕ) (g : Going sum last rs total before i) where
    -- the next reading
    abbrev here : ℕ
    here = get_or rs i 0

    next : i < length rs → total + (difference_of here before + total_after here (drop (suc i) rs)) ≡ sum + total_after last rs
    unfolding total_after
    next l = ap (λ (qs : List ℕ). total + total_after before qs) (sym (drop-cons rs i 0 l)) ∙ g.left

    pub turned : i < length rs → (t : ℕ) → t < 2 ^ 64 → t ≡ total + difference_of here before → Going sum last rs t here (i + 1)
    turned l t m e =
        let one : i + 1 ≡ suc i = omega arith in
        let n = next l in
        record { low = m; left = rw one (omega (arith, n, e)) }

    pub over : i < length rs → 2 ^ 64 ≤ total + difference_of here before → None ≡ answered (sum + total_after last rs)
    over l m =
        let n = next l in
        sym (no_more (sum + total_after last rs) (omega (arith, n, m)))

    pub ends : length rs ≤ i → Some total ≡ answered (sum + total_after last rs)
    unfolding total_after
    ends l = sym (fits total g.low) ∙ ap answered (sym (add-zero _) ∙ ap (λ (qs : List ℕ). total + total_after before qs) (sym (drop_of_length-le rs l)) ∙ g.left)
