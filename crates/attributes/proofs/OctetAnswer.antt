-- What the octet check answers, by its number and its yes, for all frames and octets. Assumes nothing.
--   most_that_fit == why 2,829,359: so many frames of 1518 octets stay below 2^32, and one more does not
--   at_the_edge   == the last number of frames that is decided and the first that is turned away, computed
--   decided       == the statement
use Rattle.std.proofs.Common.{◌≡◌, ℕ, ◌*◌, ◌^◌, ◌<◌, ◌≤◌, Bool, true, false, cond, ◌&&◌, Result, Ok, Err, ltb, leb, sym, refl, true≢false, arith, ltb-false, ltb-true, lt-ltb, leb-true}
use Rattle.attributes.specs.declared.octets.TooManyFrames.{TooManyFrames}
use Rattle.attributes.specs.Octets.{too_many, check_of}
use Rattle.attributes.specs.OctetAnswer.{number_of, says_yes, Decided}
use Rattle.attributes.proofs.OctetCheck.{check_passed}

pub most_that_fit : (1518 * 2829359 < 2 ^ 32) × (2 ^ 32 ≤ 1518 * 2829360)
most_that_fit = (omega arith, omega arith)

pub at_the_edge : (number_of (check_of 2829359 4294966962) ≡ 0) × (says_yes (check_of 2829359 4294966962) ≡ true)
    × (number_of (check_of 2829360 4294966962) ≡ 10) × (says_yes (check_of 2829360 4294966962) ≡ false)
unfolding check_of
at_the_edge = (refl, refl, refl, refl)

-- what the three tests come to
tests : Bool → Bool → Result Bool TooManyFrames
tests above inside = cond above (Err too_many) (Ok inside)

ten_above : (a b : Bool) → number_of (tests a b) ≡ 10 → a ≡ true
unfolding tests
ten_above true b e = refl
ten_above false true e = absurd (omega (arith, e))
ten_above false false e = absurd (omega (arith, e))

else_none : (a b : Bool) → (number_of (tests a b) ≡ 10 → ⊥) → number_of (tests a b) ≡ 0
unfolding tests
else_none true b f = absurd (f refl)
else_none false true f = refl
else_none false false f = refl

yes_below : (a b : Bool) → says_yes (tests a b) ≡ true → a ≡ false
unfolding tests
yes_below true b e = absurd (true≢false (sym e))
yes_below false b e = refl

yes_inside : (a b : Bool) → says_yes (tests a b) ≡ true → b ≡ true
unfolding tests
yes_inside true b e = absurd (true≢false (sym e))
yes_inside false true e = refl
yes_inside false false e = absurd (true≢false (sym e))

first : (a b : Bool) → (a && b) ≡ true → a ≡ true
first true b e = refl
first false b e = e

second : (a b : Bool) → (a && b) ≡ true → b ≡ true
second true b e = e
second false b e = absurd (true≢false (sym e))

module _ (f o : ℕ) where
  abbrev past : Bool
  past = ltb 2829359 f

  abbrev low : Bool
  low = leb (64 * f) o

  abbrev high : Bool
  high = leb o (1518 * f)

  pub decided : Decided f o
  unfolding check_of tests
  decided = record {
    above = λ l. rw (lt-ltb 2829359 f l);
    ten = λ e. ltb-true 2829359 f (ten_above past (low && high) e);
    no_other = else_none past (low && high);
    between = λ l a b. rw (check_passed f o l a b);
    yes = λ e. (
      ltb-false 2829359 f (yes_below past (low && high) e),
      leb-true (64 * f) o (first low high (yes_inside past (low && high) e)),
      leb-true o (1518 * f) (second low high (yes_inside past (low && high) e)),
    );
  }
