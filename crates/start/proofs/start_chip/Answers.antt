use Prim.Native.Nat.{ℕ, ◌≤◌}
use mathlib.Core.Path.{◌≡◌, refl, sym, ◌∙◌}
use mathlib.Core.Bool.{Bool, true, false, ◌||◌, ◌&&◌, true≢false}
use mathlib.Core.List.{List}
use native.Mathlib.Omega.{arith}
use borrow.Author.Tests.{eqb-true}
use lib.Dec.{eqb}
use lib.ListN.{length, get_or}
use Rattle.chip.specs.declared.Supply.{Supply}
use Rattle.start.specs.declared.Started.{Started}
use Rattle.start.specs.Start.{start_size, spare_at, chosen_size, fits_in, supply_in, nothing_given, started_with, started_of}
use Rattle.start.proofs.start_chip.Goals as goal

long_enough : (s : List ℕ) → fits_in s ≡ true → start_size ≤ length s
unfolding fits_in
long_enough s = go (eqb (length s) start_size) (eqb (length s) chosen_size) refl refl
  where
    go : (t u : Bool) → eqb (length s) start_size ≡ t → eqb (length s) chosen_size ≡ u → (t || (u && eqb (get_or s spare_at 0) 0)) ≡ true → start_size ≤ length s
    go true u e f h = let k = eqb-true (length s) start_size e in omega arith
    go false true e f h = let k = eqb-true (length s) chosen_size f in omega arith
    go false false e f h = absurd (true≢false (sym h))

module _ (s : List ℕ) (t : Started) (given : Supply) where
  with_file : fits_in s ≡ true → t ≡ started_with true given → given ≡ supply_in s → t ≡ started_of s
  unfolding started_of
  with_file h e f = e ∙ rw (h, f)

  with_nothing : fits_in s ≡ false → t ≡ started_with false given → given ≡ nothing_given → t ≡ started_of s
  unfolding started_of
  with_nothing h e f = e ∙ rw (h, f)

pub supply_in-requires : goal.supply_in-requires
supply_in-requires c = long_enough _ (sym c.fits_in.ensures ∙ c.if-fits_in.true)

pub returns-then-fits_in : goal.returns-then-fits_in
returns-then-fits_in c =
    with_file _ _ _ (sym c.fits_in.ensures ∙ c.if-fits_in.true) c.open_with.ensures c.supply_in.ensures

pub returns-else-fits_in : goal.returns-else-fits_in
returns-else-fits_in c =
    with_nothing _ _ _ (sym c.fits_in.ensures ∙ c.if-fits_in.false) c.open_with-else-fits_in.ensures c.nothing.ensures
