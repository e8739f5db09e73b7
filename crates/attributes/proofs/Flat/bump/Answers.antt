use Rattle.std.proofs.Common.{refl, ap, ◌∙◌, arith, rules}
use lib.Bits.{and_le_r}
use Rattle.ports.specs.declared.PlacesLeft.{PlacesLeft}
use Rattle.ports.proofs.Places.{goes_first, goes_low}
use Rattle.attributes.proofs.CountLaws.{bump_all, bump_more, bump_none}
use Rattle.attributes.proofs.Flat.bump.Goals as goal

pub loop-i-init : goal.loop-i-init
loop-i-init c =
    let e = ap (λ (p : PlacesLeft). p.left) (c.into_iter-i-iterator.ensures.into_iter_gives ∙ c.places_of-i-items.ensures) in
    bump_all _ _ _ _ _ e (omega (arith, e, and_le_r c.args.mask 511))

pub place-at-requires-clause-i_lt_port_count : goal.place-at-requires-clause-i_lt_port_count
place-at-requires-clause-i_lt_port_count c = goes_low _ _ _ c.loop-i.invariant.low c.in-Some.ensures.steps

pub bounds-self-at : goal.bounds-self-at
bounds-self-at c = omega (arith, c.place-at.ensures, goes_low _ _ _ c.loop-i.invariant.low c.in-Some.ensures.steps)

pub bounds-self-at-in-loop-i : goal.bounds-self-at-in-loop-i
bounds-self-at-in-loop-i c = omega (arith, c.place-at.ensures, goes_low _ _ _ c.loop-i.invariant.low c.in-Some.ensures.steps)

pub loop-i-preserved : goal.loop-i-preserved
loop-i-preserved c =
    rw c.place-at.ensures
    (bump_more _ _ _ _ _ _ _ _ _ (search rules) (goes_low _ _ _ c.loop-i.invariant.low c.in-Some.ensures.steps) (goes_first _ _ _ c.loop-i.invariant.low c.in-Some.ensures.steps) c.loop-i.invariant refl)

pub returns : goal.returns
returns c = bump_none _ _ _ _ _ _ c.in-None.ensures.steps.0 c.loop-i.invariant
