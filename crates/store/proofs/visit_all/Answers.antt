use mathlib.Core.Path.{refl, ap, sym, ◌∙◌}
use native.Mathlib.Omega.{arith}
use lib.ListN.{get_or}
use Rattle.ports.specs.declared.PlacesLeft.{PlacesLeft}
use Rattle.ports.proofs.Places.{goes_first, goes_low}
use Rattle.store.specs.Door.{no_row}
use Rattle.store.proofs.Visiting.{visit_none, visit_turn, found_none, found_in, found_out, found_all}
use Rattle.store.proofs.visit_all.Goals as goal

pub loop-i-init : goal.loop-i-init
loop-i-init g c =
    let e = ap (λ (p : PlacesLeft). p.left) (c.into_iter-i-iterator.ensures.into_iter_gives ∙ c.places_of-i-items.ensures) in
    (omega (arith, e, c.requires.low), λ next test k. rw e (refl, found_none test no_row _ _))

pub bounds-rows-i : goal.bounds-rows-i
bounds-rows-i g c = goes_low _ _ _ c.loop-i.invariant.0 c.in-Some.ensures.steps

pub loop-i-preserved-then-visit : goal.loop-i-preserved-then-visit
loop-i-preserved-then-visit g c =
    let l = c.loop-i in
    let w = goes_first _ _ _ l.invariant.0 c.in-Some.ensures.steps in (
      omega (arith, w.less, l.invariant.0),
      λ next test k.
          let a = l.invariant.1 next test k in
          let e = k (get_or l.rows c.in-Some.i no_row) c.visit.result _ (record { shown = _; shows = refl; left = _; met = c.visit.ensures; leaves = refl }) in (
            visit_turn next _ _ _ _ _ _ w e.0 ∙ a.0,
            found_in test no_row _ _ _ _ _ _ _ _ w a.1 _ (omega (arith, goes_low _ _ _ l.invariant.0 c.in-Some.ensures.steps)) c.only-full.ensures (sym e.1 ∙ c.if-visit.true),
          ),
    )

pub loop-i-preserved : goal.loop-i-preserved
loop-i-preserved g c =
    let l = c.loop-i in
    let w = goes_first _ _ _ l.invariant.0 c.in-Some.ensures.steps in (
      omega (arith, w.less, l.invariant.0),
      λ next test k.
          let a = l.invariant.1 next test k in
          let e = k (get_or l.rows c.in-Some.i no_row) c.visit.result _ (record { shown = _; shows = refl; left = _; met = c.visit.ensures; leaves = refl }) in (
            visit_turn next _ _ _ _ _ _ w e.0 ∙ a.0,
            found_out test no_row _ _ _ _ _ _ _ _ w a.1 (sym e.1 ∙ c.if-visit.false),
          ),
    )

pub returns : goal.returns
returns g c =
    λ next test k.
    let a = c.loop-i.invariant.1 next test k in (
      sym (visit_none next _ _ c.in-None.ensures.steps.0) ∙ a.0,
      found_all test no_row _ _ _ c.loop-i.full _ c.in-None.ensures.steps.0 a.1,
    )
