use native.Mathlib.Omega.{arith}
use Rattle.std.proofs.Common.{rules}
use Rattle.store.specs.Visits.{Collide, Calm, is_full, visited}
use Rattle.store.proofs.VisitLaws.{went, hit_low, calm_low, meet_made}
use Rattle.store.proofs.Ports.meet.Goals as goal

pub visit_all-requires-clause-low : goal.visit_all-requires-clause-low
visit_all-requires-clause-low c = calm_low c.args.self c.args.b _ _ c.less-connected.ensures c.less.ensures

pub returns : goal.returns
returns c =
    let s = c.args.self in
    let b = c.args.b in
    let o = c.less-connected.ensures in
    let l = c.less.ensures in
    let last = c.last_before-last.result in
    let v =
    went _ (Collide last) _ _ _ (hit_low s b _ _ o l) (omega arith)
    (c.visit_all-parted.ensures (visited (Collide last)) (is_full (Collide last)) (λ x r y p. search rules)) in
    meet_made s b _ _ o l (omega arith) (omega arith) (omega arith) last _ _ _ _ _ c.last_before-last.ensures v
    (went _ Calm _ _ _ (calm_low s b _ _ o l) (omega (arith, v.long)) (c.visit_all.ensures (visited Calm) (is_full Calm) (λ x r y p. search rules)))
    c.less-2.ensures
