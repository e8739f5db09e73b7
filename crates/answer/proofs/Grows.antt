-- Laws of `Grown`. Assumes nothing.
--   grown_then == one piece behind another is the two pieces together
--   grown_as   == the same bytes, written otherwise
use Prim.Native.Nat.{ℕ}
use mathlib.Core.Path.{◌≡◌, subst, ◌∙◌}
use mathlib.Core.List.{List, ◌++◌}
use Rattle.answer.specs.declared.Line.{Line}
use Rattle.answer.specs.Grown.{Grown}
use Rattle.answer.proofs.Pieces.{put_then}

pub grown_then : {a b c : Line} {xs ys : List ℕ} → Grown a xs b → Grown b ys c → Grown a (xs ++ ys) c
grown_then p q = record { same = q.same ∙ p.same; size = q.size ∙ p.size; put = put_then p.put q.put }

pub grown_as : {a b : Line} {xs ys : List ℕ} → xs ≡ ys → Grown a xs b → Grown a ys b
grown_as {a} {b} e p = subst (λ (bs : List ℕ). Grown a bs b) e p
