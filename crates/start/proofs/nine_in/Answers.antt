use Prim.Native.Nat.{ℕ, suc, ◌+◌, ◌*◌}
use mathlib.Core.Path.{◌≡◌, ap, ◌∙◌}
use mathlib.Core.List.{List}
use native.Mathlib.Omega.{arith}
use Rattle.ports.specs.Sets.{port_count}
use Rattle.attributes.specs.declared.Attributes.{Attributes}
use Rattle.attributes.specs.declared.Nine.{Nine}
use Rattle.attributes.specs.Nine.{nothing_counted, with_port}
use Rattle.start.specs.Start.{port_size, port_from, nine_up_to}
use borrow.Author.Rules.{rules}
use Rattle.start.proofs.nine_in.Goals as goal

module _ (s : List ℕ) (nine : Nine) where
  none_yet : nine ≡ nothing_counted → nine ≡ nine_up_to s 0
  unfolding nine_up_to
  none_yet e = e

  one_more : (i : ℕ) (port : Attributes) → nine ≡ nine_up_to s i → port ≡ port_from s (port_size * i) → with_port nine i port ≡ nine_up_to s (i + 1)
  unfolding nine_up_to
  one_more i port e f = let k : i + 1 ≡ suc i = omega arith in rw (k, e, f)

pub loop-i-init : goal.loop-i-init
loop-i-init c = none_yet _ _ c.zero-flat.ensures

pub loop-i-preserved : goal.loop-i-preserved
loop-i-preserved c = let l = c.loop-i in c.with_port-flat.ensures ∙ one_more _ _ _ _ l.invariant c.port_from.ensures

pub returns : goal.returns
returns c = let all : c.loop-i.i ≡ port_count = omega arith in c.loop-i.invariant ∙ ap (nine_up_to _) all
