use Prim.Native.Nat.{ℕ, ◌+◌}
use mathlib.Core.Path.{◌∙◌, ap}
use mathlib.Core.List.{List}
use native.Mathlib.Omega.{arith}
use lib.ListN.{get_or, drop}
use Rattle.std.proofs.lemmas.List.{get_or-take, get_or-drop}
use Rattle.start.specs.Start.{zeros, address_from}
use Rattle.start.proofs.Lists.{each_same}
use Rattle.start.proofs.address_from.Goals as goal

pub returns : goal.returns
unfolding address_from
returns c =
    each_same (λ j none. get_or c.args.s.now (c.args.i + j) 0) _ (zeros 6) c.copy_from_slice.ensures.len
    (λ j h.
    ap (λ (xs : List ℕ). get_or xs j 0) c.copy_from_slice.ensures.after
    ∙ get_or-take _ (drop c.args.i c.args.s.now) j 0 (omega arith)
    ∙ get_or-drop c.args.i c.args.s.now j 0)
