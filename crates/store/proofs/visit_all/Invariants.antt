use Prim.Native.Nat.{◌<◌}
use mathlib.Core.Path.{◌≡◌}
use mathlib.Core.Bool.{Bool}
use Rattle.std.specs.Fn.{FnOnceReturnsAtMut}
use Rattle.ports.specs.Each.{each}
use Rattle.store.specs.declared.Row.{Row}
use Rattle.store.specs.Door.{no_row}
use Rattle.store.specs.Visits.{on_set, Gives}
use Rattle.store.proofs.Visiting.{Found}
use Rattle.store.specs.contracts.visit_all.{F-FnOnce-ghosts}
use Rattle.store.proofs.visit_all.Given as goal

abbrev pub invariant-loop-i : goal.invariant-loop-i
invariant-loop-i g l =
    (l.i-iterator.left < 512)
    × ((next : Row → Row) (test : Row → Bool) → Gives (FnOnceReturnsAtMut (F-FnOnce-ghosts g.row.F g.F.Fn g.F.Fn-dict g.F.FnMut-dict g.F.FnOnce-dict g.F.Destruct-dict) l.visit) next test
    → (each (on_set l.i-iterator.left next) l.rows ≡ each (on_set l.mask next) l.initial.rows) × Found test no_row l.mask l.initial.rows l.full l.i-iterator.left l.rows)
