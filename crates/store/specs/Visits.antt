-- What a visit does to the row of a place, and for which rows the port's set changes with it. Each visit is a rule of document 01 ('Link (TP)',
-- 'Partition') as far as it is about numbers; proofs/VisitLaws.antt ties it to the port's own rule, in the crate port.
--   on_set m f i x       == f x if the mask m has place i, x if not
--   Gives visit next test == a visit whose calls are these leaves each row's next, and says whether the test held of the row
--   Visit                == a tick; a pulse while the link passes, and while it fails; activity; a collision, with the count at which it partitions; a clean burst
--   with_link_row r idle pulses, with_count_row r n == r with other numbers for its link, or another count
--   is_full visit row    == the visit finds the row full: the link fails by this tick, passes by this pulse, the port is partitioned by this collision
--   visited visit row   == the row after the visit
-- Assumes nothing.
use Rattle.std.specs.Prelude.{ℕ, ◌+◌, ◌≡◌, Bool, false, cond, leb}
use Rattle.ports.specs.Sets.{has}
use Rattle.port.specs.Link.{link_fails_at, link_passes_at}
use Rattle.store.specs.declared.Row.{Row}

abbrev pub on_set : {A : Type 0} → ℕ → (A → A) → ℕ → A → A
on_set m f i x = cond (has m i) (f x) x

abbrev pub Gives : (Row → Bool → Row → Type 0) → (Row → Row) → (Row → Bool) → Type 0
Gives visit next test = (x : Row) (r : Bool) (y : Row) → visit x r y → (y ≡ next x) × (r ≡ test x)

pub data Visit : Type 0 where
  Tick : Visit
  Hush : Visit
  Pulse : Visit
  Revive : Visit
  Collide : ℕ → Visit
  Calm : Visit

abbrev pub with_link_row : Row → ℕ → ℕ → Row
with_link_row r idle pulses = record { idle = idle; pulses = pulses; count = r.count }

abbrev pub with_count_row : Row → ℕ → Row
with_count_row r n = record { idle = r.idle; pulses = r.pulses; count = n }

abbrev pub is_full : Visit → Row → Bool
is_full Tick r = leb link_fails_at (r.idle + 1)
is_full Hush r = false
is_full Pulse r = leb link_passes_at (r.pulses + 1)
is_full Revive r = false
is_full (Collide last) r = leb last r.count
is_full Calm r = false

abbrev pub visited : Visit → Row → Row
visited Tick r = cond (leb link_fails_at (r.idle + 1)) (with_link_row r 0 0) (with_link_row r (r.idle + 1) r.pulses)
visited Hush r = with_link_row r 0 r.pulses
visited Pulse r = cond (leb link_passes_at (r.pulses + 1)) (with_link_row r 0 0) (with_link_row r 0 (r.pulses + 1))
visited Revive r = with_link_row r 0 0
visited (Collide last) r = cond (leb last r.count) (with_count_row r 0) (with_count_row r (r.count + 1))
visited Calm r = with_count_row r 0
