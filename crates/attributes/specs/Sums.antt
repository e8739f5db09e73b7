-- A sum over the first places: document 01 compares Total Octets with the nine ports' octets.
--   sum_over n f == f 0 + .. + f (n - 1)
-- Assumes nothing.
use Rattle.std.specs.Prelude.{ℕ, zero, suc, ◌+◌}

unfoldable pub sum_over : ℕ → (ℕ → ℕ) → ℕ
sum_over zero f = 0
sum_over (suc n) f = f n + sum_over n f
