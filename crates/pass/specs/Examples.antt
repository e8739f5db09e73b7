-- What the computed instances start from.
--   up == power-up with every counter and address at 0
-- Assumes nothing.
use Rattle.himib.specs.Runs.{Point, start, all_at}

abbrev pub up : Point
up = start (all_at 0)
