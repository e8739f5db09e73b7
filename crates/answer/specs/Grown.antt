-- A line that grows in a buffer. No section of document 01: it is what the code's contracts cite.
--   Grown old bs new == bs were put at the line's place in its buffer, which is the same one and as long, and the place is behind them
-- Assumes nothing.
use Rattle.std.specs.Prelude.{ℕ, ◌≡◌, List, length}
use Rattle.answer.specs.declared.Line.{Line}
use Rattle.answer.specs.Put.{Put}

pub record Grown (old : Line) (bs : List ℕ) (new : Line) : Type 0 where
  pub same : new.out.ghost_name ≡ old.out.ghost_name
  pub size : length new.out.now ≡ length old.out.now
  pub put : Put old.out.now old.at bs new.out.now new.at
