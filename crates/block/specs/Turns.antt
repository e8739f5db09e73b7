-- How the loop of `answer_block` goes. No section of document 01: it is what the proof of the loop cites.
--   left s w                  == how many whole records of the input s are left at the work w
--   Stands p n input out w    == where the loop stands: at the work w, from which the whole records that are left lead to what the block comes to
--   Reading p n input out w r next == there is room at w, the record r is read there, and next is the number after its own
-- Assumes nothing.
use Rattle.std.specs.Prelude.{◌≡◌, ℕ, ◌+◌, ◌-◌, ◌/◌, ◌%◌, ◌^◌, ◌≤◌, List, length}
use Rattle.record.specs.declared.Record.{Record}
use Rattle.record.specs.Record.{record_length}
use Rattle.record.specs.Refusals.{record_of}
use Rattle.answer.specs.Put.{room}
use Rattle.himib.specs.Runs.{Point}
use Rattle.block.specs.Block.{Work, piece, worked, block_of}

abbrev pub left : List ℕ → Work → ℕ
left s w = (length s - w.at) / record_length

pub record Stands (p : Point) (n : ℕ) (input out : List ℕ) (w : Work) : Type 0 where
  pub inside : w.at ≤ length input
  pub fits : w.used ≤ length w.out
  pub behind : w.used ≤ w.at
  pub same : length w.out ≡ length out
  pub leads : worked (left input w) input w ≡ block_of p n input out

pub record Reading (p : Point) (n : ℕ) (input out : List ℕ) (w : Work) (r : Record) (next : ℕ) : Type 0 where
  pub stands : Stands p n input out w
  pub whole : record_length ≤ length input - w.at
  pub roomy : room ≤ length w.out - w.used
  pub read : r ≡ record_of (piece input w.at)
  pub counted : next ≡ (w.number + 1) % 2 ^ 64
