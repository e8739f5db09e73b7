use Rattle.std.proofs.Common.{◌≡◌, drop}
use Rattle.std.specs.Slice.Iter.{chunks_exact_rest, chunks_exact_size}
use Rattle.record.specs.Record.{record_length}
use Rattle.attributes.specs.Flat.{Fit}
use Rattle.chip.specs.Flat.{holding}
use Rattle.himib.specs.Runs.{at}
use Rattle.block.specs.Turns.{Stands}
use Rattle.block.proofs.answer_block.Given as goal

abbrev pub invariant-loop-piece : goal.invariant-loop-piece
invariant-loop-piece l =
    Stands (at (holding l.initial.core l.initial.flat) l.initial.«record») l.initial.number l.input l.initial.out
    (record { point = at (holding l.core l.flat) l.«record»; number = l.number; at = l.at; used = l.used; out = l.out })
    × Fit l.flat × (chunks_exact_size l.piece-iterator ≡ record_length) × (chunks_exact_rest l.piece-iterator ≡ drop l.at l.input)
