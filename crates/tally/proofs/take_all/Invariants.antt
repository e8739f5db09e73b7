use Rattle.std.proofs.Common.{◌≡◌, ◌-◌, length, drop}
use Rattle.std.specs.Slice.Iter.{chunks_rest, chunks_size}
use Rattle.record.specs.Record.{record_length}
use Rattle.chip.specs.Flat.{holding}
use Rattle.himib.specs.Runs.{at}
use Rattle.tally.proofs.TallyLaws.{Stands}
use Rattle.tally.proofs.take_all.Given as goal

-- the next piece begins where the bytes begin that are left
abbrev pub invariant-loop-piece : goal.invariant-loop-piece
invariant-loop-piece l =
    let from = length l.input - length (chunks_rest l.piece-iterator) in
    (chunks_size l.piece-iterator ≡ record_length) × (chunks_rest l.piece-iterator ≡ drop from l.input)
    × Stands (at (holding l.initial.core l.initial.flat) l.initial.host) l.input l.core l.flat l.host l.refused from
