use Rattle.std.proofs.Common.{◌≡◌}
use Rattle.std.specs.Iterator.Adapters.{enumerate_source, enumerate_count}
use Rattle.std.specs.Slice.Iter.{chunks_rest, chunks_size}
use Rattle.record.specs.Record.{record_length}
use Rattle.chip.specs.Flat.{chip_of}
use Rattle.lent.proofs.ListLaws.{Going}
use Rattle.lent.proofs.lists.answer_all.Given as goal

abbrev pub invariant-loop-i : goal.invariant-loop-i
invariant-loop-i l =
    let left = enumerate_source l.i-iterator in
    (chunks_size left ≡ record_length)
    × Going (chip_of l.fn.chip) l.fn.records l.fn.answers (chunks_rest left) (enumerate_count l.i-iterator) (chip_of l.c) l.host l.answers
