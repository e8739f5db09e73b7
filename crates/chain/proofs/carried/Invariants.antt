use Rattle.std.specs.Slice.Iter.{chunks_exact_rest, chunks_exact_size}
use Rattle.std.proofs.Common.{◌≡◌, Some}
use Rattle.chain.specs.Chain.{reading_length}
use Rattle.chain.proofs.Loops.{Stands}
use Rattle.chain.proofs.carried.Given as goal

abbrev pub invariant-loop-piece : goal.invariant-loop-piece
invariant-loop-piece l = record {
  whole : chunks_exact_size l.piece-iterator ≡ reading_length;
  stands : Stands (Some l.initial.sum) l.initial.before l.bytes l.sum l.before (chunks_exact_rest l.piece-iterator);
}
