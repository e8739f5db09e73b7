use Rattle.std.proofs.Common.{◌≡◌, ◌+◌, ◌*◌, ◌/◌, ◌≤◌, length}
use Rattle.tell.proofs.take_all.Given as goal

-- no line has more than 141 bytes, so there is room for the lines of 128 records
abbrev pub invariant-loop-piece : goal.invariant-loop-piece
invariant-loop-piece l = (l.piece-iterator.size ≡ 32) × (length l.out ≡ length l.initial.out) × (l.done.used + 141 * ((length l.piece-iterator.rest.now + 31) / 32) ≤ 141 * 128)
