-- What has to unfold for the host's record to compute: `unfolding hosting` opens the register map and the byte sequences. Assumes nothing.
use Prim.Native.Nat.{ℕ}
use Rattle.host.specs.Map.{table, row_at}
use Rattle.host.specs.Sequence.{selected, place_for, is_last, next_place, copied, read_byte, wrote_byte}

unfoldable pub hosting : ℕ
unfolding table row_at selected place_for is_last next_place copied read_byte wrote_byte
hosting = 0
