-- What has to unfold for a record to be read by computing: `unfolding reading` opens every definition of this crate. Assumes nothing.
use Prim.Native.Nat.{ℕ}
use Rattle.record.specs.Record.{bytes_from, find, used, unused, all_zero, stray}
use Rattle.record.specs.Refusals.{bad_numbers, nothing_active, selects_neither, refusals, first_of, answer, record_of}

unfoldable pub reading : ℕ
unfolding bytes_from find used unused all_zero stray bad_numbers nothing_active selects_neither refusals first_of answer record_of
reading = 0
