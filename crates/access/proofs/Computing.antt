-- What has to unfold for an access to compute: `unfolding accessing` opens every definition of the accesses and of the crates below them. Assumes nothing.
use Prim.Native.Nat.{ℕ}
use Rattle.repeater.proofs.Computing.{repeating}
use Rattle.attributes.proofs.Computing.{crediting}
use Rattle.host.proofs.Computing.{hosting}
use Rattle.changes.specs.Changes.{events_of, noted, kept_bits, pending}
use Rattle.chip.specs.Chip.{moved}
use Rattle.access.specs.Access.{value_of, number_of, read_by, obeyed, written_by, c_read_of, read_of, write_of, d_read_of, d_write_of, served}

unfoldable pub accessing : ℕ
unfolding repeating crediting hosting events_of noted kept_bits pending moved value_of number_of read_by obeyed written_by c_read_of read_of write_of d_read_of d_write_of served
accessing = 0
