-- What has to unfold for the credits to compute: `unfolding crediting` opens every definition of this crate. Assumes nothing.
use Rattle.std.proofs.Common.{ℕ}
use Rattle.attributes.specs.Nine.{all_alike, port_of, counter_of, address_of, with_port, readdressed}
use Rattle.attributes.specs.Credits.{class_of, same_address, class_port, changed_by, due_of, share_of, credit_for, credits_of, credit_of, frame_at}
use Rattle.attributes.specs.Credits.{counted, credited_with, credited_at, credited_all}
use Rattle.attributes.specs.Flat.{listed, record_at, nine_of, flat_of, spots_of, stretch_of}
use Rattle.attributes.specs.Octets.{check_of}
use Rattle.attributes.specs.Sums.{sum_over}

unfoldable pub crediting : ℕ
unfolding all_alike port_of counter_of address_of with_port readdressed class_of same_address class_port changed_by due_of share_of credit_for credits_of credit_of frame_at counted credited_with credited_at credited_all listed record_at nine_of flat_of spots_of stretch_of check_of sum_over
crediting = 0
