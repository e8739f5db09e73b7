use Rattle.std.proofs.Common.{◌+◌, ◌-◌, ◌≡◌, refl, arith, rules, length}
use Rattle.answer.proofs.Pieces.{put_mid_sets}
use Rattle.answer.proofs.Line.put.Goals as goal

pub returns : goal.returns
returns g c =
    let size : g.row.N ≡ length c.args.bytes = search rules in
    let whole =
    put_mid_sets c.args.self.now.out.now c.args.bytes c.copy_from_slice.new.self c.args.self.now.at
    (c.args.self.now.at + g.row.N - c.args.self.now.at) (omega arith) c.copy_from_slice.ensures.after c.requires in
    record { same = refl; size = whole.0; put = record { next = omega arith; bytes = whole.1 } }
