use Rattle.std.proofs.Common.{◌≡◌, ℕ, ◌+◌, ◌-◌, ◌*◌, [], take, drop, sym, ap, ◌∙◌, arith}
use Rattle.attributes.proofs.FlatLaws.{address_read, address_past}
use Rattle.attributes.proofs.address.Goals as goal

pub returns-then-i-lt-COUNT : goal.returns-then-i-lt-COUNT
returns-then-i-lt-COUNT c =
    let six : 6 * c.args.i + 6 - 6 * c.args.i ≡ 6 = omega arith in
    let read = c.copy_from_slice.ensures in
    address_read [] _ _ _ c.if-i-lt-COUNT.true read.len (read.after ∙ ap (λ (k : ℕ). take k (drop (6 * c.args.i) c.args.addresses.now)) six)

pub returns-else-i-lt-COUNT : goal.returns-else-i-lt-COUNT
returns-else-i-lt-COUNT c = sym (address_past [] _ _ c.if-i-lt-COUNT.false)
