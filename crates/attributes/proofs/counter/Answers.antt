use Rattle.std.proofs.Common.{ℕ, [], get_or, sym, ap, ◌∙◌}
use Rattle.attributes.proofs.FlatLaws.{counter_held, counter_past, counter_beyond}
use Rattle.attributes.proofs.counter.Goals.{else-i-lt-COUNT-via-then-i-lt-COUNT+else-register-lt-COUNT, else-i-lt-COUNT-via-else-i-lt-COUNT}
use Rattle.attributes.proofs.counter.Goals as goal

pub returns-then-register-lt-COUNT : goal.returns-then-register-lt-COUNT
returns-then-register-lt-COUNT c =
    ap (λ (k : ℕ). get_or c.args.counters.now k 0) c.place.ensures
    ∙ sym (counter_held _ [] _ _ c.if-i-lt-COUNT.true c.if-register-lt-COUNT.true)

pub returns-else-i-lt-COUNT : goal.returns-else-i-lt-COUNT
returns-else-i-lt-COUNT c =
    elim c.else-i-lt-COUNT.branch [
      | else-i-lt-COUNT-via-then-i-lt-COUNT+else-register-lt-COUNT w ↦ sym (counter_beyond _ [] _ _ w.if-register-lt-COUNT.false)
      | else-i-lt-COUNT-via-else-i-lt-COUNT w ↦ sym (counter_past _ [] _ _ w.if-i-lt-COUNT.false)
    ]
