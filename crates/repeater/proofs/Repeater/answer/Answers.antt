use Prim.Native.Nat.{ℕ, ◌-◌, ◌%◌}
use mathlib.Core.Path.{sym, ap, ◌∙◌}
use Rattle.management.specs.declared.Query.{Query}
use Rattle.repeater.specs.Answers.{answer_of}
use Rattle.repeater.proofs.RepeaterLaws.{connected_byte, linked_byte}
use Rattle.repeater.proofs.Repeater.answer.Goals as goal

pub returns-in-Partition : goal.returns-in-Partition
unfolding answer_of
returns-in-Partition c =
    let r = c.args.self in
    ap (λ (n : ℕ). 255 - n % 256) c.partitioned.ensures ∙ connected_byte r ∙ sym (ap (λ (k : Query). answer_of k r) c.in-Partition.is)

pub returns-in-Link : goal.returns-in-Link
unfolding answer_of
returns-in-Link c =
    let r = c.args.self in
    ap (λ (n : ℕ). n % 256) c.linked.ensures ∙ linked_byte r ∙ sym (ap (λ (k : Query). answer_of k r) c.in-Link.is)
