use Rattle.std.proofs.Common.{sym, ◌∙◌, arith}
use Rattle.std.specs.Prelude.{Some, None}
use Rattle.ports.specs.Sets.{port_count}
use Rattle.attributes.proofs.FlatLaws.{readdress_none, readdress_beside}
use Rattle.attributes.proofs.CountLaws.{class_due, credit_made}
use Rattle.attributes.proofs.Flat.credit.Goals as goal

pub count-requires : goal.count-requires
count-requires c = let a = c.args in class_due a.met a.burst a.source a.self.now _ c.due_of-due.ensures

pub returns-in-Some : goal.returns-in-Some
returns-in-Some c =
    credit_made _ _ _ _ _ c.due_of-due.ensures _ _ (Some c.in-Some.port) c.count.ensures (sym c.in-Some.is ∙ c.framed_port.ensures) (readdress_beside _ _ _ _ c.readdress.ensures)

pub returns-in_default : goal.returns-in_default
returns-in_default c =
    credit_made _ _ _ _ _ c.due_of-due.ensures _ _ None c.count.ensures (sym c.in_default.is ∙ c.framed_port.ensures)
    (readdress_beside _ _ _ _ (readdress_none port_count c.args.source _ (omega arith)))
