use Rattle.std.proofs.Common.{rules, ℕ, ap, ◌∙◌}
use Rattle.record.specs.declared.Record.{Record}
use Rattle.chip.specs.Flat.{chip_of}
use Rattle.lent.specs.Lent.{requested}
use Rattle.lent.specs.Lists.{laid}
use Rattle.lent.proofs.ListLaws.{going_start, going_next, going_end}
use Rattle.lent.proofs.lists.answer_all.Goals as goal

pub loop-i-init : goal.loop-i-init
loop-i-init c = (search rules, going_start _ _ _ _ _ _ (search rules) (search rules) c.power_up-host.ensures)

pub loop-i-preserved : goal.loop-i-preserved
loop-i-preserved c =
    let s = c.in-Some.ensures.steps in (
      search rules,
      going_next _ _ _ _ _ _ _ _ c.loop-i.invariant.1 _ _ _ s.0.1.0 (s.0.1.1 ∙ search rules) s.0.1.2 s.2 _ _ _
          (c.take-rest.ensures ∙ ap (λ (r : Record). requested r (chip_of c.loop-i.c) c.loop-i.host) c.read_record-request.ensures)
          (c.lay.ensures ∙ ap (λ (k : ℕ). laid c.loop-i.answers k c.take-rest.result.answer) s.1),
    )

pub returns : goal.returns
returns c = going_end _ _ _ _ _ _ _ _ c.loop-i.invariant.1 c.in-None.ensures.steps.0.1.0
