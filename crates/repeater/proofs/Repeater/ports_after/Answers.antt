use Rattle.repeater.proofs.MeetingLaws.{after_made}
use Rattle.repeater.proofs.Repeater.ports_after.Goals as goal

pub returns : goal.returns
returns c =
    let a = c.args in
    after_made a.self.alternate_aui a.self.alternate_tp a.hearing a.effect a.activity _ _ _ _ c.lasting-lasting.ensures c.reconnecting-back_aui.ensures
    c.reconnecting-back_tp.ensures c.algorithms-back.ensures _ _ _ c.meet-met.ensures c.revive.ensures
