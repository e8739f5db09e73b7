use Rattle.telling.proofs.TellingLaws.{told_made}
use Rattle.telling.proofs.tell.Goals as goal

pub returns : goal.returns
returns c =
    told_made _ _ _ _ _ _ _ c.step-stepped.result _ _ c.step-stepped.ensures c.words_of-words.ensures c.put_told-next.ensures
