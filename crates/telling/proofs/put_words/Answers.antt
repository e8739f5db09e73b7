use mathlib.Core.Path.{◌≡◌, refl}
use lib.ListN.{length}
use borrow.Author.Rules.{rules}
use native.Mathlib.Omega.{arith}
use Rattle.telling.proofs.TellingLaws.{spelt_none, spelt_more}
use Rattle.telling.proofs.put_words.Goals as goal

pub loop-word-init : goal.loop-word-init
loop-word-init c = record { room = refl; place = omega arith; put = spelt_none _ _ }

pub loop-word-preserved : goal.loop-word-preserved
loop-word-preserved c =
    let ws = c.args.words in
    let p = c.put_mask-next.ensures.fits (omega arith) in
    let whole : length ws ≡ 28 = search rules in
    record {
      room = omega (arith, c.put_mask-next.auto.out);
      place = omega (arith, p.next);
      put = spelt_more ws c.loop-word.word-index (omega arith) c.loop-word.invariant.put p;
    }
