use native.Mathlib.Omega.{arith}
use mathlib.Core.Path.{refl}
use mathlib.Core.List.{[], ◌∷◌, ◌++◌}
use lib.ListN.{length-append}
use Rattle.answer.specs.Line.{newline}
use Rattle.answer.proofs.Pieces.{put_then}
use Rattle.telling.specs.Telling.{spoken, spelt, told_as}
use Rattle.telling.proofs.TellingLaws.{line_pos, line_put, put_over}
use Rattle.telling.proofs.put_whole.Goals as goal

pub overflow_sub-behind : goal.overflow_sub-behind
overflow_sub-behind c =
    line_pos c.requires c.put_line-behind.ensures

pub returns : goal.returns
unfolding told_as
returns c =
    let ws = spelt c.args.words in record {
      put = put_over (spoken c.args.number c.args.answer) (ws ++ (newline ∷ [])) newline (omega (arith, length-append ws (newline ∷ [])))
          (line_put c.requires c.put_line-behind.ensures) (put_then c.put_words-last.ensures.put (record { next = refl; bytes = refl }));
      upper_bound = omega (arith, c.put_line-behind.ensures.short);
    }
