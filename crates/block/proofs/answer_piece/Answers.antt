use Rattle.std.proofs.Common.{◌≡◌, ℕ, refl, ap, ◌∙◌}
use Rattle.answer.specs.declared.Answer.{Answer}
use Rattle.answer.specs.Put.{after_line, with_line}
use Rattle.answer.specs.declared.Answer.TheVariants.{Refused}
use Rattle.himib.specs.Runs.{happening}
use Rattle.block.proofs.BlockLaws.{piece_refused}
use Rattle.block.proofs.answer_piece.Goals as goal

pub returns-then-piece-eq-LENGTH : goal.returns-then-piece-eq-LENGTH
returns-then-piece-eq-LENGTH c = record { line = λ n. absurd (n c.if-piece-eq-LENGTH.true); none = λ e. (refl, refl) }

pub returns : goal.returns
returns c =
    let put = c.put_line.ensures in
    let args = c.args in
    let number : c.from.result ≡ 9 = c.from.ensures in
    record {
      line = λ n p.
          let said : Refused c.from.result ≡ (happening p args.piece.now).answer = ap (λ (k : ℕ). Refused k) number ∙ piece_refused p args.piece.now n in (
            put.next ∙ ap (λ (a : Answer). after_line args.out.now 0 args.number a) said,
            put.bytes ∙ ap (λ (a : Answer). with_line args.out.now 0 args.number a) said,
          );
      none = λ e. absurd (c.if-piece-eq-LENGTH.false e);
    }
