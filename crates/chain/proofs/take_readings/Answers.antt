use Rattle.std.proofs.Common.{◌≡◌, ◌%◌, length, sym, ap, ap₂, ◌∙◌, arith}
use Rattle.chain.specs.Chain.{reading_length, readings_in, total_behind}
use Rattle.chain.proofs.Loops.{behind, none_there, long, from_itself}
use Rattle.chain.proofs.take_readings.Goals.{in-Some-last, in-None}
use Rattle.chain.proofs.take_readings.Goals as goal

pub returns-in_default : goal.returns-in_default
returns-in_default c = none_there _ _ (omega (arith, c.in_default.ensures.steps.2.0, c.chunks_exact.ensures.size, ap length c.chunks_exact.ensures.rest))

pub returns : goal.returns
returns c =
    let chain = c.args.chain in
    let bytes = c.args.bytes.now in
    let cut = c.chunks_exact.ensures in
    let steps = c.in-Some.ensures.steps.2 in
    let parts = sym cut.rest ∙ steps.1 in
    let four = steps.2 ∙ cut.size in
    let few : length steps.0 ≡ length bytes % reading_length = steps.3 ∙ ap₂ (λ n m. n % m) (ap length cut.rest) cut.size in
    let total : c.match-chain.total ≡ total_behind chain.total chain.last (readings_in bytes) = elim c.match-chain.branch [
      | in-Some-last w ↦ w.total-is ∙ w.carried-total.ensures ∙ sym (ap (λ l. total_behind chain.total l (readings_in bytes)) w.in-Some-last.is)
      | in-None w ↦
          w.total-is ∙ w.carried-total-in-None.ensures ∙ from_itself bytes _ (long _ _ _ _ parts four) w.reading_of.ensures
          ∙ sym (ap (λ l. total_behind chain.total l (readings_in bytes)) w.in-None.is)
    ] in
    behind chain bytes _ _ steps.0 _ parts four few c.reading_of-2.ensures _ total
