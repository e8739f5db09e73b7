use mathlib.Core.Path.{sym, ap, ◌∙◌}
use Rattle.std.proofs.lemmas.Result.{err_from_is_err_and}
use Rattle.record.specs.Reading.{kind_code}
use Rattle.record.proofs.Cases.{bare, tick, c_read_lem, d_read_lem, reset, unknown}
use Rattle.record.proofs.read.Goals as goal

pub returns-in_err-try_from : goal.returns-in_err-try_from
returns-in_err-try_from c =
    let p = err_from_is_err_and c.from_residual.result c.from_residual.ensures.1 in
    let h = c.in_err-try_from.ensures in
    rw (p.1, p.2, h.0) (unknown _ c.told-bytes h.1)

pub returns-in-Tick : goal.returns-in-Tick
returns-in-Tick c = bare _ _ _ (tick _ c.told-bytes (sym c.in_ok-try_from.ensures ∙ ap kind_code c.in-Tick.is)) c.read_bare.ensures

pub returns-in-ReadC : goal.returns-in-ReadC
returns-in-ReadC c = bare _ _ _ (c_read_lem _ c.told-bytes (sym c.in_ok-try_from.ensures ∙ ap kind_code c.in-ReadC.is)) c.read_bare-in-ReadC.ensures

pub returns-in-ReadD : goal.returns-in-ReadD
returns-in-ReadD c = bare _ _ _ (d_read_lem _ c.told-bytes (sym c.in_ok-try_from.ensures ∙ ap kind_code c.in-ReadD.is)) c.read_bare-in-ReadD.ensures

pub returns-in-Reset : goal.returns-in-Reset
returns-in-Reset c = bare _ _ _ (reset _ c.told-bytes (sym c.in_ok-try_from.ensures ∙ ap kind_code c.in-Reset.is)) c.read_bare-in-Reset.ensures
