use mathlib.Core.Path.{refl, ◌∙◌}
use Rattle.std.proofs.lemmas.Result.{err_from_is_err_and}
use Rattle.scenario.proofs.Reading.{span_wrong, span_then}
use Rattle.scenario.proofs.read_span.Goals as goal

pub returns-in_err-read : goal.returns-in_err-read
returns-in_err-read c =
    let p = err_from_is_err_and c.from_residual.result c.from_residual.ensures.1 in
    rw (p.1, p.2) (span_wrong _ _ _ _ c.number_at.ensures.number _ c.in_err-read.was _ refl)

pub returns : goal.returns
returns c = c.read_source.ensures ∙ span_then _ _ _ _ c.number_at.ensures.number _ c.in_ok-read.was _ refl
