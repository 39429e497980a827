use mathlib.Core.Path.{ap, ◌∙◌}
use Rattle.lilivrez_verifier.specs.VerdictNumbers.{verdict_number, verdict_values}
use Rattle.lilivrez_verifier.proofs.lilivrez_verify.Goals as goal

pub returns-in-Err : goal.returns-in-Err
unfolding verdict_number verdict_values
returns-in-Err c =
    let q = c.in-Err.ensures in
    record { number = c.from.ensures ∙ c.number.ensures ∙ ap verdict_number q; values = ap verdict_values q }

pub returns-in-Ok : goal.returns-in-Ok
unfolding verdict_number verdict_values
returns-in-Ok c =
    let q = c.in-Ok.ensures in
    record { number = ap verdict_number q; values = rw c.from-height.ensures (ap verdict_values q) }
