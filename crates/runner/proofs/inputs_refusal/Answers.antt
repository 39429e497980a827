use mathlib.Core.Path.{sym, ◌∙◌}
use native.Mathlib.Omega.{arith}
use Rattle.std.proofs.lemmas.Result.{err_from_is_err_and}
use Rattle.memory.specs.Spans.{target_of}
use Rattle.refusals.proofs.Promises.{number_some}
use Rattle.runner.proofs.Inputs.{spans_met, registers_met, buffer_met, all_fine}
use Rattle.runner.proofs.inputs_refusal.Goals as goal

pub returns-in_err-allowed-clause-number : goal.returns-in_err-allowed-clause-number
returns-in_err-allowed-clause-number c =
    let a = c.args in
    let e = c.in_err-allowed.ensures.number in
    let p = err_from_is_err_and c.from_residual.result c.from_residual.ensures.1 in
    rw (p.1, p.2) (e ∙ spans_met a.inputs.registers.now (target_of a.inputs.target) a.buffer.now a.inputs.used (λ z. omega (arith, number_some c.in_err-allowed.field-0.0, e, z)))

pub returns-then-inputs-gt-REGISTERS_MOST-clause-number : goal.returns-then-inputs-gt-REGISTERS_MOST-clause-number
returns-then-inputs-gt-REGISTERS_MOST-clause-number c =
    let a = c.args in
    registers_met a.inputs.registers.now (target_of a.inputs.target) a.buffer.now a.inputs.used (sym c.in_ok-allowed.ensures.number) c.if-inputs-gt-REGISTERS_MOST.true

pub returns-then-is_unfit-clause-number : goal.returns-then-is_unfit-clause-number
returns-then-is_unfit-clause-number c =
    let a = c.args in
    buffer_met a.inputs.registers.now (target_of a.inputs.target) a.buffer.now a.inputs.used (sym c.in_ok-allowed.ensures.number) c.if-inputs-gt-REGISTERS_MOST.false
    (sym c.is_unfit.ensures ∙ c.if-is_unfit.true)

pub returns-clause-number : goal.returns-clause-number
returns-clause-number c =
    let a = c.args in
    all_fine a.inputs.registers.now (target_of a.inputs.target) a.buffer.now a.inputs.used (sym c.in_ok-allowed.ensures.number) c.if-inputs-gt-REGISTERS_MOST.false
    (sym c.is_unfit.ensures ∙ c.if-is_unfit.false)
