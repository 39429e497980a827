use mathlib.Core.Path.{sym, ap, subst, ◌∙◌}
use Rattle.std.proofs.lemmas.Result.{err_from_is_err_and}
use Rattle.memory.specs.Spans.{target_of}
use Rattle.memory.specs.declared.Target.{Target}
use Rattle.machine.specs.Given.{given, given_by}
use Rattle.machine.specs.Run.{input_refusal}
use Rattle.machine.proofs.Promises.{lengths_fine}
use Rattle.verdict.specs.Verdict.{verdict_of}
use Rattle.runner.specs.Joining.Ends.{RanAccepted}
use Rattle.runner.proofs.Entering.{is_accepted, enter_refused, enter_inputs, enter_loop}
use Rattle.runner.proofs.run.Goals as goal

pub returns-in_err-noted : goal.returns-in_err-noted
returns-in_err-noted c =
    let p = err_from_is_err_and c.from_residual.result c.from_residual.ensures.1 in
    rw (p.1, p.2) (enter_refused _ (c.typed.ensures _ _ _) (sym c.verify_noting-noted.ensures.0 ∙ ap verdict_of c.in_err-noted.was))

pub returns-in-Err : goal.returns-in-Err
unfolding input_refusal
returns-in-Err c =
    enter_inputs _ (c.typed.ensures _ _ _) (sym c.verify_noting-noted.ensures.0 ∙ ap verdict_of c.in_ok-noted.was) _ c.in-Err.ensures.number c.at.ensures

pub run_accepted-requires : goal.run_accepted-requires
unfolding input_refusal
run_accepted-requires c =
    let g = given_by c.args.inputs c.args.variables.now c.args.buffer.now c.args.allowance in
    let f = lengths_fine g (sym c.in-Ok.ensures.number) in
    (is_accepted (sym c.verify_noting-noted.ensures.0 ∙ ap verdict_of c.in_ok-noted.was), f.1, f.0, c.verify_noting-noted.ensures.1)

pub returns : goal.returns
unfolding input_refusal
returns c =
    let i = c.args.inputs in
    enter_loop _ (c.typed.ensures _ _ _) (sym c.verify_noting-noted.ensures.0 ∙ ap verdict_of c.in_ok-noted.was) c.in-Ok.ensures.number
    (subst (λ (t : Target). RanAccepted (given i.code.now i.registers.now c.args.variables.now (target_of t) i.tracepoint c.args.buffer.now i.used c.args.allowance) c.run_accepted.result c.run_accepted.new.variables c.run_accepted.new.buffer)
    c.in-Ok.ensures.same c.run_accepted.ensures)
