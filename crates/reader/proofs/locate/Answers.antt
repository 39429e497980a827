use mathlib.Core.Path.{◌≡◌, sym, ap, ◌∙◌}
use Prim.Native.Nat.{◌+◌, ◌-◌}
use native.Mathlib.Omega.{arith}
use Rattle.std.proofs.lemmas.Result.{err_from_is_err_and}
use Rattle.frames.proofs.Promises.{fit_lengths}
use Rattle.reader.specs.Located.{refused}
use Rattle.reader.proofs.Locating.{located_unfit, back_begins, back_last, back_refused, back_again}
use Rattle.reader.proofs.locate.Goals as goal

pub returns-then-is_unfit : goal.returns-then-is_unfit
returns-then-is_unfit c =
    let a = c.args in
    ap refused c.at.ensures ∙ located_unfit a.buffer.now a.used a.number (sym c.is_unfit.ensures ∙ c.if-is_unfit.true)

pub loop-passed-init : goal.loop-passed-init
loop-passed-init c =
    let a = c.args in
    let w = fit_lengths a.buffer.now a.used (sym c.is_unfit.ensures ∙ c.if-is_unfit.false) in
    let all : a.number - 0 ≡ a.number = omega arith in
    rw all (back_begins _ _ _ w.0 w.1)

pub returns-in_err-end : goal.returns-in_err-end
returns-in_err-end c = let p = err_from_is_err_and c.from_residual.result c.from_residual.ensures.1 in rw (p.1, p.2) (back_refused c.loop-passed.invariant c.in_err-end.ensures)

pub loop-passed-preserved : goal.loop-passed-preserved
loop-passed-preserved c =
    let i = c.loop-passed.passed in
    let less : c.args.number - (i + 1) ≡ c.args.number - i - 1 = omega arith in
    rw less (back_again c.loop-passed.invariant (omega arith) c.in_ok-end.ensures)

pub returns : goal.returns
returns c = c.frame_before-2.ensures ∙ back_last c.loop-passed.invariant (omega arith)
