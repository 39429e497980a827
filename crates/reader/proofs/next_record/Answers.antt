use mathlib.Core.Path.{ap, sym, ◌∙◌}
use native.Mathlib.Omega.{arith}
use Rattle.frames.proofs.Promises.{fit_lengths}
use Rattle.reader.specs.NextRecord.{Refused}
use Rattle.reader.proofs.Stepping.{next_unfit, next_none, next_broken, next_fits, next_told}
use Rattle.reader.proofs.next_record.Goals as goal

pub returns-then-is_unfit : goal.returns-then-is_unfit
returns-then-is_unfit c =
    let a = c.args in
    ap Refused c.at.ensures ∙ next_unfit a.buffer.now a.end a.place (sym c.is_unfit.ensures ∙ c.if-is_unfit.true)

pub returns-then-end-place : goal.returns-then-end-place
returns-then-end-place c = ap Refused c.at-then-end-place.ensures ∙ next_none _ _ _ (sym c.is_unfit.ensures ∙ c.if-is_unfit.false) (omega arith)

pub returns-in_default : goal.returns-in_default
returns-in_default c =
    ap Refused c.at-in_default.ensures ∙ next_broken _ _ _ (sym c.is_unfit.ensures ∙ c.if-is_unfit.false) (omega arith) c.in_default.ensures

pub overflow_add-result : goal.overflow_add-result
overflow_add-result c =
    let a = c.args in
    let fit = sym c.is_unfit.ensures ∙ c.if-is_unfit.false in
    record { fits = omega (arith, next_fits a.buffer.now a.end a.place fit (omega arith) c.in-Some.ensures, fit_lengths a.buffer.now a.end fit) }

pub returns : goal.returns
returns c =
    next_told _ _ _ (sym c.is_unfit.ensures ∙ c.if-is_unfit.false) (omega arith) c.in-Some.ensures _ c.found_at-record.ensures
