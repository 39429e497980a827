use mathlib.Core.Path.{sym, ◌∙◌}
use Rattle.expression_bytes.proofs.Reading.{front_end, front_list, front_by, by_none, by_some}
use Rattle.expression_bytes.proofs.length_of.Goals as goal

pub returns-in_err-comma-clause-front : goal.returns-in_err-comma-clause-front
returns-in_err-comma-clause-front c = rw c.from_residual.ensures (front_end _ (sym c.in_err-comma.was ∙ c.first_comma.ensures))

pub returns-then-is_list-clause-front : goal.returns-then-is_list-clause-front
returns-then-is_list-clause-front c = front_list _ _ (sym c.in_ok-comma.was ∙ c.first_comma.ensures) _ c.is_list.ensures c.if-is_list.true

pub returns-in_err-value-clause-front : goal.returns-in_err-value-clause-front
returns-in_err-value-clause-front c =
    rw c.from_residual-in_err-value.ensures
    (by_none _ _ (sym c.in_err-value.was ∙ c.ok.ensures.value)
    ∙ front_by c.args.word.now _ (sym c.in_ok-comma.was ∙ c.first_comma.ensures) _ c.is_list.ensures c.if-is_list.false _ c.unsigned.ensures)

pub returns-clause-front : goal.returns-clause-front
returns-clause-front c =
    by_some _ _ _ (sym c.in_ok-value.was ∙ c.ok.ensures.value)
    ∙ front_by c.args.word.now _ (sym c.in_ok-comma.was ∙ c.first_comma.ensures) _ c.is_list.ensures c.if-is_list.false _ c.unsigned.ensures
