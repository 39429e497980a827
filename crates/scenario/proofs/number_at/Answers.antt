use mathlib.Core.Path.{◌∙◌}
use Rattle.scenario.proofs.Reading.{number_none, number_not, number_large, number_fits, number_over}
use Rattle.scenario.proofs.number_at.Goals as goal

pub returns-then-start-end-clause-number : goal.returns-then-start-end-clause-number
returns-then-start-end-clause-number c = c.wrong.ensures ∙ number_none _ _ c.next_word-word.ensures c.if-start-end.true _

pub returns-then-value-limit-clause-number : goal.returns-then-value-limit-clause-number
returns-then-value-limit-clause-number c = number_fits _ _ c.next_word-word.ensures c.if-start-end.false _ _ c.number_of.ensures _ c.in-Ok.is c.if-value-limit.true

pub returns-in-Err-Not-clause-number : goal.returns-in-Err-Not-clause-number
returns-in-Err-Not-clause-number c = c.wrong-in-Err-Not.ensures ∙ number_not _ _ c.next_word-word.ensures c.if-start-end.false _ _ c.number_of.ensures (rw c.in-Err-Not.field-0-is at c.in-Err-Not.is)

pub returns-in-Err-Large-clause-number : goal.returns-in-Err-Large-clause-number
returns-in-Err-Large-clause-number c = c.wrong-in-Err-Large.ensures ∙ number_large _ _ c.next_word-word.ensures c.if-start-end.false _ _ c.number_of.ensures (rw c.in-Err-Large.field-0-is at c.in-Err-Large.is)

pub returns-else-value-limit-clause-number : goal.returns-else-value-limit-clause-number
returns-else-value-limit-clause-number c = c.wrong-in-Ok.ensures ∙ number_over _ _ c.next_word-word.ensures c.if-start-end.false _ _ c.number_of.ensures _ c.in-Ok.is c.if-value-limit.false
