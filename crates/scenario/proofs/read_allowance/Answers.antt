use mathlib.Core.Path.{◌∙◌}
use Rattle.scenario.proofs.Reading.{allowance_default, allowance_number}
use Rattle.scenario.proofs.read_allowance.Goals as goal

pub returns-then-is_same : goal.returns-then-is_same
returns-then-is_same c = c.ends.ensures ∙ allowance_default _ _ c.next_word-word.ensures _ c.is_same.ensures c.if-is_same.true

pub returns : goal.returns
returns c = c.read_value.ensures ∙ allowance_number _ _ c.next_word-word.ensures _ c.is_same.ensures c.if-is_same.false
