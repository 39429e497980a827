use mathlib.Core.Path.{◌∙◌}
use Rattle.scenario.proofs.Reading.{source_none, source_bytes, source_file, source_other}
use Rattle.scenario.proofs.read_source.Goals as goal

pub returns-then-start-end : goal.returns-then-start-end
returns-then-start-end c = c.wrong.ensures ∙ source_none _ _ c.next_word-word.ensures c.if-start-end.true _ _

pub returns-then-is_same : goal.returns-then-is_same
returns-then-is_same c = source_bytes _ _ c.next_word-word.ensures c.if-start-end.false _ _ _ c.is_same.ensures c.if-is_same.true

pub returns-then-is_same-2 : goal.returns-then-is_same-2
returns-then-is_same-2 c = c.read_file.ensures ∙ source_file _ _ c.next_word-word.ensures c.if-start-end.false _ _ _ c.is_same.ensures c.if-is_same.false _ c.is_same-2.ensures c.if-is_same-2.true

pub returns : goal.returns
returns c = c.wrong-2.ensures ∙ source_other _ _ c.next_word-word.ensures c.if-start-end.false _ _ _ c.is_same.ensures c.if-is_same.false _ c.is_same-2.ensures c.if-is_same-2.false
