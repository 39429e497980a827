use mathlib.Core.Path.{◌∙◌}
use Rattle.scenario.proofs.Reading.{file_none, file_named}
use Rattle.scenario.proofs.read_file.Goals as goal

pub returns-then-place : goal.returns-then-place
returns-then-place c = c.wrong.ensures ∙ file_none _ _ c.next_word-place.ensures c.if-place.true _ _

pub returns : goal.returns
returns c = c.ends.ensures ∙ file_named _ _ c.next_word-place.ensures c.if-place.false _ _
