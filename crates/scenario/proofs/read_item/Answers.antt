use mathlib.Core.Path.{◌∙◌, sym}
use Rattle.scenario.proofs.Reading.{item_none, item_some}
use Rattle.scenario.proofs.read_item.Goals as goal

pub returns-then-start-end : goal.returns-then-start-end
returns-then-start-end c = item_none _ c.next_word-word.ensures c.if-start-end.true

pub returns-in-Some : goal.returns-in-Some
returns-in-Some c = c.read_rest.ensures ∙ item_some _ c.next_word-word.ensures c.if-start-end.false _ (sym c.in-Some.is ∙ c.keyword_of.ensures)

pub returns-in-None : goal.returns-in-None
returns-in-None c = c.wrong.ensures ∙ item_some _ c.next_word-word.ensures c.if-start-end.false _ (sym c.in-None.is ∙ c.keyword_of.ensures)
