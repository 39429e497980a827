use mathlib.Core.Path.{◌∙◌}
use Rattle.scenario.proofs.Reading.{ends_here, ends_later}
use Rattle.scenario.proofs.ends.Goals as goal

pub returns-then-word : goal.returns-then-word
returns-then-word c = ends_here _ _ c.next_word-word.ensures c.if-word.true _

pub returns : goal.returns
returns c = c.wrong.ensures ∙ ends_later _ _ c.next_word-word.ensures c.if-word.false _
