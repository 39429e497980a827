use mathlib.Core.Path.{◌∙◌}
use Rattle.listing.proofs.Lining.{ends_here, ends_later}
use Rattle.listing.proofs.reading.ends.Goals as goal

pub returns-then-start-word : goal.returns-then-start-word
returns-then-start-word c = ends_here _ _ c.next_word-word.ensures c.if-start-word.true _ _ _

pub returns : goal.returns
returns c = c.wrong.ensures ∙ ends_later _ _ c.next_word-word.ensures c.if-start-word.false _ _ _
