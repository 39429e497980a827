use mathlib.Core.Path.{◌∙◌}
use borrow.Author.Tests.{le-leb, ne_eqb}
use Rattle.expression_bytes.proofs.Reading.{list_not, list_short, list_long}
use Rattle.expression_bytes.proofs.is_list.Goals as goal

pub returns-then-word-le5 : goal.returns-then-word-le5
returns-then-word-le5 c = le-leb _ _ c.if-word-le5.true ∙ list_short _ _ c.if-comma-eq2.true c.if-word-le5.true

pub returns-else-word-le5 : goal.returns-else-word-le5
returns-else-word-le5 c = list_long _ _ c.if-comma-eq2.true _ c.is_digit.ensures

pub returns-else-comma-eq2 : goal.returns-else-comma-eq2
returns-else-comma-eq2 c = ne_eqb _ _ c.if-comma-eq2.false ∙ list_not _ _ c.if-comma-eq2.false
