use mathlib.Core.Path.{◌∙◌}
use borrow.Author.Tests.{le-ltb}
use Rattle.verify_lines.proofs.Rows.{listed_high, listed_low}
use Rattle.verify_lines.proofs.listed.is_row.Goals as goal

pub returns-then-offset-lt-EXPRESSION_MOST : goal.returns-then-offset-lt-EXPRESSION_MOST
returns-then-offset-lt-EXPRESSION_MOST c =
    let a = c.args in c.is_instruction.ensures ∙ listed_low a.code.now a.offset c.if-offset-lt-EXPRESSION_MOST.true

pub returns-else-offset-lt-EXPRESSION_MOST : goal.returns-else-offset-lt-EXPRESSION_MOST
returns-else-offset-lt-EXPRESSION_MOST c =
    let a = c.args in
    let h = c.if-offset-lt-EXPRESSION_MOST.false in
    le-ltb a.offset 1024 h ∙ listed_high a.code.now a.offset h
