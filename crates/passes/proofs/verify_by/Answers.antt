use mathlib.Core.Path.{sym, ◌∙◌}
use lib.ListN.{length}
use borrow.Author.Tests.{eqb-true}
use Rattle.verdict.proofs.Deciding.{verdict_empty, verdict_long}
use Rattle.passes.proofs.verify_by.Goals as goal
use Rattle.passes.proofs.verify_by.Goals.{then-is_empty-via-then-is_empty, then-is_empty-via-else-is_empty+then-e-gt-EXPRESSION_MOST}

pub returns-then-is_empty : goal.returns-then-is_empty
returns-then-is_empty c =
    rw c.at.ensures
    (elim c.then-is_empty.branch [
      | then-is_empty-via-then-is_empty w ↦ verdict_empty _ (eqb-true (length c.args.e.now) 0 (sym c.is_empty.ensures ∙ w.if-is_empty.true))
      | then-is_empty-via-else-is_empty+then-e-gt-EXPRESSION_MOST w ↦ verdict_long _ w.if-e-gt-EXPRESSION_MOST.true
    ])
