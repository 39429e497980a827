use mathlib.Core.Path.{refl, sym, ◌∙◌}
use borrow.Author.Tests.{eq-eqb, ne_eqb}
use Rattle.operations.proofs.Placing.{next_here, taken_here}
use Rattle.operations.proofs.Doing.{did_cells}
use Rattle.operations.proofs.do_if_goto.Goals as goal

pub returns-then-cell-eq0 : goal.returns-then-cell-eq0
returns-then-cell-eq0 c =
    did_cells c.requires.lent.long refl c.requires refl (rw (eq-eqb _ 0 (sym c.below-cell.ensures ∙ c.if-cell-eq0.true)) (next_here c.requires c.next_of-at.ensures))
    (taken_here c.requires c.height_of-height.ensures refl)

pub returns : goal.returns
returns c =
    did_cells c.requires.lent.long refl c.requires refl (rw (ne_eqb _ 0 (λ z. c.if-cell-eq0.false (c.below-cell.ensures ∙ z))) c.operand_at-at.ensures.0)
    (taken_here c.requires c.height_of-height.ensures refl)
