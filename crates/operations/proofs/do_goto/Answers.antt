use mathlib.Core.Path.{refl}
use Rattle.operations.proofs.Placing.{taken_here}
use Rattle.operations.proofs.Doing.{did_cells}
use Rattle.operations.proofs.do_goto.Goals as goal

pub returns : goal.returns
returns c =
    did_cells c.requires.lent.long refl c.requires refl c.operand_at-at.ensures.0 (taken_here c.requires c.height_of-height.ensures refl)
