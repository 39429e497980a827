use mathlib.Core.Path.{refl}
use Rattle.operations.proofs.Placing.{next_here, taken_here}
use Rattle.operations.proofs.Doing.{did_cells}
use Rattle.operations.proofs.do_pop.Goals as goal

pub returns : goal.returns
returns c =
    did_cells c.requires.lent.long c.next_place.ensures.put c.requires refl (next_here c.requires c.next_place.ensures.at) (taken_here c.requires c.next_place.ensures.height refl)
