use mathlib.Core.Path.{refl}
use native.Mathlib.Omega.{arith}
use Rattle.isa.proofs.Promises.{held_top}
use Rattle.operations.proofs.Placing.{next_here, same_here}
use Rattle.operations.proofs.Doing.{did_cells}
use Rattle.operations.proofs.do_setv.Goals as goal

pub returns-clause-moved : goal.returns-clause-moved
returns-clause-moved c =
    did_cells c.requires.lent.long c.next_place.ensures.put c.requires refl (next_here c.requires c.next_place.ensures.at)
    (rw (same_here c.requires c.next_place.ensures.height refl) (held_top _ _ (omega (arith, c.requires.fits.cells))))
