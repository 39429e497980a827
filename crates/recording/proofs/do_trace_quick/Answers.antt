use mathlib.Core.List.{[], ◌∷◌}
use mathlib.Core.Path.{refl}
use lib.ListN.{get_or}
use Rattle.isa.specs.Joining.Held.{held}
use Rattle.operations.proofs.Promises.{next_here}
use Rattle.recording.proofs.Making.{range_same}
use Rattle.isa.proofs.Promises.{held_top}
use Rattle.recording.proofs.Appending.{made_as, did_made}
use Rattle.recording.proofs.do_trace_quick.Goals as goal

pub returns : goal.returns
returns c =
    let m = made_as (range_same _ _ c.below-address.ensures c.operand_at-size.ensures.0) c.in_ok-put.ensures in
    did_made (get_or (held c.args.cells.now c.args.place.height) 0 0 ∷ []) c.requires.here _ m refl (next_here c.requires.here c.next_of-at.ensures)
    (held_top _ _ c.requires.here.fits.cells) c.requires.here.lent.long
