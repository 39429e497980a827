use mathlib.Core.Path.{refl}
use native.Mathlib.Omega.{arith}
use Rattle.operations.proofs.Doing.{did_cells, word_height, word_stack, word_next}
use Rattle.operations.proofs.do_dup.Goals as goal

pub replace-height-requires-clause-room : goal.replace-height-requires-clause-room
replace-height-requires-clause-room c = omega (arith, word_height c.requires c.put_word-lower.ensures, c.requires.fits.room)

pub returns : goal.returns
returns c =
    let r = c.put_word-lower.ensures in
    did_cells c.replace-height.ensures.2 r.put c.requires refl (word_next c.requires r) (cc (word_stack c.requires r))
