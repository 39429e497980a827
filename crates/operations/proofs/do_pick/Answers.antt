use Prim.Native.Nat.{◌+◌}
use Rattle.isa.specs.Decode.{operand}
use Rattle.isa.specs.Joining.Held.{held}
use mathlib.Core.Path.{refl}
use native.Mathlib.Nat.{add_comm}
use lib.ListN.{take-append-drop}
use Rattle.operations.proofs.Placing.{next_here}
use Rattle.operations.proofs.Doing.{did_cells}
use Rattle.operations.proofs.do_pick.Goals as goal

pub returns : goal.returns
returns c =
    let p = c.args.place in
    let n = operand c.args.fixed.code.now p.at in
    did_cells c.replace.ensures.2 refl c.requires refl (next_here c.requires c.next_of.ensures)
    (cc (take-append-drop (n + 1) (held c.args.cells.now p.height), add_comm 1 n))
