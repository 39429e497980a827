use mathlib.Core.List.{[], ◌∷◌}
use native.Mathlib.Omega.{arith}
use lib.ListN.{get_or}
use Rattle.isa.specs.Decode.{operand}
use Rattle.operations.proofs.Promises.{next_here, word_stack}
use Rattle.recording.proofs.Appending.{did_made}
use Rattle.recording.proofs.do_tracev.Goals as goal

pub returns : goal.returns
returns c =
    let n = c.operand_at-number.ensures.0 in
    let r = c.put_word.ensures in
    did_made (get_or c.args.variables.now (operand c.args.fixed.code.now c.args.place.at) 0 ∷ []) c.requires.here _ (rw n at c.in_ok-put.ensures) (omega (arith, r.put))
    (next_here c.requires.here r.at) (rw n at (word_stack c.requires.here r)) r.long
