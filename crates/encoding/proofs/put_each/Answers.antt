use Rattle.encoding.proofs.Putting.{bytes_start, bytes_turn, bytes_end}
use Rattle.encoding.proofs.put_each.Goals as goal

pub loop-copied-init : goal.loop-copied-init
loop-copied-init c = bytes_start c.args.out.now c.args.at c.args.bytes.now

pub loop-copied-preserved : goal.loop-copied-preserved
loop-copied-preserved c = bytes_turn c.loop-copied.invariant c.loop-copied-test.true

pub shape_of-out : goal.shape_of-out
shape_of-out c = c.loop-copied.invariant.same

pub returns : goal.returns
returns c = bytes_end c.loop-copied.invariant c.loop-copied-test.false
