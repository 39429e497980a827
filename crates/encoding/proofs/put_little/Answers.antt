use Rattle.encoding.proofs.Putting.{little_start, little_turn, little_end}
use Rattle.encoding.proofs.put_little.Goals as goal

pub loop-put-init : goal.loop-put-init
loop-put-init c = little_start c.args.out.now c.args.at c.args.value c.args.count

pub loop-put-preserved : goal.loop-put-preserved
loop-put-preserved c = little_turn c.loop-put.invariant c.loop-put-test.true

pub shape_of-out : goal.shape_of-out
shape_of-out c = c.loop-put.invariant.same

pub returns : goal.returns
returns c = little_end c.loop-put.invariant c.loop-put-test.false
