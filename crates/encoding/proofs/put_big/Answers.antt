use Rattle.encoding.proofs.BigBytes.{big_start, big_turn, big_end}
use Rattle.encoding.proofs.put_big.Goals as goal

pub loop-put-init : goal.loop-put-init
loop-put-init c = big_start c.args.out.now c.args.at c.args.value c.args.count

pub loop-put-preserved : goal.loop-put-preserved
loop-put-preserved c = big_turn c.loop-put.invariant c.loop-put-test.true

pub shape_of-out : goal.shape_of-out
shape_of-out c = c.loop-put.invariant.same

pub returns : goal.returns
returns c = big_end c.loop-put.invariant c.loop-put-test.false
