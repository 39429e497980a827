use native.Mathlib.Omega.{arith}
use Rattle.scenario.proofs.Reading.{cutting_start, cutting_stop, cutting_more, cutting_end}
use Rattle.scenario.proofs.before_comment.Goals as goal

pub loop-n-init : goal.loop-n-init
loop-n-init c = cutting_start _

pub returns-then-opens_comment : goal.returns-then-opens_comment
returns-then-opens_comment c = cutting_stop c.loop-n.invariant c.loop-n-test.true _ c.opens_comment.ensures c.if-opens_comment.true

pub loop-n-preserved : goal.loop-n-preserved
loop-n-preserved c = cutting_more c.loop-n.invariant c.loop-n-test.true _ c.opens_comment.ensures c.if-opens_comment.false _ c.is_blank-is_after_blank.ensures

pub returns : goal.returns
returns c =
    let q = cutting_end c.loop-n.invariant c.loop-n-test.false in
    (omega (arith, q.0, c.loop-n.auto.n-end, c.loop-n-test.false), omega arith)
