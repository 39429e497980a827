use Rattle.std.proofs.Common.{arith}
use Rattle.memory.proofs.Searching.{passed_size, passed_end, passed_zero}
use Rattle.memory.proofs.find_zero.Goals as goal

pub returns-then-bytes-at-eq0 : goal.returns-then-bytes-at-eq0
returns-then-bytes-at-eq0 c = passed_zero _ c.loop-at.invariant (omega arith) _ (omega arith) (omega arith) c.if-bytes-at-eq0.true

pub returns-then-limit-size : goal.returns-then-limit-size
returns-then-limit-size c = passed_size _ c.loop-at.invariant (omega arith) _ c.if-limit-size.true (omega arith)

pub returns : goal.returns
returns c = passed_end _ c.loop-at.invariant (omega arith) _ (omega arith) (omega arith) (omega arith)
