use native.Mathlib.Omega.{arith}
use Rattle.passes.proofs.Promises.{unmeasured_new}
use Rattle.acceptor.proofs.AlongJumps.{branching_start}
use Rattle.acceptor.proofs.branching.follow.Goals as goal

pub loop-s-init : goal.loop-s-init
loop-s-init g c _ = branching_start c.requires.0 (unmeasured_new _ g.row.N c.requires.1)

pub at_start-requires : goal.at_start-requires
at_start-requires g c = (omega arith, c.loop-s.invariant c.loop-s-test.true)
