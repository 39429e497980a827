use native.Mathlib.Omega.{arith}
use Rattle.acceptor.proofs.AlongJumps.{accepts_last}
use Rattle.acceptor.proofs.branching.at_last.Goals as goal

pub returns : goal.returns
returns c _ _ j x last p = accepts_last j x last (omega arith) (omega arith) _ p
