use native.Mathlib.Omega.{arith}
use Rattle.acceptor.proofs.AlongJumps.{straight_last}
use Rattle.acceptor.proofs.straight.at_end.Goals as goal

pub returns : goal.returns
returns c = straight_last c.requires.0 c.requires.1 c.if-s-e.false (omega arith)
