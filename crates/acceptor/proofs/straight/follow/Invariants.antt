use Prim.Native.Nat.{◌-◌}
use lib.ListN.{length}
use Rattle.acceptor.proofs.AlongStraight.{Looping}
use Rattle.acceptor.proofs.straight.follow.Given as goal

abbrev pub invariant-loop-s : goal.invariant-loop-s
invariant-loop-s l = Looping l.e l.s

abbrev pub decreases-loop-s : goal.decreases-loop-s
decreases-loop-s l = length l.e - l.s.at
