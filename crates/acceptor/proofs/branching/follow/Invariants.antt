use lib.ListN.{length}
use Prim.Native.Nat.{◌-◌, ◌<◌}
use Rattle.acceptor.specs.Joining.CodeWithJumps.{Branching}
use Rattle.acceptor.proofs.branching.follow.Given as goal

abbrev pub invariant-loop-s : goal.invariant-loop-s
invariant-loop-s g l = l.s.at < length l.e → Branching l.e l.s l.brought.heights l.brought.distances

abbrev pub decreases-loop-s : goal.decreases-loop-s
decreases-loop-s g l = length l.e - l.s.at
