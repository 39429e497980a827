use Prim.Native.Nat.{◌-◌}
use lib.ListN.{length}
use Rattle.passes.specs.Joining.Tables.{Measuring}
use Rattle.passes.proofs.pass3.measure.Given as goal

abbrev pub invariant-loop-at : goal.invariant-loop-at
invariant-loop-at g l = Measuring l.e l.at l.brought.heights l.brought.distances l.carry.height l.carry.distance l.carry.greatest l.carry.longest

abbrev pub decreases-loop-at : goal.decreases-loop-at
decreases-loop-at g l = length l.e - l.at
