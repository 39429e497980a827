use Prim.Native.Nat.{◌-◌}
use lib.ListN.{length}
use Rattle.heights.specs.Arrivals.{marked, NoMark}
use Rattle.heights.specs.Joining.Filling.{Filling}
use Rattle.heights.proofs.fill.Given as goal

abbrev pub invariant-loop-at : goal.invariant-loop-at
invariant-loop-at l = Filling l.e l.at (marked l.heights) × NoMark l.heights

abbrev pub decreases-loop-at : goal.decreases-loop-at
decreases-loop-at l = length l.e - l.at
