use Prim.Native.Nat.{◌-◌}
use lib.ListN.{length}
use Rattle.passes.proofs.Scanning.{Scanning}
use Rattle.passes.proofs.pass1.scan.Given as goal

abbrev pub invariant-loop-at : goal.invariant-loop-at
invariant-loop-at g l = Scanning l.e l.at l.count l.found.noted l.found.marks l.found.jumps

abbrev pub decreases-loop-at : goal.decreases-loop-at
decreases-loop-at g l = length l.e - l.at
