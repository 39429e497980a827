use Prim.Native.Nat.{◌-◌}
use Rattle.reader.proofs.Locating.{Back}
use Rattle.reader.proofs.locate.Given as goal

abbrev pub invariant-loop-passed : goal.invariant-loop-passed
invariant-loop-passed l = Back l.buffer l.used l.number l.end (l.number - l.passed)
