use Rattle.std.proofs.Common.{◌≤◌, length}
use Rattle.reader.proofs.Splitting.{Left}
use Rattle.reader.proofs.divide.Given as goal

abbrev pub invariant-loop-rest : goal.invariant-loop-rest
invariant-loop-rest l = record { rest : Left l.bytes l.rest l.wanted l.count l.left; noted : l.left ≤ length l.bytes }

abbrev pub decreases-loop-rest : goal.decreases-loop-rest
decreases-loop-rest l = length l.rest
