use Rattle.std.proofs.Common.{take}
use Rattle.memory.specs.Joining.Searching.{Passed}
use Rattle.memory.proofs.find_zero.Given as goal

abbrev pub invariant-loop-at : goal.invariant-loop-at
invariant-loop-at l = Passed (take l.limit l.bytes) l.at
