use Rattle.std.proofs.Common.{◌*◌}
use Rattle.memory.specs.Joining.Searching.{Passed}
use Rattle.memory.proofs.before_zero.Given as goal

abbrev pub invariant-loop-block : goal.invariant-loop-block
invariant-loop-block l = Passed l.bytes (8 * l.block)
