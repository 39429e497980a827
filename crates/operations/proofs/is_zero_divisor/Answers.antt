use Rattle.std.proofs.Common.{arith}
use Rattle.std.proofs.lemmas.Grind.{common_steps}
use Rattle.machine.specs.Words.{zero_divisor}
use Rattle.operations.proofs.is_zero_divisor.Goals as goal

pub returns-then-opcode-ge-DIV_SIGNED : goal.returns-then-opcode-ge-DIV_SIGNED
unfolding zero_divisor
returns-then-opcode-ge-DIV_SIGNED c = grind (arith, common_steps)

pub returns-else-opcode-ge-DIV_SIGNED : goal.returns-else-opcode-ge-DIV_SIGNED
unfolding zero_divisor
returns-else-opcode-ge-DIV_SIGNED c = grind (arith, common_steps)
