use Rattle.std.proofs.Common.{arith}
use Rattle.arithmetic.proofs.Shifts.{lsh_any, lsh_out}
use Rattle.arithmetic.proofs.lsh.Goals as goal

pub returns-then-b-lt64 : goal.returns-then-b-lt64
returns-then-b-lt64 c = lsh_any _ _

pub returns-else-b-lt64 : goal.returns-else-b-lt64
returns-else-b-lt64 c = lsh_out _ _ (omega arith)
