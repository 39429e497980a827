use Rattle.std.proofs.Common.{arith}
use Rattle.arithmetic.proofs.Shifts.{unsigned_any, unsigned_out}
use Rattle.arithmetic.proofs.rsh_unsigned.Goals as goal

pub returns-then-b-lt64 : goal.returns-then-b-lt64
returns-then-b-lt64 c = unsigned_any _ _ (omega arith)

pub returns-else-b-lt64 : goal.returns-else-b-lt64
returns-else-b-lt64 c = unsigned_out _ _ (omega arith) (omega arith)
