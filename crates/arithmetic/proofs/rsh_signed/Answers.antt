use Rattle.std.proofs.Common.{◌∙◌, arith}
use Rattle.arithmetic.proofs.Shifts.{signed_any, signed_63}
use Rattle.arithmetic.proofs.rsh_signed.Goals as goal

pub returns-then-b-lt64 : goal.returns-then-b-lt64
returns-then-b-lt64 c = c.shift_copying.ensures ∙ signed_any _ _

pub returns-else-b-lt64 : goal.returns-else-b-lt64
returns-else-b-lt64 c = c.shift_copying-else-b-lt64.ensures ∙ signed_63 _ _ {k = 63} (omega arith)
