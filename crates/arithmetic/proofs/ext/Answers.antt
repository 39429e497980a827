use Rattle.std.proofs.Common.{◌∙◌, arith}
use Rattle.arithmetic.proofs.Shifts.{ext_same, ext_by}
use Rattle.arithmetic.proofs.ext.Goals as goal

pub returns-then-n-ge64 : goal.returns-then-n-ge64
returns-then-n-ge64 c = ext_same _ _ (omega arith)

pub returns : goal.returns
returns c = let e = c.sub-above.ensures in c.shift_copying.ensures ∙ ext_by _ _ (omega (arith, e)) (omega arith) (omega (arith, e))
