use Rattle.std.proofs.Common.{arith, pow_pos}
use Rattle.arithmetic.proofs.Shifts.{zero_ext_same, one_shifted, zero_ext_by}
use Rattle.arithmetic.proofs.zero_ext.Goals as goal

pub returns-then-n-ge64 : goal.returns-then-n-ge64
returns-then-n-ge64 c = zero_ext_same _ _ (omega arith)

pub nonzero_rem-result : goal.nonzero_rem-result
nonzero_rem-result c = rw (one_shifted c.args.n (omega arith)) (pow_pos c.args.n)

pub returns : goal.returns
returns c = zero_ext_by _ _ (one_shifted _ (omega arith)) (omega arith)
