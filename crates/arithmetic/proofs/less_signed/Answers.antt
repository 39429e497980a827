use Rattle.std.proofs.Common.{◌∙◌}
use Rattle.arithmetic.proofs.Signs.{less}
use Rattle.arithmetic.proofs.less_signed.Goals as goal

pub returns : goal.returns
returns c = c.from.ensures ∙ less c.ranges.a c.ranges.b c.cast_signed.ensures c.cast_signed-2.ensures
