use Rattle.std.proofs.Common.{◌∙◌}
use Rattle.arithmetic.proofs.Signs.{remainder}
use Rattle.arithmetic.proofs.rem_signed.Goals as goal

pub returns : goal.returns
returns c =
    let operands = remainder c.ranges.a c.ranges.b c.cast_signed.ensures c.cast_signed-2.ensures in
    c.cast_unsigned.ensures ∙ operands c.wrapping_rem-remainder.ensures
