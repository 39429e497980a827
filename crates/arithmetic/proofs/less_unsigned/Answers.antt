use Rattle.std.proofs.Common.{◌∙◌}
use Rattle.arithmetic.specs.Words.{less_unsigned}
use Rattle.arithmetic.proofs.Signs.{truth_of}
use Rattle.arithmetic.proofs.less_unsigned.Goals as goal

pub returns : goal.returns
unfolding less_unsigned
returns c = c.from.ensures ∙ truth_of _
