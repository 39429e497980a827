use Rattle.std.proofs.Common.{◌∙◌}
use Rattle.arithmetic.specs.Words.{log_not}
use Rattle.arithmetic.proofs.Signs.{truth_of}
use Rattle.arithmetic.proofs.log_not.Goals as goal

pub returns : goal.returns
unfolding log_not
returns c = c.from.ensures ∙ truth_of _
