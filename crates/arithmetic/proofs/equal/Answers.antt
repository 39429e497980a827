use Rattle.std.proofs.Common.{◌∙◌}
use Rattle.arithmetic.specs.Words.{equal}
use Rattle.arithmetic.proofs.Signs.{truth_of}
use Rattle.arithmetic.proofs.equal.Goals as goal

pub returns : goal.returns
unfolding equal
returns c = c.from.ensures ∙ truth_of _
