use mathlib.Core.Path.{refl}
use Rattle.instruction_text.specs.Names.{names}
use Rattle.instruction_text.proofs.names.names.Goals as goal

pub returns : goal.returns
unfolding names
returns c = refl
