use Rattle.std.proofs.Common.{refl}
use Rattle.arithmetic.specs.Words.{bit_and}
use Rattle.arithmetic.proofs.bit_and.Goals as goal

pub returns : goal.returns
unfolding bit_and
returns c = refl
