use Rattle.std.proofs.Common.{refl}
use Rattle.arithmetic.specs.Words.{bit_or}
use Rattle.arithmetic.proofs.bit_or.Goals as goal

pub returns : goal.returns
unfolding bit_or
returns c = refl
