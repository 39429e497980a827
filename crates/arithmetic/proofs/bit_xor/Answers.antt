use Rattle.std.proofs.Common.{refl}
use Rattle.arithmetic.specs.Words.{bit_xor}
use Rattle.arithmetic.proofs.bit_xor.Goals as goal

pub returns : goal.returns
unfolding bit_xor
returns c = refl
