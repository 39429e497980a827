use native.Mathlib.Omega.{arith}
use mathlib.Core.Path.{◌∙◌}
use Rattle.operations.proofs.Cases.{unary_not, unary_bits}
use Rattle.operations.proofs.unary_word.Goals as goal

pub returns-then-opcode-eq-LOG_NOT : goal.returns-then-opcode-eq-LOG_NOT
returns-then-opcode-eq-LOG_NOT c = c.log_not.ensures ∙ unary_not _ _ (omega arith)

pub returns : goal.returns
returns c = c.bit_not.ensures ∙ unary_bits _ _ (omega arith)
