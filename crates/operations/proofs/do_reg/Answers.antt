use mathlib.Core.Path.{refl}
use native.Mathlib.Omega.{arith}
use Rattle.operations.proofs.Cases.{reg_left, reg_refused}
use Rattle.operations.proofs.Doing.{did_word, did_refused}
use Rattle.operations.proofs.do_reg.Goals as goal

pub returns-then-fixed-number : goal.returns-then-fixed-number
returns-then-fixed-number c = did_refused c.requires.lent.long (reg_refused _ c.operand_at-number.ensures.0 (omega arith)) refl

pub returns : goal.returns
returns c = did_word c.requires c.put_word.ensures refl refl (reg_left _ c.operand_at-number.ensures.0 (omega arith))
