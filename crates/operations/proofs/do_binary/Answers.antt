use mathlib.Core.Path.{refl}
use Rattle.operations.proofs.Cases.{binary_left, binary_refused}
use Rattle.operations.proofs.Doing.{did_word, did_refused}
use Rattle.operations.proofs.do_binary.Goals as goal

pub returns-then-is_zero_divisor : goal.returns-then-is_zero_divisor
returns-then-is_zero_divisor c =
    did_refused c.requires.lent.long (binary_refused _ _ c.below-a.ensures c.below-b.ensures c.is_zero_divisor.ensures c.if-is_zero_divisor.true) refl

pub returns : goal.returns
returns c =
    did_word c.requires c.put_word.ensures refl refl
    (binary_left _ _ c.below-a.ensures c.below-b.ensures c.is_zero_divisor.ensures c.if-is_zero_divisor.false c.binary_word-word.ensures)
