use mathlib.Core.Path.{refl, ◌∙◌}
use Rattle.listing.proofs.Lining.{operand_none, operand_not, operand_large, operand_wide, operand_fits}
use Rattle.listing.proofs.reading.read_operand.Goals as goal

pub returns-then-start-end : goal.returns-then-start-end
returns-then-start-end c = c.wrong.ensures ∙ operand_none _ _ c.next_word-word.ensures c.if-start-end.true _ _

pub returns-then-fits : goal.returns-then-fits
returns-then-fits c = c.ends.ensures ∙ operand_fits _ _ c.next_word-word.ensures c.if-start-end.false _ _ _ c.in-Ok.ensures _ refl _ c.fits.ensures c.if-fits.true

pub returns-in-Err-Not : goal.returns-in-Err-Not
returns-in-Err-Not c = c.wrong-in-Err-Not.ensures ∙ operand_not _ _ c.next_word-word.ensures c.if-start-end.false _ _ _ (rw c.in-Err-Not.field-0-is at c.in-Err-Not.ensures) refl

pub returns-in-Err-Large : goal.returns-in-Err-Large
returns-in-Err-Large c = c.wrong-in-Err-Large.ensures ∙ operand_large _ _ c.next_word-word.ensures c.if-start-end.false _ _ _ (rw c.in-Err-Large.field-0-is at c.in-Err-Large.ensures) refl

pub returns-else-fits : goal.returns-else-fits
returns-else-fits c = c.wrong-in-Ok.ensures ∙ operand_wide _ _ c.next_word-word.ensures c.if-start-end.false _ _ _ c.in-Ok.ensures _ refl _ c.fits.ensures c.if-fits.false
