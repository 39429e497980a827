use mathlib.Core.Path.{refl, ◌∙◌}
use Rattle.listing.proofs.Lining.{line_empty, line_name, line_offset, line_other, line_err}
use Rattle.listing.proofs.reading.read_line.Goals as goal

pub returns-then-start-end : goal.returns-then-start-end
returns-then-start-end c = line_empty _ c.next_word-word.ensures c.if-start-end.true

pub returns-then-not-is_digit : goal.returns-then-not-is_digit
returns-then-not-is_digit c = c.read_name.ensures ∙ line_name _ c.next_word-word.ensures c.if-start-end.false _ c.is_digit.ensures c.if-not-is_digit.true

pub returns-then-v-at : goal.returns-then-v-at
returns-then-v-at c = c.read_name-then-v-at.ensures ∙ line_offset _ c.next_word-word.ensures c.if-start-end.false _ c.is_digit.ensures c.if-not-is_digit.false _ c.in-Ok.ensures _ refl c.if-v-at.true

pub returns-in-Err : goal.returns-in-Err
returns-in-Err c =
    c.wrong.ensures ∙ line_err _ c.next_word-word.ensures c.if-start-end.false _ c.is_digit.ensures c.if-not-is_digit.false _ c.in-Err.ensures _ refl

pub returns-else-v-at : goal.returns-else-v-at
returns-else-v-at c = c.wrong-in-Ok.ensures ∙ line_other _ c.next_word-word.ensures c.if-start-end.false _ c.is_digit.ensures c.if-not-is_digit.false _ c.in-Ok.ensures _ refl c.if-v-at.false
