use mathlib.Core.Path.{sym, ◌∙◌}
use lib.Dec.{ltb}
use Rattle.line_words.proofs.Numbering.{digit_of_base, no_digit}
use Rattle.line_words.proofs.numbers.is_digit.Goals as goal

pub returns-in-Some : goal.returns-in-Some
returns-in-Some c = (λ i. ltb (c.from.ensures i) (c.number.ensures i)) ∙ digit_of_base c.args.base c.args.c (sym c.in-Some.is ∙ c.digit.ensures)

pub returns-in-None : goal.returns-in-None
returns-in-None c = no_digit c.args.base c.args.c (sym c.in-None.is ∙ c.digit.ensures)
