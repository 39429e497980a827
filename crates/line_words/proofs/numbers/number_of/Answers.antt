use mathlib.Core.Path.{refl, ap, ◌∙◌}
use Rattle.line_words.specs.Numbers.{number_in}
use Rattle.line_words.proofs.Numbering.{number_hexadecimal, number_decimal}
use Rattle.line_words.proofs.numbers.number_of.Goals as goal

pub returns-in-Some : goal.returns-in-Some
returns-in-Some c =
    let h = c.in-Some.ensures.cases in
    c.unsigned.ensures ∙ ap (number_in 16) h.1 ∙ number_hexadecimal c.args.word.now _ h.0 refl

pub returns-in-None : goal.returns-in-None
returns-in-None c = c.unsigned-in-None.ensures ∙ number_decimal c.args.word.now _ c.in-None.ensures.cases refl
