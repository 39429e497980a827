use mathlib.Core.Path.{sym, ◌∙◌}
use Rattle.expression_bytes.proofs.Reading.{read_by}
use Rattle.expression_bytes.proofs.read.Goals as goal

pub returns-in-Some : goal.returns-in-Some
returns-in-Some c =
    read_by _ _ c.bytes_start-from.ensures.0 _ c.next_word-word.ensures _ (sym c.in-Some.is ∙ c.length_of.ensures.front) _ _ _ c.read_from.ensures

pub returns-in-None : goal.returns-in-None
returns-in-None c =
    read_by _ _ c.bytes_start-from.ensures.0 _ c.next_word-word.ensures _ (sym c.in-None.is ∙ c.length_of.ensures.front) _ _ _ c.read_from-in-None.ensures
