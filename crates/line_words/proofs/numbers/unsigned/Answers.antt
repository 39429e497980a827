use mathlib.Core.Path.{◌∙◌}
use Rattle.std.proofs.Common.{rules}
use Rattle.line_words.specs.Numbers.{base_of}
use Rattle.line_words.proofs.Numbering.{unsigned_none, unsigned_other, unsigned_all}
use Rattle.line_words.proofs.numbers.unsigned.Goals as goal
use Rattle.line_words.proofs.numbers.unsigned.Goals.{then-is_empty-via-then-is_empty, then-is_empty-via-else-is_empty+then-not-is_whole}

pub returns-then-is_empty : goal.returns-then-is_empty
returns-then-is_empty c =
    elim c.then-is_empty.branch [
      | then-is_empty-via-then-is_empty w ↦ unsigned_none (base_of c.args.base) c.args.word.now (search rules)
      | then-is_empty-via-else-is_empty+then-not-is_whole w ↦ unsigned_other (base_of c.args.base) c.args.word.now (search rules)
    ]

pub returns : goal.returns
returns c = c.value.ensures ∙ unsigned_all (base_of c.args.base) c.args.word.now (search rules) (search rules)
