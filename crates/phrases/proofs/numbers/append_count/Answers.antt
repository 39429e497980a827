use Rattle.text_buffer.proofs.Promises.{appends_same, one, more, appends_number}
use Rattle.text_buffer.specs.Text.{bytes_of}
use Rattle.text_buffer.specs.Decimal.{decimal}
use Rattle.phrases.proofs.Numbering.{count_one, count_more}
use Rattle.phrases.proofs.numbers.append_count.Goals as goal

pub returns-then-number-ne1-clause-text : goal.returns-then-number-ne1-clause-text
returns-then-number-ne1-clause-text c = let a = c.args in appends_same _ _ (count_more a.number a.word.now c.if-number-ne1.true) (more (more (more (one (decimal a.number) (appends_number a.number c.append_number.ensures.text)) (bytes_of " ") c.append.ensures.text) a.word.now c.append-2.ensures.text) (bytes_of "s") c.append-then-number-ne1.ensures.text).text

pub returns-else-number-ne1-clause-text : goal.returns-else-number-ne1-clause-text
returns-else-number-ne1-clause-text c = let a = c.args in appends_same _ _ (count_one a.number a.word.now c.if-number-ne1.false) (more (more (one (decimal a.number) (appends_number a.number c.append_number.ensures.text)) (bytes_of " ") c.append.ensures.text) a.word.now c.append-2.ensures.text).text
