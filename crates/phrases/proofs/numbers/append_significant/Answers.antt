-- `phrases::numbers::append_significant` meets its contract. Assumes nothing.
use mathlib.Core.Path.{◌∙◌}
use Rattle.encoding.proofs.Promises.{part_lent}
use Rattle.text_buffer.proofs.Promises.{appends_same}
use Rattle.phrases.proofs.numbers.append_significant.Goals as goal

pub returns-clause-text : goal.returns-clause-text
returns-clause-text c = appends_same _ _ (part_lent c.args.figures.now c.zeros-n.result ∙ c.zeros-n.ensures.place) c.append.ensures.text
