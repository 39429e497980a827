use Rattle.std.proofs.Common.{rules}
-- `phrases::refused::append_refused_at` meets its contract. Assumes nothing.
use Rattle.text_buffer.proofs.Promises.{one, more, appends_number}
use Rattle.text_buffer.specs.Text.{bytes_of}
use Rattle.text_buffer.specs.Decimal.{decimal}
use Rattle.phrases.specs.Refused.{refused_at}
use Rattle.phrases.proofs.refused.append_refused_at.Goals as goal

pub returns : goal.returns
unfolding refused_at
returns c = let a = c.args in record { count = c.append_number-2.ensures.count; text = (more (more (more (one (bytes_of "refused ") c.append.ensures.text) (decimal a.refusal) (appends_number a.refusal (rw c.from.ensures at c.append_number.ensures.text))) (bytes_of " at offset ") c.append-2.ensures.text) (decimal a.offset) (appends_number a.offset c.append_number-2.ensures.text)).text; lent = search rules }
