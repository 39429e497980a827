use Rattle.std.proofs.Common.{rules}
-- `phrases::numbers::append_address` meets its contract. Assumes nothing.
use Rattle.text_buffer.proofs.Promises.{appends_same}
use Rattle.phrases.proofs.Numbering.{spelt}
use Rattle.phrases.proofs.numbers.append_address.Goals as goal

pub returns : goal.returns
returns c = record { count = c.append.ensures.count; text = appends_same _ _ (spelt c.args.address _ _ c.ranges.address.fits c.hex-k.ensures.len c.hex-k.ensures.digits) c.append.ensures.text; lent = search rules }
