-- `text_buffer::append_number` meets its contract: the bytes appended are the digits that `io::decimal` ensures.
-- Assumes nothing.
use Rattle.text_buffer.proofs.Appending.{appends_same}
use Rattle.text_buffer.proofs.append_number.Goals as goal

pub returns : goal.returns
returns c =
    let d = c.decimal-k in
    let p = c.append.ensures in
    record { count = p.count; text = (d.result, d.ensures.len, appends_same _ _ d.ensures.digits p.text) }
