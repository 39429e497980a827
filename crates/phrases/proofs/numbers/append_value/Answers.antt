use Rattle.std.proofs.Common.{rules}
-- `phrases::numbers::append_value` meets its contract. Assumes nothing.
use mathlib.Core.Path.{ap}
use Rattle.text_buffer.proofs.Promises.{appends_same, one, more, appends_number}
use Rattle.text_buffer.specs.Text.{bytes_of}
use Rattle.text_buffer.specs.Decimal.{decimal}
use Rattle.phrases.specs.Numbers.{hex_text, significant, other_reading, value_text}
use Rattle.phrases.proofs.Numbering.{spelt}
use Rattle.phrases.proofs.numbers.append_value.Goals as goal

pub returns : goal.returns
unfolding value_text
returns c =
    let v = c.args.value in
    let start = one (decimal v) (appends_number v c.append_number.ensures.text) in
    let readings = more (more start (bytes_of " (") c.append.ensures.text) (other_reading v) c.append_other_reading.ensures.text in
    let digits = appends_same _ _ (ap significant (spelt v _ _ c.ranges.value.fits c.hex-k.ensures.len c.hex-k.ensures.digits)) c.append_significant.ensures.text in
    record { count = c.append-3.ensures.count; text = (more (more (more readings (bytes_of "0x") c.append-2.ensures.text) (significant (hex_text v)) digits) (bytes_of ")") c.append-3.ensures.text).text; lent = search rules }
