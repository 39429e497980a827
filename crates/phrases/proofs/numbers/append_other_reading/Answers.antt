-- `phrases::numbers::append_other_reading` meets its contract. Assumes nothing.
use Rattle.text_buffer.specs.Text.{bytes_of}
use Rattle.text_buffer.proofs.Promises.{appends_same, one, more}
use Rattle.phrases.specs.Numbers.{signed_text}
use Rattle.phrases.proofs.Numbering.{reading_same, reading_other}
use Rattle.phrases.proofs.numbers.append_other_reading.Goals as goal

pub returns-then-value-lt9223372036854775808-clause-text : goal.returns-then-value-lt9223372036854775808-clause-text
returns-then-value-lt9223372036854775808-clause-text c = appends_same _ _ (reading_same c.args.value c.if-value-lt9223372036854775808.true) c.append.ensures.text

pub returns-clause-text : goal.returns-clause-text
returns-clause-text c = appends_same _ _ (reading_other c.args.value c.if-value-lt9223372036854775808.false) (more (one (signed_text c.args.value) c.append_signed.ensures.text) (bytes_of ", ") c.append-2.ensures.text).text
