use Rattle.std.proofs.Common.{rules}
use Rattle.text_buffer.specs.Text.{bytes_of}
use Rattle.text_buffer.proofs.Promises.{appends_same, one, more}
use Rattle.phrases.specs.Numbers.{signed_text}
use Rattle.step_lines.proofs.Steps.{reading_same, reading_other}
use Rattle.step_lines.proofs.append_reading.Goals as goal

pub returns-then-cell-lt9223372036854775808 : goal.returns-then-cell-lt9223372036854775808
returns-then-cell-lt9223372036854775808 c =
    record { count = c.append.ensures.count; text = appends_same _ _ (reading_same c.args.cell c.if-cell-lt9223372036854775808.true) c.append.ensures.text; lent = search rules }

pub returns : goal.returns
returns c =
    let x = c.args.cell in record {
      count = c.append-3.ensures.count;
      text = appends_same _ _ (reading_other x c.if-cell-lt9223372036854775808.false)
          (more (more (one (bytes_of "(") c.append-2.ensures.text) (signed_text x) c.append_signed.ensures.text) (bytes_of ")") c.append-3.ensures.text).text;
      lent = search rules;
    }
