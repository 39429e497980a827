use Rattle.std.proofs.Common.{rules}
use Rattle.text_buffer.proofs.Promises.{one, more, appends_number}
use Rattle.text_buffer.specs.Text.{bytes_of}
use Rattle.text_buffer.specs.Decimal.{decimal}
use Rattle.phrases.specs.Numbers.{count_text}
use Rattle.run_lines.specs.Outcome.{buffer_text}
use Rattle.run_lines.proofs.append_buffer.Goals as goal

pub returns : goal.returns
unfolding buffer_text
returns c =
    let a = c.args in
    record {
      count = c.append-3.ensures.count;
      text = (more (more (more (more (one (bytes_of "buffer: ") c.append.ensures.text) (decimal a.used)
          (appends_number a.used c.append_number.ensures.text)) (bytes_of " of ") c.append-2.ensures.text) (count_text a.size (bytes_of "byte"))
          c.append_count.ensures.text) (bytes_of " used\n") c.append-3.ensures.text).text;
      lent = search rules;
    }
