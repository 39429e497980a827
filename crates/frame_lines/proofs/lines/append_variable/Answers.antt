use Rattle.std.proofs.Common.{rules}
use Rattle.text_buffer.proofs.Promises.{one, more, appends_number}
use Rattle.text_buffer.specs.Text.{bytes_of}
use Rattle.text_buffer.specs.Decimal.{decimal}
use Rattle.phrases.specs.Numbers.{value_text}
use Rattle.frame_lines.specs.Lines.{variable_record_text}
use Rattle.frame_lines.proofs.lines.append_variable.Goals as goal

pub returns : goal.returns
unfolding variable_record_text
returns c =
    let a = c.args in
    record {
      count = c.append-4.ensures.count;
      text = (more (more (more (more (more (more (one (bytes_of "  record ") c.append.ensures.text) (decimal a.index)
          (appends_number a.index c.append_number.ensures.text)) (bytes_of ": variable ") c.append-2.ensures.text) (decimal a.variable)
          (appends_number a.variable c.append_number-2.ensures.text)) (bytes_of " = ") c.append-3.ensures.text) (value_text a.value)
          c.append_value.ensures.text) (bytes_of "\n") c.append-4.ensures.text).text;
      lent = search rules;
    }
