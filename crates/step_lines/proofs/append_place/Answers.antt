use Rattle.std.proofs.Common.{rules}
use Rattle.text_buffer.specs.Text.{bytes_of}
use Rattle.text_buffer.specs.Decimal.{decimal}
use Rattle.text_buffer.proofs.Promises.{appends_number, one, more}
use Rattle.step_lines.specs.Step.{place_text}
use Rattle.step_lines.proofs.append_place.Goals as goal

pub returns : goal.returns
unfolding place_text
returns c =
    let a = c.args in record {
      count = c.append-3.ensures.count;
      text = (more (more (more (more (one (bytes_of "  step ") c.append.ensures.text)
          (decimal a.step) (appends_number a.step c.append_number.ensures.text))
          (bytes_of ": offset ") c.append-2.ensures.text)
          (decimal a.offset) (appends_number a.offset c.append_number-2.ensures.text))
          (bytes_of ", ") c.append-3.ensures.text).text;
      lent = search rules;
    }
