use Rattle.std.proofs.Common.{rules}
use Rattle.text_buffer.specs.Text.{bytes_of}
use Rattle.text_buffer.specs.Decimal.{decimal}
use Rattle.text_buffer.proofs.Promises.{appends_number, one, more}
use Rattle.step_lines.specs.Step.{reading_text, cell_text}
use Rattle.step_lines.proofs.append_cell.Goals as goal

pub returns : goal.returns
unfolding cell_text
returns c =
    let x = c.args.cell in
    record {
      count = c.append_reading.ensures.count;
      text = (more (more (one (bytes_of " ") c.append.ensures.text) (decimal x) (appends_number x c.append_number.ensures.text)) (reading_text x)
          c.append_reading.ensures.text).text;
      lent = search rules;
    }
