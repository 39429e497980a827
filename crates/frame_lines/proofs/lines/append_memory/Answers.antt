use Rattle.std.proofs.Common.{rules}
use Rattle.text_buffer.proofs.Promises.{one, more, appends_number}
use Rattle.text_buffer.specs.Text.{bytes_of}
use Rattle.text_buffer.specs.Decimal.{decimal}
use Rattle.phrases.specs.Numbers.{count_text, hex_text}
use Rattle.frame_lines.specs.Lines.{memory_text}
use Rattle.frame_lines.proofs.lines.append_memory.Goals as goal

pub returns : goal.returns
unfolding memory_text
returns c =
    let a = c.args in
    record {
      count = c.append-4.ensures.count;
      text = (more (more (more (more (more (more (one (bytes_of "  record ") c.append.ensures.text) (decimal a.index)
          (appends_number a.index c.append_number.ensures.text)) (bytes_of ": memory at ") c.append-2.ensures.text) (hex_text a.address)
          c.append_address.ensures.text) (bytes_of ", ") c.append-3.ensures.text) (count_text a.length (bytes_of "byte"))
          c.append_count.ensures.text) (bytes_of "\n") c.append-4.ensures.text).text;
      lent = search rules;
    }
