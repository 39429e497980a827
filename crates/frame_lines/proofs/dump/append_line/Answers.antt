use Rattle.std.proofs.Common.{rules}
use Rattle.text_buffer.proofs.Promises.{one, more}
use Rattle.text_buffer.specs.Text.{bytes_of}
use Rattle.phrases.specs.Numbers.{hex_text}
use Rattle.frame_lines.specs.Dump.{column, shown, dump_line}
use Rattle.frame_lines.proofs.dump.append_line.Goals as goal

pub returns : goal.returns
unfolding dump_line
returns c =
    let a = c.args in
    let l = a.bytes.now in
    record {
      count = c.append-4.ensures.count;
      text = (more (more (more (more (more (more (one (bytes_of "    ") c.append.ensures.text) (hex_text a.address)
          c.append_address.ensures.text) (bytes_of " ") c.append-2.ensures.text) (column 16 l) c.append_column.ensures.text) (bytes_of "  |")
          c.append-3.ensures.text) (shown l) c.append_shown.ensures.text) (bytes_of "|\n") c.append-4.ensures.text).text;
      lent = search rules;
    }
