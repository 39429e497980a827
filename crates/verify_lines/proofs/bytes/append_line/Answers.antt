use Rattle.std.proofs.Common.{rules}
use Rattle.text_buffer.proofs.Promises.{one, more}
use Rattle.hexadecimal.specs.Hex.{hex_of}
use Rattle.text_buffer.specs.Text.{bytes_of}
use Rattle.verify_lines.specs.Bytes.{bytes_line}
use Rattle.verify_lines.proofs.bytes.append_line.Goals as goal

pub returns : goal.returns
unfolding bytes_line
returns c =
    let a = c.args in
    record {
      count = c.append-2.ensures.count;
      text = (more (more (one (bytes_of "bytes ") c.append.ensures.text) (hex_of a.bytes.now) c.encode.ensures.text) (bytes_of "\n")
          c.append-2.ensures.text).text;
      lent = search rules;
    }
