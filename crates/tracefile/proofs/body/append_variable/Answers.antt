use Rattle.std.proofs.Common.{rules}
use Rattle.text_buffer.proofs.Promises.{appends_same, one, more}
use Rattle.text_buffer.specs.Text.{bytes_of}
use Rattle.encoding.specs.LittleEndian.{little_bytes}
use Rattle.tracefile.proofs.Filing.{variable_parts}
use Rattle.tracefile.proofs.body.append_variable.Goals as goal

pub returns : goal.returns
returns c =
    let a = c.args in
    record {
      count = c.append_little-2.ensures.count;
      text = appends_same _ _ (variable_parts a.number a.value)
          (more (more (one (bytes_of "V") c.append.ensures.text) (little_bytes 4 a.number) c.append_little.ensures.text) (little_bytes 8 a.value)
          c.append_little-2.ensures.text).text;
      lent = search rules;
    }
