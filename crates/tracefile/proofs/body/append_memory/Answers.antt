use Rattle.std.proofs.Common.{rules}
use Rattle.std.proofs.Common.{length}
use Rattle.text_buffer.proofs.Promises.{appends_same, one, more}
use Rattle.text_buffer.specs.Text.{bytes_of}
use Rattle.encoding.specs.LittleEndian.{little_bytes}
use Rattle.tracefile.proofs.Filing.{memory_parts}
use Rattle.tracefile.proofs.body.append_memory.Goals as goal

pub returns : goal.returns
returns c =
    let a = c.args in
    let l = a.bytes.now in
    record {
      count = c.append-2.ensures.count;
      text = appends_same _ _ (memory_parts a.address l)
          (more (more (more (one (bytes_of "M") c.append.ensures.text) (little_bytes 8 a.address) c.append_little.ensures.text)
          (little_bytes 2 (length l)) c.append_little-2.ensures.text) (l) c.append-2.ensures.text).text;
      lent = search rules;
    }
