use Rattle.std.proofs.Common.{rules}
use Rattle.std.proofs.Common.{◌≡◌, ap}
use Rattle.text_buffer.proofs.Promises.{appends_same, one, more}
use Rattle.encoding.specs.LittleEndian.{little_bytes}
use Rattle.tracefile.specs.Frames.{opening_bytes}
use Rattle.tracefile.proofs.body.append_opening.Goals as goal

pub returns-in-Ok : goal.returns-in-Ok
unfolding opening_bytes
returns-in-Ok c =
    let f = c.in-Ok.frame in
    let tracepoint : c.from.result ≡ f.tag.tracepoint = c.from.ensures in
    record {
      count = c.append_little-in-Ok.ensures.count;
      text = appends_same _ _ (ap opening_bytes c.in-Ok.ensures)
          (more (one (little_bytes 2 f.tag.tracepoint) (rw tracepoint at c.append_little.ensures.text)) (little_bytes 4 f.length)
          c.append_little-in-Ok.ensures.text).text;
      lent = search rules;
    }

pub returns-in-Err : goal.returns-in-Err
unfolding opening_bytes
returns-in-Err c = record { count = c.append.ensures.count; text = appends_same _ _ (ap opening_bytes c.in-Err.ensures) c.append.ensures.text; lent = search rules }
