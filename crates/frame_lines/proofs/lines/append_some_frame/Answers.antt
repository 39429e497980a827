use Rattle.std.proofs.Common.{rules}
use Rattle.text_buffer.proofs.Promises.{one, more, appends_number}
use Rattle.text_buffer.specs.Text.{bytes_of}
use Rattle.text_buffer.specs.Decimal.{decimal}
use Rattle.phrases.specs.Numbers.{count_text}
use Rattle.frame_lines.specs.Lines.{some_frame_text}
use Rattle.frame_lines.proofs.lines.append_some_frame.Goals as goal

pub returns : goal.returns
unfolding some_frame_text
returns c =
    let a = c.args in
    let f = a.counted.frame in
    let tracepoint = rw c.from.ensures at (appends_number c.from.result c.append_number-2.ensures.text) in
    record {
      count = c.append-5.ensures.count;
      text = (more (more (more (more (more (more (more (more (one (bytes_of "frame ") c.append.ensures.text) (decimal a.number)
          (appends_number a.number c.append_number.ensures.text)) (bytes_of ": tracepoint ") c.append-2.ensures.text) (decimal f.tag.tracepoint)
          tracepoint) (bytes_of ", ") c.append-3.ensures.text)
          (count_text a.counted.records (bytes_of "record")) c.append_count.ensures.text) (bytes_of ", ") c.append-4.ensures.text)
          (count_text f.length (bytes_of "byte")) c.append_count-2.ensures.text) (bytes_of " encoded\n") c.append-5.ensures.text).text;
      lent = search rules;
    }
