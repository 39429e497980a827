use Rattle.std.proofs.Common.{rules}
use Rattle.refusals.specs.Refusal.{told}
use Rattle.text_buffer.proofs.Promises.{one, more, appends_number}
use Rattle.text_buffer.specs.Text.{bytes_of}
use Rattle.text_buffer.specs.Decimal.{decimal}
use Rattle.frame_lines.specs.Lines.{frame_refused_text, no_record_text}
use Rattle.frame_lines.proofs.lines.append_no_record.Goals as goal

pub returns : goal.returns
unfolding no_record_text
returns c =
    let a = c.args in
    record {
      count = c.append-3.ensures.count;
      text = (more (more (more (more (more (one (frame_refused_text (told a.refusal)) c.append_refused.ensures.text) (bytes_of "\n  asked: frame ")
          c.append.ensures.text) (decimal a.number) (appends_number a.number c.append_number.ensures.text)) (bytes_of ", record ")
          c.append-2.ensures.text) (decimal a.index) (appends_number a.index c.append_number-2.ensures.text)) (bytes_of "\n")
          c.append-3.ensures.text).text;
      lent = search rules;
    }
