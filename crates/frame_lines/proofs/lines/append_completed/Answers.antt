use Rattle.std.proofs.Common.{rules}
use Rattle.text_buffer.proofs.Promises.{appends_same, one, more, appends_number}
use Rattle.text_buffer.specs.Text.{bytes_of}
use Rattle.text_buffer.specs.Decimal.{decimal}
use Rattle.phrases.specs.Numbers.{count_text}
use Rattle.frame_lines.proofs.Completing.{completed_all, completed_some}
use Rattle.frame_lines.proofs.lines.append_completed.Goals as goal

pub returns-then-refused-eq0 : goal.returns-then-refused-eq0
returns-then-refused-eq0 c =
    let a = c.args in
    let w = a.word.now in
    record {
      count = c.append-then-refused-eq0.ensures.count;
      text = appends_same _ _ (completed_all a.number w a.refused c.if-refused-eq0.true)
          (more (more (one (bytes_of "completed: ") c.append.ensures.text) (count_text a.number w) c.append_count.ensures.text) (bytes_of "\n")
          c.append-then-refused-eq0.ensures.text).text;
      lent = search rules;
    }

pub returns : goal.returns
returns c =
    let a = c.args in
    let w = a.word.now in
    record {
      count = c.append-3.ensures.count;
      text = appends_same _ _ (completed_some a.number w a.refused c.if-refused-eq0.false)
          (more (more (more (more (one (bytes_of "completed: ") c.append.ensures.text) (count_text a.number w) c.append_count.ensures.text)
          (bytes_of ", ") c.append-2.ensures.text) (decimal a.refused) (appends_number a.refused c.append_number.ensures.text))
          (bytes_of " of them refused\n") c.append-3.ensures.text).text;
      lent = search rules;
    }
