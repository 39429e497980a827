use Rattle.std.proofs.Common.{rules}
use Rattle.std.proofs.Common.{ap}
use Rattle.text_buffer.proofs.Promises.{appends_same}
use Rattle.frame_lines.specs.Lines.{record_text}
use Rattle.frame_lines.proofs.lines.append_record.Goals as goal

pub returns-in-Memory : goal.returns-in-Memory
unfolding record_text
returns-in-Memory c = record {
  count = c.append_memory.ensures.count;
  text = appends_same _ _ (ap (record_text c.args.index) (rw c.in-Memory.is at c.in-Ok.ensures)) c.append_memory.ensures.text;
  lent = search rules;
}

pub returns-in-Variable : goal.returns-in-Variable
unfolding record_text
returns-in-Variable c = record {
  count = c.append_variable.ensures.count;
  text = appends_same _ _ (ap (record_text c.args.index) (rw c.in-Variable.is at c.in-Ok.ensures)) c.append_variable.ensures.text;
  lent = search rules;
}

pub returns-in-Err : goal.returns-in-Err
unfolding record_text
returns-in-Err c = record {
  count = c.append.ensures.count;
  text = appends_same _ _ (ap (record_text c.args.index) c.in-Err.ensures) c.append.ensures.text;
  lent = search rules;
}
