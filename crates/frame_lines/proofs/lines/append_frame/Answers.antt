use Rattle.std.proofs.Common.{rules}
use Rattle.std.proofs.Common.{ap}
use Rattle.text_buffer.proofs.Promises.{appends_same}
use Rattle.frame_lines.specs.Lines.{frame_text}
use Rattle.frame_lines.proofs.lines.append_frame.Goals as goal

pub returns-in-Ok : goal.returns-in-Ok
unfolding frame_text
returns-in-Ok c = record {
  count = c.append_some_frame.ensures.count;
  text = appends_same _ _ (ap (frame_text c.args.number) c.in-Ok.ensures) c.append_some_frame.ensures.text;
  lent = search rules;
}

pub returns-in-Err : goal.returns-in-Err
unfolding frame_text
returns-in-Err c = record {
  count = c.append_no_frame.ensures.count;
  text = appends_same _ _ (ap (frame_text c.args.number) c.in-Err.ensures) c.append_no_frame.ensures.text;
  lent = search rules;
}
