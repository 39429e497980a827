use Rattle.std.proofs.Common.{rules}
use Rattle.text_buffer.specs.Text.{bytes_of}
use Rattle.text_buffer.specs.Decimal.{decimal}
use Rattle.text_buffer.proofs.Promises.{appends_number, appends_same, one, more}
use Rattle.step_lines.proofs.Steps.{more_none, more_some}
use Rattle.step_lines.proofs.append_more.Goals as goal

pub returns-then-hidden-eq0 : goal.returns-then-hidden-eq0
returns-then-hidden-eq0 c =
    record { count = c.append.ensures.count; text = appends_same _ _ (more_none c.args.hidden c.if-hidden-eq0.true) c.append.ensures.text; lent = search rules }

pub returns : goal.returns
returns c =
    let h = c.args.hidden in record {
      count = c.append-3.ensures.count;
      text = appends_same _ _ (more_some h c.if-hidden-eq0.false)
          (more (more (one (bytes_of " (") c.append-2.ensures.text) (decimal h) (appends_number h c.append_number.ensures.text)) (bytes_of " more)") c.append-3.ensures.text).text;
      lent = search rules;
    }
