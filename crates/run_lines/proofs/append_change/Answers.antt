use Rattle.std.proofs.Common.{rules}
use mathlib.Core.Path.{sym, ◌∙◌}
use Rattle.text_buffer.proofs.Promises.{appends_same}
use Rattle.run_lines.proofs.Outcomes.{change_one, change_two}
use Rattle.run_lines.proofs.append_change.Goals as goal

pub returns-then-is_change_narrow : goal.returns-then-is_change_narrow
returns-then-is_change_narrow c =
    let a = c.args in
    record {
      count = c.append_change_by.ensures.count;
      text = appends_same _ _ (change_one a.number a.before a.after (sym c.is_change_narrow.ensures ∙ c.if-is_change_narrow.true))
          c.append_change_by.ensures.text;
      lent = search rules;
    }

pub returns : goal.returns
returns c =
    let a = c.args in
    record {
      count = c.append_change_by-2.ensures.count;
      text = appends_same _ _ (change_two a.number a.before a.after (sym c.is_change_narrow.ensures ∙ c.if-is_change_narrow.false))
          c.append_change_by-2.ensures.text;
      lent = search rules;
    }
