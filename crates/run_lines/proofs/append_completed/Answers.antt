use Rattle.std.proofs.Common.{rules}
use mathlib.Core.Path.{sym, ◌∙◌}
use Rattle.text_buffer.proofs.Promises.{appends_same}
use Rattle.runner.specs.Returned.{answer_of}
use Rattle.run_lines.proofs.Outcomes.{completed_one, completed_two}
use Rattle.run_lines.proofs.append_completed.Goals as goal

pub returns-then-is_narrow : goal.returns-then-is_narrow
returns-then-is_narrow c =
    let a = c.args in
    record {
      count = c.append_completed_by.ensures.count;
      text = appends_same _ _ (completed_one (answer_of a.value) a.steps (sym c.is_narrow.ensures ∙ c.if-is_narrow.true))
          c.append_completed_by.ensures.text;
      lent = search rules;
    }

pub returns : goal.returns
returns c =
    let a = c.args in
    record {
      count = c.append_completed_by-2.ensures.count;
      text = appends_same _ _ (completed_two (answer_of a.value) a.steps (sym c.is_narrow.ensures ∙ c.if-is_narrow.false))
          c.append_completed_by-2.ensures.text;
      lent = search rules;
    }
