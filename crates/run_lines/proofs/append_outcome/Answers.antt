use Rattle.std.proofs.Common.{rules}
use mathlib.Core.Path.{sym, ap}
use Rattle.text_buffer.proofs.Promises.{appends_same}
use Rattle.runner.specs.Returned.{returned_by}
use Rattle.run_lines.specs.Outcome.{outcome_text}
use Rattle.run_lines.proofs.append_outcome.Goals as goal

pub returns-in-Ok : goal.returns-in-Ok
unfolding outcome_text
returns-in-Ok c =
    let a = c.args in
    record {
      count = c.append_completed.ensures.count;
      text = appends_same _ _ (ap (outcome_text a.code.now) (ap returned_by (sym c.in-Ok.is))) c.append_completed.ensures.text;
      lent = search rules;
    }

pub returns-in-Err : goal.returns-in-Err
unfolding outcome_text
returns-in-Err c =
    let a = c.args in
    record {
      count = c.append_refused.ensures.count;
      text = appends_same _ _ (ap (outcome_text a.code.now) (ap returned_by (sym c.in-Err.is))) c.append_refused.ensures.text;
      lent = search rules;
    }
