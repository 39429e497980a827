use Rattle.std.proofs.Common.{rules}
use mathlib.Core.Path.{sym, ap}
use Rattle.text_buffer.proofs.Promises.{appends_same, one, more}
use Rattle.text_buffer.specs.Text.{bytes_of}
use Rattle.runner.specs.Returned.{answer_of}
use Rattle.runner.specs.declared.Value.{Value}
use Rattle.phrases.specs.Numbers.{value_text}
use Rattle.run_lines.specs.Outcome.{cells_text}
use Rattle.run_lines.proofs.append_cells.Goals as goal

pub returns-in-Nothing : goal.returns-in-Nothing
unfolding cells_text
returns-in-Nothing c =
    let a = c.args in
    record {
      count = c.append.ensures.count;
      text = appends_same _ _ (ap (λ (v : Value). cells_text (answer_of v) a.between.now) (sym c.in-Nothing.is)) c.append.ensures.text;
      lent = search rules;
    }

pub returns-in-Top : goal.returns-in-Top
unfolding cells_text
returns-in-Top c =
    let a = c.args in
    record {
      count = c.append_value.ensures.count;
      text = appends_same _ _ (ap (λ (v : Value). cells_text (answer_of v) a.between.now) (sym c.in-Top.is))
          (more (one (bytes_of "top ") c.append-in-Top.ensures.text) (value_text _) c.append_value.ensures.text).text;
      lent = search rules;
    }

pub returns-in-TopAndBeneath : goal.returns-in-TopAndBeneath
unfolding cells_text
returns-in-TopAndBeneath c =
    let a = c.args in
    record {
      count = c.append_value-in-TopAndBeneath-2.ensures.count;
      text = appends_same _ _ (ap (λ (v : Value). cells_text (answer_of v) a.between.now) (sym c.in-TopAndBeneath.is))
          (more (more (more (one (bytes_of "top ") c.append-in-TopAndBeneath.ensures.text) (value_text _) c.append_value-in-TopAndBeneath.ensures.text)
          a.between.now c.append-in-TopAndBeneath-2.ensures.text) (value_text _) c.append_value-in-TopAndBeneath-2.ensures.text).text;
      lent = search rules;
    }
