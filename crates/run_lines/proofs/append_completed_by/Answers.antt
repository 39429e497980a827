use Rattle.std.proofs.Common.{rules}
use Rattle.text_buffer.proofs.Promises.{one, more}
use Rattle.text_buffer.specs.Text.{bytes_of}
use Rattle.runner.specs.Returned.{answer_of}
use Rattle.run_lines.specs.Outcome.{steps_text, cells_text, completed_by}
use Rattle.run_lines.proofs.append_completed_by.Goals as goal

pub returns : goal.returns
unfolding completed_by
returns c =
    let a = c.args in
    record {
      count = c.append-2.ensures.count;
      text = (more (more (more (one (bytes_of "completed") c.append.ensures.text) (steps_text a.steps) c.append_steps.ensures.text)
          (cells_text (answer_of a.value) a.between.now) c.append_cells.ensures.text) (bytes_of "\n") c.append-2.ensures.text).text;
      lent = search rules;
    }
