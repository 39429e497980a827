use Rattle.std.proofs.Common.{rules}
use mathlib.Core.Path.{ap}
use Rattle.text_buffer.proofs.Promises.{appends_same}
use Rattle.step_lines.specs.Step.{step_line, step_text}
use Rattle.step_lines.proofs.append_step.Goals as goal

pub returns : goal.returns
unfolding step_text
returns c =
    let a = c.args in
    record { count = c.append_line.ensures.count; text = appends_same _ _ (ap (step_line a.step a.code.now a.offset a.cells.now) c.hidden_cells-hidden.ensures.0) c.append_line.ensures.text; lent = search rules }
