use native.Mathlib.Omega.{arith}
use mathlib.Core.Path.{ap, ◌∙◌}
use lib.ListN.{length}
use Rattle.text_buffer.proofs.Promises.{text_of, appends_length}
use Rattle.runner.specs.Returned.{answer_of}
use Rattle.text_buffer.specs.Text.{bytes_of}
use Rattle.run_lines.specs.Outcome.{completed_by, is_narrow}
use Rattle.run_lines.proofs.Outcomes.{narrow_by}
use Rattle.run_lines.proofs.is_narrow.Goals as goal

pub returns : goal.returns
unfolding is_narrow
returns c =
    let a = c.args in
    let t = rw c.new-line.ensures.1 at c.append_completed_by.ensures.text in
    let long = appends_length t ∙ ap (λ b. length b.now) c.new-line.ensures.0 in
    narrow_by (completed_by (bytes_of ", beneath ") (answer_of a.value) a.steps) _ _ (text_of t) (omega (arith, long))
