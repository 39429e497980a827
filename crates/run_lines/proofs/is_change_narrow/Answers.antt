use native.Mathlib.Omega.{arith}
use mathlib.Core.Path.{ap, ◌∙◌}
use lib.ListN.{length}
use Rattle.text_buffer.proofs.Promises.{text_of, appends_length}
use Rattle.text_buffer.specs.Text.{bytes_of}
use Rattle.run_lines.specs.Outcome.{change_by}
use Rattle.run_lines.proofs.Outcomes.{narrow_by}
use Rattle.run_lines.proofs.is_change_narrow.Goals as goal

pub returns : goal.returns
returns c =
    let a = c.args in
    let t = rw c.new-line.ensures.1 at c.append_change_by.ensures.text in
    let long = appends_length t ∙ ap (λ b. length b.now) c.new-line.ensures.0 in
    narrow_by (change_by (bytes_of " -> ") a.number a.before a.after) _ _ (text_of t) (omega (arith, long))
