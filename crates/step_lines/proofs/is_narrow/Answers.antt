use native.Mathlib.Omega.{arith}
use mathlib.Core.Path.{ap, ◌∙◌}
use lib.ListN.{length}
use Rattle.text_buffer.proofs.Promises.{text_of, appends_length}
use Rattle.step_lines.proofs.Steps.{narrow_by}
use Rattle.step_lines.proofs.is_narrow.Goals as goal

pub returns : goal.returns
returns c =
    let a = c.args in
    let t = rw c.new-line.ensures.1 at c.append_line.ensures.text in
    let long = appends_length t ∙ ap (λ b. length b.now) c.new-line.ensures.0 in
    narrow_by a.step a.code.now a.offset a.cells.now a.hidden _ _ (text_of t) (omega (arith, long))
