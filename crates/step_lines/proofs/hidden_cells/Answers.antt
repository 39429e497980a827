use mathlib.Core.Path.{sym, ◌∙◌}
use native.Mathlib.Omega.{arith}
use Rattle.step_lines.proofs.Steps.{fits, wide, none_fits}
use Rattle.step_lines.proofs.hidden_cells.Goals as goal

pub returns-then-is_narrow : goal.returns-then-is_narrow
returns-then-is_narrow c =
    let a = c.args in
    (fits a.step a.code.now a.offset a.cells.now c.loop-hidden.hidden c.loop-hidden-test.true (sym c.is_narrow.ensures ∙ c.if-is_narrow.true) ∙ sym c.loop-hidden.invariant, omega arith)

pub loop-hidden-preserved : goal.loop-hidden-preserved
loop-hidden-preserved c =
    let a = c.args in
    c.loop-hidden.invariant ∙ wide a.step a.code.now a.offset a.cells.now c.loop-hidden.hidden c.loop-hidden-test.true (sym c.is_narrow.ensures ∙ c.if-is_narrow.false)

pub returns : goal.returns
returns c =
    let a = c.args in
    (none_fits a.step a.code.now a.offset a.cells.now c.loop-hidden.hidden c.loop-hidden-test.false ∙ sym c.loop-hidden.invariant, omega arith)
