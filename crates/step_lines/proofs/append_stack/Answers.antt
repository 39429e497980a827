use Rattle.std.proofs.Common.{rules}
use borrow.Author.Tests.{eqb-true, eqb-false}
use mathlib.Core.Path.{ap, sym, ◌∙◌}
use lib.ListN.{drop}
use Rattle.encoding.proofs.Promises.{part_lent}
use Rattle.text_buffer.proofs.Promises.{appends_same, one, more}
use Rattle.step_lines.specs.Step.{cells_text, more_text}
use Rattle.step_lines.proofs.Steps.{stack_none, stack_some}
use Rattle.step_lines.proofs.append_stack.Goals as goal

pub returns-then-is_empty : goal.returns-then-is_empty
returns-then-is_empty c =
    let a = c.args in
    record { count = c.append.ensures.count; text = appends_same _ _ (stack_none a.cells.now a.hidden (eqb-true _ _ (sym c.is_empty.ensures ∙ c.if-is_empty.true))) c.append.ensures.text; lent = search rules }

pub returns : goal.returns
returns c =
    let a = c.args in
    let s = a.cells.now in let h = a.hidden in record {
      count = c.append_cells.ensures.count;
      text = appends_same _ _ (stack_some s h (eqb-false _ _ (sym c.is_empty.ensures ∙ c.if-is_empty.false)))
          (more (one (more_text h) c.append_more.ensures.text) (cells_text (drop h s)) (appends_same _ _ (ap cells_text (part_lent s h)) c.append_cells.ensures.text)).text;
      lent = search rules;
    }
