use Prim.Native.Nat.{◌+◌}
use mathlib.Core.List.{[]}
use mathlib.Core.Path.{refl, ◌∙◌}
use lib.ListN.{get_or, drop}
use Rattle.text_buffer.proofs.Promises.{appends_inside, appends_length, appends_then, counts, going_start, going_part, going_end}
use Rattle.step_lines.specs.Step.{cell_text, cells_text}
use Rattle.step_lines.proofs.Steps.{cells_part, cells_end}
use Rattle.step_lines.proofs.append_cells.Goals as goal

pub loop-cell-init : goal.loop-cell-init
loop-cell-init c = record { going = going_start _ _ _ c.append.ensures.count.0; lent = refl }

pub loop-cell-preserved : goal.loop-cell-preserved
loop-cell-preserved c =
    let a = c.append_cell.ensures in
    let cells = c.args.cells.now in
    let i = c.loop-cell.cell-index in
    record {
      going = going_part c.loop-cell.invariant.going (cell_text (get_or cells i 0)) (cells_text (drop (i + 1) cells)) (cells_part cells i c.loop-cell-test.true) _ _
          (appends_length a.text) a.text;
      lent = a.lent ∙ c.loop-cell.invariant.lent;
    }

pub returns : goal.returns
returns c =
    let x = appends_then [] _ c.append.ensures.text (going_end c.loop-cell.invariant.going (cells_end _ _ c.loop-cell-test.false)) in
    record { count = counts _ _ (appends_inside x); text = x; lent = c.loop-cell.invariant.lent ∙ c.append.ensures.lent }
