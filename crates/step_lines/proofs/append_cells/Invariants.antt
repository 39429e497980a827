use mathlib.Core.Path.{◌≡◌}
use lib.ListN.{drop}
use Rattle.text_buffer.proofs.Promises.{Going}
use Rattle.step_lines.specs.Step.{cells_text}
use Rattle.step_lines.proofs.append_cells.Given as goal

abbrev pub invariant-loop-cell : goal.invariant-loop-cell
invariant-loop-cell l = record {
  going : Going l.initial.text.bytes.now l.initial.text.end (cells_text l.cells) (cells_text (drop l.cell-index l.cells)) l.text.bytes.now l.text.end;
  lent : l.text.bytes.ghost_name ≡ l.initial.text.bytes.ghost_name;
}
