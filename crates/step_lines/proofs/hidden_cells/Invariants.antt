use mathlib.Core.Path.{◌≡◌}
use Prim.Native.Nat.{◌-◌}
use lib.ListN.{length}
use Rattle.step_lines.specs.Step.{hidden_of}
use Rattle.step_lines.proofs.hidden_cells.Given as goal

abbrev pub invariant-loop-hidden : goal.invariant-loop-hidden
invariant-loop-hidden l = hidden_of l.step l.code l.offset l.cells (length l.cells) ≡ hidden_of l.step l.code l.offset l.cells (length l.cells - l.hidden)
