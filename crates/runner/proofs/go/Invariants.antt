use Prim.Native.Nat.{ℕ, ◌-◌, ◌≤◌}
use Rattle.stepping.proofs.Promises.{Loop}
use Rattle.runner.specs.Joining.Ends.{given_to}
use Rattle.runner.proofs.go.Given as goal

-- whatever the tracepoint
abbrev pub invariant-loop-left : goal.invariant-loop-left
invariant-loop-left l =
    (l.left ≤ l.allowance) × ((t : ℕ) → Loop (given_to l.fixed l.initial.variables l.initial.buffer t l.used l.allowance) l.variables l.buffer l.cells l.place (l.allowance - l.left))

abbrev pub decreases-loop-left : goal.decreases-loop-left
decreases-loop-left l = l.left
