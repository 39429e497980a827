-- The loop's invariant: no instruction before `at` passes the test.
use Prim.Native.Nat.{ℕ, ◌-◌}
use mathlib.Core.Bool.{Bool}
use lib.ListN.{length}
use Rattle.collection_notes.specs.Collection.{Tests}
use Rattle.collection_notes.proofs.Looking.{Looking}
use Rattle.collection_notes.proofs.any_instruction.Given as goal

abbrev pub invariant-loop-at : goal.invariant-loop-at
invariant-loop-at g l = (p : ℕ → Bool) → Tests (λ k is. goal.F-post g l.test k is) l.code p → Looking p l.code l.at

abbrev pub decreases-loop-at : goal.decreases-loop-at
decreases-loop-at g l = length l.code - l.at
