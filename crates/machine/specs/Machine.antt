-- The machine's moves (document 01, "Running").
use Rattle.std.specs.Prelude.{true, false, List, [], ◌∷◌, ◌++◌, ℕ, zero, suc, ◌+◌, eqb}
use Rattle.isa.specs.Classes.{kind_end}
use Rattle.isa.specs.Decode.{kind_at}
use Rattle.refusals.specs.Refusal.{Refusal}
use Rattle.refusals.specs.Numbers.{allowance_spent}
use Rattle.refusals.specs.Refusal.{refusal_after}
use Rattle.frames.specs.Record.{Record}
use Rattle.machine.specs.Given.{Given, fixed_of, State, free_of}
use Rattle.machine.specs.Meaning.{Done, leaves, faults, done, stack_after, variables_after, offset_after}

-- "At end, the answer is: no value (empty stack), the top (one cell), or the top and the cell beneath (two or more)."
pub data Answer : Type 0 where
  no_value : Answer
  top : ℕ → Answer
  top_and_beneath : ℕ → ℕ → Answer

abbrev pub answer : List ℕ → Answer
answer [] = no_value
answer (x ∷ []) = top x
answer (x ∷ y ∷ s) = top_and_beneath x y

-- How it ends: completed, with the answer, the steps, the variables as set and the records; or stopped with a refusal
-- and the records made before it.
pub data Ended : Type 0 where
  completed : Answer → ℕ → List ℕ → List Record → Ended
  stopped : Refusal → List Record → Ended

-- "Otherwise the cells left replace the cells needed, setv sets its variable, a record made is added, and the steps
-- grow by 1. .."
abbrev pub moved : Given → State → List ℕ → List Record → State
moved g st cells rs = record {
  offset = offset_after g.expression st.offset st.stack;
  stack = stack_after g.expression st.offset st.stack cells;
  variables = variables_after g.expression st.offset st.stack st.variables;
  records = st.records ++ rs;
  steps = st.steps + 1;
}

-- Where the machine is after a move: it stands in a state, or it has ended.
pub data Standing : Type 0 where
  stands : State → Standing
  over : Ended → Standing

-- after the instruction: end completes, any other moves on; "if one of 16 to 21 is met, the machine stops with that
-- refusal at that offset"
abbrev pub moved_by : Given → State → Done → Standing
moved_by g st (leaves cells rs) =
    elim (eqb (kind_at g.expression st.offset) kind_end) [
      | true ↦ over (completed (answer st.stack) (st.steps + 1) st.variables st.records)
      | false ↦ stands (moved g st cells rs)
    ]
moved_by g st (faults n) = over (stopped (refusal_after n st.offset st.steps) st.records)

-- one move, where the allowance is not spent
abbrev pub move : Given → State → Standing
move g st = moved_by g st (done (fixed_of g) st.offset st.stack st.variables (free_of g st))

-- what has not ended goes on
abbrev pub onward : (State → Ended) → Standing → Ended
onward go (stands st) = go st
onward go (over o) = o

-- The moves, where `left` is the allowance less the steps done: at 0 "the steps done equal the allowance, refusal 16".
unfoldable pub moves : Given → ℕ → State → Ended
moves g zero st = stopped (refusal_after allowance_spent st.offset st.steps) st.records
moves g (suc left) st = onward (moves g left) (move g st)
