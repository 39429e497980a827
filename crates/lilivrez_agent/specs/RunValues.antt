-- How a run ended, as numbers: what `lilivrez_run` returns and stores, and what it leaves in variables and buffer.
-- Document 01, "Running".
use Rattle.std.specs.Prelude.{List, [], ◌∷◌, ◌≡◌, ℕ}
use Rattle.machine.specs.Given.{Given}
use Rattle.machine.specs.Machine.{Answer, no_value, top, top_and_beneath, Ended, completed, stopped}
use Rattle.machine.specs.Run.{ended, number_of, variables_of, used_of, buffer_of}
use Rattle.machine.specs.Recorded.{Typed}

-- the run completed
abbrev pub IsCompleted : Ended → Type 0
IsCompleted (completed a n v rs) = Unit {0}
IsCompleted (stopped r rs) = ⊥

-- "no value (empty stack), the top (one cell), or the top and the cell beneath": how many cells are told, the top, the
-- cell beneath; 0 for what is not told
unfoldable pub cell_values : Answer → List ℕ
cell_values no_value = 0 ∷ 0 ∷ 0 ∷ []
cell_values (top x) = 1 ∷ x ∷ 0 ∷ []
cell_values (top_and_beneath x y) = 2 ∷ x ∷ y ∷ []

-- the offset of the refusal, or 0; the steps; the used length; the cells told
unfoldable pub run_values : Given → Ended → List ℕ
run_values g (completed a n v rs) = 0 ∷ n ∷ used_of g (completed a n v rs) ∷ cell_values a
run_values g (stopped r rs) = r.offset ∷ r.steps ∷ used_of g (stopped r rs) ∷ cell_values no_value

-- what is returned and stored tells of a run that is given g and ended as o
pub record EndNumbers (g : Given) (o : Ended) (number : ℕ) (values : List ℕ) : Type 0 where
  pub number_of : number ≡ number_of o
  pub values_of : values ≡ run_values g o

-- the same of document 01's machine, with the variables v and the buffer b that the run leaves; and what it is given is
-- what the types of the code say
pub record RunNumbers (g : Given) (number : ℕ) (values v b : List ℕ) : Type 0 where
  pub number_of : number ≡ number_of (ended g)
  pub values_of : values ≡ run_values g (ended g)
  pub variables_of : v ≡ variables_of g (ended g)
  pub buffer_of : b ≡ buffer_of g (ended g)
  pub typed : Typed g
