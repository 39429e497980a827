-- What is seen of the machine after so many moves (document 01, "Running": "it holds an offset, a stack, the variables,
-- the records made and the steps done").
use Rattle.std.specs.Prelude.{List, reverse, ◌≡◌, ℕ, ◌≤◌, ◌<◌, length, take, Option, Some, None}
use Rattle.sizes.specs.Sizes.{stack_cells}
use Rattle.encoding.specs.Written.{written_at}
use Rattle.frames.specs.Record.{encode_all}
use Rattle.machine.specs.Given.{Given}
use Rattle.machine.specs.Machine.{Standing, stands, over}
use Rattle.machine.specs.Standing.{standing}
use Rattle.standing.specs.declared.Stood.{Stood}

pub data Seen : Type 0 where
  -- the offset, the stack from the bottom on, the variables, the buffer
  at : ℕ → List ℕ → List ℕ → List ℕ → Seen
  -- the machine has ended
  no_longer : Seen

-- the records made so far stand in the buffer from the used length on, and every other byte is as given
unfoldable pub seen : Given → Standing → Seen
seen g (stands st) = at st.offset (reverse st.stack) st.variables (written_at g.buffer g.used (encode_all st.records))
seen g (over o) = no_longer

-- as the code tells it, with the cells a, the variables v and the buffer b that it leaves
abbrev pub seen_by : Option Stood → List ℕ → List ℕ → List ℕ → Seen
seen_by (Some w) a v b = at w.at (take w.height a) v b
seen_by None a v b = no_longer

-- the code tells that the machine stands as s. The height is within the cells, and the offset within the expression.
pub record StandsIn (g : Given) (s : Standing) (r : Option Stood) (a v b : List ℕ) : Type 0 where
  pub tells : seen_by r a v b ≡ seen g s
  pub within : (w : Stood) → r ≡ Some w → (w.at < length g.expression) × (w.height ≤ stack_cells)
  pub long : length a ≡ stack_cells

-- where the machine stands once its allowance is spent: after as many moves, if it has not ended by then
abbrev pub Stands : Given → Option Stood → List ℕ → List ℕ → List ℕ → Type 0
Stands g r a v b = StandsIn g (standing g g.allowance) r a v b
