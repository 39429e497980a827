-- How a search by blocks goes.
use Rattle.std.specs.Prelude.{ℕ, ◌≤◌, List, length}
use Rattle.memory.specs.FirstZero.{NoZero}

-- k of the bytes are passed, and none of them is zero
pub record Passed (l : List ℕ) (k : ℕ) : Type 0 where
  pub within : k ≤ length l
  pub none : NoZero k l
