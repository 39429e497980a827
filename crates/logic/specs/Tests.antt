-- Tests of numbers, and what the code's answer to one says.
use Rattle.std.specs.Prelude.{Bool, true, false, ◌&&◌, ◌||◌, List, [], ◌∷◌, ◌≡◌, ℕ, zero, suc, ◌≤◌, ◌<◌, eqb}

-- the number k is one of the list
abbrev pub member : ℕ → List ℕ → Bool
member k [] = false
member k (x ∷ xs) = eqb k x || member k xs

-- the test f holds of every number below n
abbrev pub up_to : ℕ → (ℕ → Bool) → Bool
up_to zero f = true
up_to (suc n) f = f n && up_to n f

-- r answers whether a ≤ b
pub record Decides (r : Bool) (a b : ℕ) : Type 0 where
  pub yes : r ≡ true → a ≤ b
  pub no : r ≡ false → b < a
