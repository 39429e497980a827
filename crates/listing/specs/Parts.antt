-- What GDB prints, divided: a listing for each place in the program that GDB compiled the expression for. A line
-- `Scope:` begins each; what stands before the first is no part of any.
use Rattle.std.specs.Prelude.{ℕ, ◌-◌, ◌<◌, ◌≤◌, Bool, cond, List, [], ◌∷◌, ◌++◌, ◌≡◌, length, take, drop}
use Rattle.text_buffer.specs.Text.{bytes_of}
use Rattle.listing.specs.Meant.{begins}
use Rattle.listing.specs.Listing.{joined_lines, lines_of}
use Rattle.listing.specs.declared.parts.Part.{Part}

unfoldable pub is_scope : List ℕ → Bool
is_scope l = begins (bytes_of "Scope:") l

-- the lines before the first `Scope:`, and those from it on
unfoldable pub before_scope : List (List ℕ) → List (List ℕ)
before_scope [] = []
before_scope (l ∷ ls) = cond (is_scope l) [] (l ∷ before_scope ls)

unfoldable pub from_scope : List (List ℕ) → List (List ℕ)
from_scope [] = []
from_scope (l ∷ ls) = cond (is_scope l) (l ∷ ls) (from_scope ls)

-- the text of each part: its line `Scope:`, and the lines up to the next
unfoldable pub scopes : List (List ℕ) → List (List ℕ)
scopes [] = []
scopes (l ∷ ls) = cond (is_scope l) ((l ++ joined_lines (before_scope ls)) ∷ scopes ls) (scopes ls)

-- of the lines of the text t from `at` on, the first `Scope:` begins at j, or none does and j is the end
pub record IsScopeFrom (t : List ℕ) (at j : ℕ) : Type 0 where
  pub after : at ≤ j
  pub within : j ≤ length t
  pub before_is : joined_lines (before_scope (lines_of (drop at t))) ≡ take (j - at) (drop at t)
  pub from_is : from_scope (lines_of (drop at t)) ≡ lines_of (drop j t)

-- r is the first part of the text t from `at` on; where there is none, it is empty
pub record IsPart (t : List ℕ) (at : ℕ) (r : Part) : Type 0 where
  pub after : at ≤ r.start
  pub ordered : r.start ≤ r.end
  pub within : r.end ≤ length t
  pub none : r.start ≡ r.end → scopes (lines_of (drop at t)) ≡ []
  pub some : r.start < r.end → scopes (lines_of (drop at t)) ≡ take (r.end - r.start) (drop r.start t) ∷ scopes (lines_of (drop r.end t))
