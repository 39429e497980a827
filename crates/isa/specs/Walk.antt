-- Walks (document 01, "Verifying": "A walk is a list of instruction starts, ..").
use Rattle.std.specs.Prelude.{◌≢◌, true, List, [], ◌∷◌, ◌≡◌, ℕ, ◌+◌, ◌≤◌}
use Rattle.isa.specs.Classes.{kind_goto, kind_if_goto, kind_end}
use Rattle.isa.specs.Decode.{kind_at, next, operand, height_after}
use Rattle.isa.specs.Starts.{is_start}

-- m may come after the instruction at k. "After goto comes its target; after if_goto its target or the next start,
-- either way; after end nothing; after any other instruction the next start."
pub data After (e : List ℕ) (k m : ℕ) : Type 0 where
  target : kind_goto ≤ kind_at e k → kind_at e k ≤ kind_if_goto → m ≡ operand e k → After e k m
  onward : kind_at e k ≢ kind_goto → kind_at e k ≢ kind_end → m ≡ next e k → After e k m

-- Walk e k h w j u: the list w is a walk from the start k, reached with height h, to the start j, reached with height
-- u. A walk may stop anywhere. The walks of document 01 are those from offset 0, which is reached with height 0: Walk e
-- 0 0 w j u.
pub data Walk (e : List ℕ) : ℕ → ℕ → List ℕ → ℕ → ℕ → Type 0 where
  stop : {k h : ℕ} → is_start e k ≡ true → Walk e k h (k ∷ []) k h
  step : {k h m : ℕ} {w : List ℕ} {j u : ℕ} → is_start e k ≡ true → After e k m → Walk e m (height_after e k h) w j u → Walk e k h (k ∷ w) j u

-- The weight of a walk, where each instruction has a weight. With weight 1 it is the walk's length, the number of
-- starts in it, the end's too.
unfoldable pub weigh : (ℕ → ℕ) → List ℕ → ℕ
weigh f [] = 0
weigh f (k ∷ w) = f k + weigh f w

abbrev pub one : ℕ → ℕ
one k = 1
