-- Tests tried in their order. Document 01 says "refusals 2 to 5, tried in that order at an offset", and the like of
-- each pass and of a run.
use Rattle.std.specs.Prelude.{Bool, true, false, cond, ◌&&◌, List, [], ◌∷◌, ◌≡◌, ℕ, ltb}

-- the number of the first test that holds, or 0
abbrev pub tried : List (Bool × ℕ) → ℕ
tried [] = 0
tried (t ∷ ts) = cond t.0 t.1 (tried ts)

-- every test has a number other than 0
abbrev pub numbered : List (Bool × ℕ) → Bool
numbered [] = true
numbered (t ∷ ts) = ltb 0 t.1 && numbered ts

-- none of the tests holds
abbrev pub NoneHolds : List (Bool × ℕ) → Type 0
NoneHolds [] = Unit {0}
NoneHolds (t ∷ ts) = (t.0 ≡ false) × NoneHolds ts
