-- The stack that an array of cells and a height stand for.
use Rattle.std.specs.Prelude.{List, [], ◌∷◌, ℕ, zero, suc, get_or}

-- the h lowest cells, the topmost first
unfoldable pub held : List ℕ → ℕ → List ℕ
held a zero = []
held a (suc h) = get_or a h 0 ∷ held a h
