-- Bytes written into a buffer: "every other byte is unchanged" (document 01, "Running").
use Rattle.std.specs.Prelude.{List, [], ◌∷◌, ℕ, zero, suc}

-- the list l with e written at index a, as far as l goes
unfoldable pub written_at : List ℕ → ℕ → List ℕ → List ℕ
written_at [] a e = []
written_at (x ∷ l) zero [] = x ∷ l
written_at (x ∷ l) zero (b ∷ e) = b ∷ written_at l zero e
written_at (x ∷ l) (suc a) e = x ∷ written_at l a e
