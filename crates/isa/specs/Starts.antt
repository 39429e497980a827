-- The instruction starts of an expression: "from offset 0, instructions follow each other" (document 01, "Verifying",
-- pass 1).
use Rattle.std.specs.Prelude.{Bool, true, false, List, [], ◌∷◌, ℕ, zero, suc, ◌-◌, length, ltb}
use Rattle.logic.specs.Tests.{member}
use Rattle.isa.specs.Decode.{next}

-- the starts from offset i on, at most n of them
unfoldable pub starts_at_most : ℕ → List ℕ → ℕ → List ℕ
starts_at_most zero e i = []
starts_at_most (suc n) e i = elim (ltb i (length e)) [ true ↦ i ∷ starts_at_most n e (next e i) | false ↦ [] ]

-- an instruction has at least one byte, so that the number of bytes left is enough
unfoldable pub starts_from : List ℕ → ℕ → List ℕ
starts_from e i = starts_at_most (length e - i) e i

abbrev pub starts : List ℕ → List ℕ
starts e = starts_from e 0

unfoldable pub is_start : List ℕ → ℕ → Bool
is_start e k = member k (starts e)
