-- The verifier's answer as numbers: what `lilivrez_verify` returns, and what it stores. Document 01, "Verifying".
use Rattle.std.specs.Prelude.{List, [], ◌∷◌, ℕ}
use Rattle.verdict.specs.Verdict.{Verdict, accepted, refused}

-- the number of the refusal: 0 where the expression is accepted
unfoldable pub verdict_number : Verdict → ℕ
verdict_number (accepted n g l) = 0
verdict_number (refused x) = x.number

-- the offset of the refusal, then "pass 1's instruction count, the greatest height, and the length of the longest walk
-- to an end": 0 for what is not there
unfoldable pub verdict_values : Verdict → List ℕ
verdict_values (accepted n g l) = 0 ∷ n ∷ g ∷ l ∷ []
verdict_values (refused x) = x.offset ∷ 0 ∷ 0 ∷ 0 ∷ []
