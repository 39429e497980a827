-- Where the bytes that a fetch lends are: what `lilivrez_fetch` stores. Document 01, "Meanings the manual leaves open".
use Rattle.std.specs.Prelude.{cond, ◌&&◌, List, [], ◌∷◌, ℕ, ◌-◌, eqb, ltb}
use Rattle.memory.specs.Spans.{Target}
use Rattle.memory.specs.Fetch.{holds_range, fetch_refusal}

-- the bytes of the span of that number: 1 is the program image, 2 the working memory
abbrev pub span_of : Target → ℕ → List ℕ
span_of t n = cond (eqb n 1) t.image.bytes (cond (eqb n 2) t.work.bytes [])

-- "lends the caller the bytes in whichever span holds them": the number of that span, and the place in it of the first
-- of the k bytes at the address a. Both are 0 for "0 bytes" and for "a refused fetch", which lend "an empty part".
unfoldable pub lent_at : Target → ℕ → ℕ → ℕ × ℕ
lent_at t a k =
    cond (ltb 0 k && eqb (fetch_refusal t a k) 0) (cond (holds_range t.image a k) (1, a - t.image.first) (2, a - t.work.first)) (0, 0)

-- the two as they are stored
abbrev pub fetch_values : ℕ × ℕ → List ℕ
fetch_values p = p.0 ∷ p.1 ∷ []
