-- What the types of the code say of a list. Document 01, "What is built" and "Sizes": expressions, spans and buffers
-- are lent bytes, cells are "of 64 bits".
use Rattle.std.specs.Prelude.{List, ℕ, ◌^◌, ◌<◌, get_or}

-- every element is below b
abbrev pub Below : ℕ → List ℕ → Type 0
Below b l = (i : ℕ) → get_or l i 0 < b

abbrev pub AllBytes : List ℕ → Type 0
AllBytes l = Below 256 l

abbrev pub AllWords : List ℕ → Type 0
AllWords l = Below (2 ^ 64) l
