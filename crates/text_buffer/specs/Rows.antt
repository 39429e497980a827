-- A table of texts: rows of one width, each a text with spaces behind it. Assumes nothing.
use Rattle.std.specs.Prelude.{ℕ, suc, ◌-◌, Bool, true, cond, ◌&&◌, List, [], ◌∷◌, ◌++◌, leb, eqb, length, replicate}
use Prim.Native.String.{String}
use Rattle.text_buffer.specs.Text.{bytes_of}

-- the row of a text, in a table of width w
abbrev pub padded : ℕ → String → List ℕ
padded w s = bytes_of s ++ replicate (w - length (bytes_of s)) 32

-- how many characters stand before the spaces at the end
unfoldable pub trimmed : List ℕ → ℕ
trimmed [] = 0
trimmed (c ∷ l) = cond (eqb (trimmed l) 0 && eqb c 32) 0 (suc (trimmed l))

-- a text that is told by its row: it is not wider than the table, and does not end with a space
abbrev pub is_fitting : ℕ → String → Bool
is_fitting w s = leb (length (bytes_of s)) w && eqb (trimmed (bytes_of s)) (length (bytes_of s))

abbrev pub all_fitting : ℕ → List String → Bool
all_fitting w [] = true
all_fitting w (s ∷ l) = is_fitting w s && all_fitting w l
