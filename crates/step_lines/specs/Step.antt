-- A step of a run, in a line.
use Rattle.std.specs.Prelude.{ℕ, zero, suc, ◌-◌, ◌^◌, Bool, cond, List, [], ◌∷◌, ◌++◌, leb, ltb, eqb, length, drop}
use Rattle.text_buffer.specs.Text.{bytes_of}
use Rattle.text_buffer.specs.Decimal.{decimal}
use Rattle.phrases.specs.Numbers.{signed_text}
use Rattle.instruction_text.specs.Text.{plain_at}

-- the signed reading of a cell, where it differs
unfoldable pub reading_text : ℕ → List ℕ
reading_text x = cond (ltb x (2 ^ 63)) [] (bytes_of "(" ++ signed_text x ++ bytes_of ")")

-- each cell behind a blank, without a blank in it; from 2^63 on with both readings: `18446744073709551615(-1)`
unfoldable pub cell_text : ℕ → List ℕ
cell_text x = bytes_of " " ++ decimal x ++ reading_text x

unfoldable pub cells_text : List ℕ → List ℕ
cells_text [] = []
cells_text (x ∷ l) = cell_text x ++ cells_text l

-- how many cells are not shown
unfoldable pub more_text : ℕ → List ℕ
more_text h = cond (eqb h 0) [] (bytes_of " (" ++ decimal h ++ bytes_of " more)")

-- the cells s, from the bottom on, without the h lowest
unfoldable pub stack_text : List ℕ → ℕ → List ℕ
stack_text s h = cond (eqb (length s) 0) (bytes_of " empty") (more_text h ++ cells_text (drop h s))

unfoldable pub place_text : ℕ → ℕ → List ℕ
place_text n k = bytes_of "  step " ++ decimal n ++ bytes_of ": offset " ++ decimal k ++ bytes_of ", "

-- after n steps, before the instruction of e at k: `  step 2: offset 4, add, stack 5 3`
unfoldable pub step_line : ℕ → List ℕ → ℕ → List ℕ → ℕ → List ℕ
step_line n e k s h = place_text n k ++ plain_at e k ++ bytes_of ", stack" ++ stack_text s h ++ bytes_of "\n"

-- a line has at most 100 columns, and a line feed
unfoldable pub is_narrow : ℕ → List ℕ → ℕ → List ℕ → ℕ → Bool
is_narrow n e k s h = leb (length (step_line n e k s h)) 101

-- how many cells are not shown, so that as many as fit are, at most i of them
unfoldable pub hidden_of : ℕ → List ℕ → ℕ → List ℕ → ℕ → ℕ
hidden_of n e k s zero = length s
hidden_of n e k s (suc i) = cond (is_narrow n e k s (length s - suc i)) (length s - suc i) (hidden_of n e k s i)

unfoldable pub step_text : ℕ → List ℕ → ℕ → List ℕ → List ℕ
step_text n e k s = step_line n e k s (hidden_of n e k s (length s))
