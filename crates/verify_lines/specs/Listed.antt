-- The whole answer on an expression: the verdict, and where it is asked for a listing, which has heights where the
-- expression was accepted.
use Rattle.std.specs.Prelude.{◌≡◌, ℕ, ◌-◌, Option, Some, None, Bool, true, false, cond, ◌&&◌, List, [], ◌∷◌, ◌++◌, map, ltb, length, take, get_or, replicate}
use Rattle.text_buffer.specs.Text.{bytes_of}
use Rattle.sizes.specs.Sizes.{expression_most}
use Rattle.isa.specs.Starts.{starts}
use Rattle.verdict.specs.Verdict.{Verdict, accepted, refused}
use Rattle.instruction_text.specs.Text.{text_at, is_instruction}
use Rattle.listing.specs.Listing.{joined_lines}
use Rattle.heights.specs.Arrivals.{height_or_mark, marked, NoMark}
use Rattle.verify_lines.specs.Verdict.{verdict_text, height_text}

-- blanks behind a text of n characters: up to column 36, at least one
unfoldable pub gap_text : ℕ → List ℕ
gap_text n = cond (ltb n 35) (replicate (36 - n) 32) (bytes_of " ")

-- the line l without its line feed, and the height h beside it
unfoldable pub beside_text : List ℕ → ℕ → List ℕ
beside_text l h = take (length l - 1) l ++ gap_text (length l - 1) ++ height_text h

-- the line of the instruction at k, with the height h beside it where the expression was accepted (a)
unfoldable pub row_text : List ℕ → Bool → ℕ → ℕ → List ℕ
row_text e a h k = cond a (beside_text (text_at e k) h) (text_at e k)

-- the number of what the code has beside a row, and its cells of heights as numbers: none where the expression is refused
abbrev pub cell_of : Option (Option ℕ) → ℕ
cell_of None = 0
cell_of (Some c) = height_or_mark c

abbrev pub cells_of : Option (List (Option ℕ)) → List ℕ
cells_of None = []
cells_of (Some hs) = marked hs

-- a cell for each offset, and no height that is the mark
abbrev pub HasCells : List (Option ℕ) → Type 0
HasCells hs = (length hs ≡ expression_most) × NoMark hs

-- a row is for a whole supported instruction, at one of the 1,024 offsets that have a height
unfoldable pub is_listed_of : List ℕ → ℕ → Bool
is_listed_of e k = ltb k expression_most && is_instruction e k

-- the first of ks, up to one that does not satisfy p
unfoldable pub first_of : (ℕ → Bool) → List ℕ → List ℕ
first_of p [] = []
first_of p (k ∷ ks) = cond (p k) (k ∷ first_of p ks) []

-- the starts with a row, in rising order: up to the first that has none
abbrev pub listed_starts : List ℕ → List ℕ
listed_starts e = first_of (is_listed_of e) (starts e)

-- their rows, where hs has a cell for each offset
unfoldable pub listed_text : List ℕ → List ℕ → Bool → List ℕ
listed_text e hs a = joined_lines (map (λ k. row_text e a (get_or hs k 0) k) (listed_starts e))

abbrev pub is_accepted_of : Verdict → Bool
is_accepted_of (accepted n g l) = true
is_accepted_of (refused r) = false

-- the answer on the expression e, whose verdict is v
unfoldable pub answer_text : List ℕ → Verdict → List ℕ → Bool → List ℕ
answer_text e v hs listed = verdict_text e v ++ cond listed (listed_text e hs (is_accepted_of v)) []
