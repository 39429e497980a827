-- A whole listing: one line an instruction, and such lines read one after the other.
use Rattle.std.specs.Prelude.{ℕ, ◌+◌, ◌-◌, ◌<◌, ◌≤◌, Bool, true, cond, ◌&&◌, List, [], ◌∷◌, ◌++◌, map, ◌≡◌, eqb, length, take, drop, None, Some, Ok, Err}
use Rattle.isa.specs.Starts.{starts_from}
use Rattle.instruction_text.specs.Text.{text_at, is_instruction}
use Rattle.listing.specs.Line.{ListingLine, line_bytes}
use Rattle.listing.specs.Meant.{meant}
use Rattle.listing.specs.declared.reading.LineFault.{LineFault}

-- the lines of the expression e from offset i on
unfoldable pub listing_from : List ℕ → ℕ → List (List ℕ)
listing_from e i = map (text_at e) (starts_from e i)

unfoldable pub listing : List ℕ → List (List ℕ)
listing e = listing_from e 0

-- every start from i on is that of an instruction
abbrev pub all_instructions : List ℕ → List ℕ → Bool
all_instructions e [] = true
all_instructions e (k ∷ ks) = is_instruction e k && all_instructions e ks

-- the bytes of lines, or the first line that has a fault, its number counted from 1, with the fault and its column
pub data Lines : Type 0 where
  bytes : List ℕ → Lines
  fault : ℕ → LineFault → ℕ → Lines

abbrev pub after_bytes : List ℕ → Lines → Lines
after_bytes l (bytes m) = bytes (l ++ m)
after_bytes l (fault n f c) = fault n f c

abbrev pub then_lines : ℕ → ListingLine → (List ℕ → Lines) → Lines
then_lines n (Ok None) f = f []
then_lines n (Ok (Some i)) f = f (line_bytes (Ok (Some i)))
then_lines n (Err w) f = fault n w.reason w.column

-- the lines of an expression from line n and offset i on
unfoldable pub read_lines : ℕ → ℕ → List (List ℕ) → Lines
read_lines n i [] = bytes []
read_lines n i (l ∷ ls) = then_lines n (meant i l) (λ b. after_bytes b (read_lines (n + 1) (i + length b) ls))

-- ---- as one text: lines joined, and a text divided into lines, each with its line feed
abbrev pub joined_lines : List (List ℕ) → List ℕ
joined_lines [] = []
joined_lines (l ∷ ls) = l ++ joined_lines ls

abbrev pub onto : ℕ → List (List ℕ) → List (List ℕ)
onto c [] = (c ∷ []) ∷ []
onto c (l ∷ ls) = (c ∷ l) ∷ ls

unfoldable pub lines_of : List ℕ → List (List ℕ)
lines_of [] = []
lines_of (c ∷ t) = cond (eqb c 10) ((c ∷ []) ∷ lines_of t) (onto c (lines_of t))

-- the line of the text t that begins at i ends before j
pub record IsLine (t : List ℕ) (i j : ℕ) : Type 0 where
  pub more : i < j
  pub within : j ≤ length t
  pub first_is : lines_of (drop i t) ≡ take (j - i) (drop i t) ∷ lines_of (drop j t)

unfoldable pub listing_text : List ℕ → List ℕ
listing_text e = joined_lines (listing e)

unfoldable pub read_text : List ℕ → Lines
read_text t = read_lines 1 0 (lines_of t)
