-- What a line of a whole listing says: headings say nothing, and a comment is cut.
use Rattle.std.specs.Prelude.{ℕ, Bool, false, cond, not, ◌||◌, List, [], ◌∷◌, eqb, length, take}
use Prim.Native.String.{String}
use Rattle.text_buffer.specs.Text.{bytes_of}
use Rattle.line_words.specs.Words.{leading, same_bytes}
use Rattle.listing.specs.Line.{ListingLine, nothing, read_line}

-- how the lines without an instruction begin: two of GDB's, and those that `verify` prints
unfoldable pub headings : List String
headings = "Scope:" ∷ "Reg mask:" ∷ "accepted: " ∷ "refused " ∷ "note: " ∷ "bytes " ∷ []

-- the text l begins with w
abbrev pub begins : List ℕ → List ℕ → Bool
begins w l = same_bytes (take (length w) l) w

abbrev pub begins_one : List String → List ℕ → Bool
begins_one [] l = false
begins_one (h ∷ hs) l = begins (bytes_of h) l || begins_one hs l

unfoldable pub is_heading : List ℕ → Bool
is_heading l = begins_one headings l

-- what stands before the first character c, or all
abbrev pub is_not : ℕ → ℕ → Bool
is_not c x = not (eqb x c)

abbrev pub before : ℕ → List ℕ → List ℕ
before c l = take (leading (is_not c) l) l

-- a line without its line feed, and without a comment, which begins at #
unfoldable pub before_comment : List ℕ → List ℕ
before_comment l = before 35 (before 10 l)

-- what a line says where the offset of the next instruction is `at`
unfoldable pub meant : ℕ → List ℕ → ListingLine
meant at l = cond (is_heading l) nothing (read_line at (before_comment l))
