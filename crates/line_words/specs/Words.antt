-- The words of a line: what stands between its blanks.
use Rattle.std.specs.Prelude.{ℕ, suc, ◌+◌, ◌-◌, ◌≤◌, Bool, true, false, cond, not, ◌&&◌, List, [], ◌∷◌, ◌≡◌, eqb, length, take, drop}
use Prim.Native.String.{String}
use Rattle.hexadecimal.specs.Hex.{is_blank}
use Rattle.text_buffer.specs.Text.{bytes_of}
use Rattle.line_words.specs.declared.Place.{Place}

-- how many characters at the start of a text pass the test
abbrev pub leading : (ℕ → Bool) → List ℕ → ℕ
leading p [] = 0
leading p (c ∷ l) = cond (p c) (suc (leading p l)) 0

unfoldable pub is_in_word : ℕ → Bool
is_in_word c = not (is_blank c)

-- a word, the column where it starts, counted from 0, and the text behind it; without bytes where the line has no
-- further word
pub record Word : Type 0 where
  pub column : ℕ
  pub bytes : List ℕ
  pub rest : List ℕ

abbrev pub word_at : ℕ → List ℕ → Word
word_at c l = record { column = c; bytes = take (leading is_in_word l) l; rest = drop (leading is_in_word l) l }

-- the first word of the text l, which starts at column p
unfoldable pub first_word : ℕ → List ℕ → Word
first_word p l = word_at (p + leading is_blank l) (drop (leading is_blank l) l)

-- the column behind a word
abbrev pub behind : Word → ℕ
behind w = w.column + length w.bytes

-- the word w of a line is where the code says
pub record IsAt (line : List ℕ) (r : Place) (w : Word) : Type 0 where
  pub start_is : r.start ≡ w.column
  pub end_is : r.end ≡ behind w
  pub within : r.end ≤ length line
  pub bytes_is : take (r.end - r.start) (drop r.start line) ≡ w.bytes
  pub rest_is : drop r.end line ≡ w.rest

abbrev pub same_bytes : List ℕ → List ℕ → Bool
same_bytes [] [] = true
same_bytes [] (y ∷ ys) = false
same_bytes (x ∷ xs) [] = false
same_bytes (x ∷ xs) (y ∷ ys) = eqb x y && same_bytes xs ys

-- the place of the first of the names that is w, where the first has the place k
unfoldable pub place_from : ℕ → List String → List ℕ → ℕ
place_from k [] w = k
place_from k (n ∷ ns) w = cond (same_bytes (bytes_of n) w) k (place_from (k + 1) ns w)
