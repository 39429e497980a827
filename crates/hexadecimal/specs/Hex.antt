-- What a hexadecimal text spells. Assumes nothing.
use Rattle.std.specs.Prelude.{ℕ, zero, suc, ◌+◌, ◌-◌, ◌*◌, ◌/◌, ◌%◌, Bool, true, false, cond, ◌&&◌, List, [], ◌∷◌, ◌++◌, ltb, leb, eqb, length, drop, get_or}
use Rattle.io.specs.Digits.{hex_digit_ascii}

-- c is one of the characters from a to b
abbrev pub is_between : ℕ → ℕ → ℕ → Bool
is_between a b c = cond (leb a c) (leb c b) false

-- a space, a tab, a line feed or a carriage return
unfoldable pub is_blank : ℕ → Bool
is_blank c = cond (eqb c 32) true (cond (eqb c 9) true (cond (eqb c 10) true (eqb c 13)))

-- the value of a digit, `0` to `9`, `A` to `F` or `a` to `f`, and 16 for any other character
unfoldable pub digit_of : ℕ → ℕ
digit_of c =
    cond (is_between 48 57 c) (c - 48)
    (cond (is_between 65 70 c) (c - 55)
    (cond (is_between 97 102 c) (c - 87) 16))

-- a digit as it is written, `0` to `9` or `a` to `f`; a text of such digits only
unfoldable pub is_lower : ℕ → Bool
is_lower c = cond (is_between 48 57 c) true (is_between 97 102 c)

unfoldable pub all_lower : List ℕ → Bool
all_lower [] = true
all_lower (c ∷ t) = cond (is_lower c) (all_lower t) false

-- what may stand between bytes: a blank, a comma, a colon, a brace
unfoldable pub is_separator : ℕ → Bool
is_separator c = cond (is_blank c) true (cond (eqb c 44) true (cond (eqb c 58) true (cond (eqb c 123) true (eqb c 125))))

-- how many characters a text has up to its first line feed: so many a comment has, from its # on
unfoldable pub line_length : List ℕ → ℕ
line_length [] = 0
line_length (c ∷ t) = cond (eqb c 10) 0 (suc (line_length t))

-- what begins at a position of a text: so many characters that are passed over; a byte, with its number of characters;
-- neither, by the character at a position; or a digit with nothing after it
pub data Token : Type 0 where
  Skip : ℕ → Token
  Byte : ℕ → ℕ → Token
  Wrong : ℕ → Token
  Single : Token

-- what the text t gives after a digit of the value high at position p
unfoldable pub after_high : ℕ → ℕ → List ℕ → Token
after_high p high [] = Single
after_high p high (c ∷ t) = cond (ltb 15 (digit_of c)) (Wrong (p + 1)) (Byte (high * 16 + digit_of c) 2)

-- the two digits at the start of a text whose first character has the position p
unfoldable pub digits_of : ℕ → List ℕ → Token
digits_of p [] = Single
digits_of p (c ∷ t) = cond (ltb 15 (digit_of c)) (Wrong p) (after_high p (digit_of c) t)

-- `0x` stands in front
unfoldable pub is_prefixed : List ℕ → Bool
is_prefixed t = eqb (get_or t 0 0) 48 && eqb (get_or t 1 0) 120

-- 0x at position p and two digits behind it are one byte. A third digit would make a number of several bytes, whose
-- order is not known
abbrev pub by_prefix : ℕ → Token → Bool → Token
by_prefix p (Byte x n) third = cond third (Wrong (p + 4)) (Byte x 4)
by_prefix p (Skip n) third = Single
by_prefix p (Wrong q) third = Wrong q
by_prefix p Single third = Single

-- character k of a text is a digit; there is none past its end
unfoldable pub is_digit_at : List ℕ → ℕ → Bool
is_digit_at t k = leb (digit_of (get_or t k 0)) 15

unfoldable pub prefixed_of : ℕ → List ℕ → Token
prefixed_of p t = by_prefix p (digits_of (p + 2) (drop 2 t)) (is_digit_at t 4)

-- what stands at the start of a text whose first character has the position p
unfoldable pub token_of : ℕ → List ℕ → Token
token_of p t =
    cond (is_separator (get_or t 0 0)) (Skip 1)
    (cond (eqb (get_or t 0 0) 35) (Skip (line_length t))
    (cond (is_prefixed t) (prefixed_of p t) (digits_of p t)))

-- how the reading of a text ends: at its end, at a wrong character, at a single digit, at a byte that has no room
pub data End : Type 0 where
  whole : End
  wrong : ℕ → End
  single : End
  full : End

-- the bytes that were read, and why no more
pub record HexReading : Type 0 where
  pub bytes : List ℕ
  pub end : End

abbrev pub stopped : End → HexReading
stopped e = record { bytes = []; end = e }

-- the bytes l come before those of a reading
abbrev pub with_bytes : List ℕ → HexReading → HexReading
with_bytes l r = record { bytes = l ++ r.bytes; end = r.end }

-- a reading by its first token, with room for so many bytes: a is the reading past so many characters, with the room
-- that is left
abbrev pub by_token : Token → ℕ → (ℕ → ℕ → HexReading) → HexReading
by_token (Skip n) room a = a n room
by_token (Wrong p) room a = stopped (wrong p)
by_token Single room a = stopped single
by_token (Byte x n) zero a = stopped full
by_token (Byte x n) (suc room) a = with_bytes (x ∷ []) (a n room)

-- the reading of a text whose first character has the position p, with room for so many bytes, from its character k on
unfoldable pub read_past_of : ℕ → ℕ → ℕ → List ℕ → HexReading
read_past_of k p room [] = stopped whole
read_past_of (suc k) p room (c ∷ t) = read_past_of k (p + 1) room t
read_past_of zero p room (c ∷ t) = by_token (token_of p (c ∷ t)) room (λ n r. read_past_of (n - 1) (p + 1) r t)

abbrev pub read_from : ℕ → ℕ → List ℕ → HexReading
read_from p room t = read_past_of 0 p room t

abbrev pub reading_of : List ℕ → ℕ → HexReading
reading_of text room = read_from 0 room text

-- the buffer o with the bytes that were read at its start
abbrev pub written_over : List ℕ → HexReading → List ℕ
written_over o r = r.bytes ++ drop (length r.bytes) o

-- ---- written: a byte as two digits, in lower case
abbrev pub pair_of : ℕ → List ℕ
pair_of b = hex_digit_ascii (b / 16) ∷ hex_digit_ascii (b % 16) ∷ []

unfoldable pub hex_of : List ℕ → List ℕ
hex_of [] = []
hex_of (b ∷ l) = pair_of b ++ hex_of l
