-- Counts, addresses and values as text.
use Rattle.std.specs.Prelude.{ℕ, ◌-◌, ◌^◌, cond, List, [], ◌∷◌, ◌++◌, eqb, ltb}
use Rattle.io.specs.Digits.{last_digits}
use Rattle.text_buffer.specs.Text.{bytes_of}
use Rattle.text_buffer.specs.Decimal.{decimal}

-- `1 byte`, `2 bytes`: the word alone for one, with an s for every other number
unfoldable pub count_text : ℕ → List ℕ → List ℕ
count_text n word = cond (eqb n 1) (decimal n ++ bytes_of " " ++ word) (decimal n ++ bytes_of " " ++ word ++ bytes_of "s")

-- 16 digits, with zeros in front
unfoldable pub hex_text : ℕ → List ℕ
hex_text v = last_digits 16 16 v

-- without the zeros in front; the last digit stays
unfoldable pub significant : List ℕ → List ℕ
significant [] = []
significant (c ∷ []) = c ∷ []
significant (c ∷ d ∷ l) = cond (eqb c 48) (significant (d ∷ l)) (c ∷ d ∷ l)

-- a word of 64 bits as a signed number, as GDB prints it; every number below 2^63 is printed as it is
unfoldable pub signed_text : ℕ → List ℕ
signed_text v = cond (ltb v (2 ^ 63)) (decimal v) (45 ∷ decimal (2 ^ 64 - v))

-- the signed reading, where it differs
unfoldable pub other_reading : ℕ → List ℕ
other_reading v = cond (ltb v (2 ^ 63)) [] (signed_text v ++ bytes_of ", ")

-- `DECIMAL (0xHEX)`; from 2^63 on `DECIMAL (-DECIMAL, 0xHEX)`
unfoldable pub value_text : ℕ → List ℕ
value_text v = decimal v ++ bytes_of " (" ++ other_reading v ++ bytes_of "0x" ++ significant (hex_text v) ++ bytes_of ")"
