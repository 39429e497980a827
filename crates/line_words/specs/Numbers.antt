-- Numbers as words: decimal, or hexadecimal with 0x in front.
use Rattle.std.specs.Prelude.{ℕ, ◌+◌, ◌*◌, ◌^◌, Bool, cond, ◌&&◌, List, [], ◌∷◌, ltb, leb, eqb, length, drop, get_or, Result, Ok, Err}
use Rattle.hexadecimal.specs.Hex.{digit_of}
use Rattle.line_words.specs.Words.{leading}
use Rattle.line_words.specs.declared.numbers.NumberError.{NumberError}
use Rattle.line_words.specs.declared.numbers.NumberError.TheVariants.{Large, Not}
use Rattle.line_words.specs.declared.numbers.Base.{Base}
use Rattle.line_words.specs.declared.numbers.Base.TheVariants.{Decimal, Hexadecimal}

abbrev pub base_of : Base → ℕ
base_of Decimal = 10
base_of Hexadecimal = 16

-- a digit of a base up to 16: `digit_of` gives 16 for any other character
unfoldable pub is_digit : ℕ → ℕ → Bool
is_digit base c = ltb (digit_of c) base

-- the number whose digits are those of v and then l
unfoldable pub value_from : ℕ → ℕ → List ℕ → ℕ
value_from base v [] = v
value_from base v (c ∷ l) = value_from base (v * base + digit_of c) l

-- a number that 64 bits can hold, or one that they cannot
abbrev pub limited : ℕ → Result ℕ NumberError
limited v = cond (ltb v (2 ^ 64)) (Ok v) (Err Large)

-- a word that is one digit or more and nothing else
unfoldable pub number_in : ℕ → List ℕ → Result ℕ NumberError
number_in base w =
    cond (eqb (leading (is_digit base) w) 0) (Err Not)
    (cond (ltb (leading (is_digit base) w) (length w)) (Err Not) (limited (value_from base 0 w)))

-- `0x` stands in front
unfoldable pub is_hexadecimal : List ℕ → Bool
is_hexadecimal w = leb 2 (length w) && (eqb (get_or w 0 0) 48 && eqb (get_or w 1 0) 120)

unfoldable pub word_number : List ℕ → Result ℕ NumberError
word_number w = cond (is_hexadecimal w) (number_in 16 (drop 2 w)) (number_in 10 w)
