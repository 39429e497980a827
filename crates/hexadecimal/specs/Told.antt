-- What the code answers, by what stands in a text.
use Rattle.std.specs.Prelude.{ℕ, cond, List, [], ◌∷◌, ltb, length, drop, Option, Some, None, Result, Ok, Err}
use Rattle.hexadecimal.specs.Hex.{digit_of, Token, Skip, Byte, Wrong, Single, End, whole, wrong, single, full, HexReading}
use Rattle.hexadecimal.specs.declared.Token.{Token as Begun}
use Rattle.hexadecimal.specs.declared.Token.TheVariants.{Skip as Passed, Byte as Spelled}
use Rattle.hexadecimal.specs.declared.HexError.{HexError}
use Rattle.hexadecimal.specs.declared.HexError.TheVariants.{NotHex, Odd, TooLong}

-- a digit's value
abbrev pub digit_told : ℕ → Option ℕ
digit_told c = cond (ltb 15 (digit_of c)) None (Some (digit_of c))

-- the digit at position p of a text
abbrev pub first_digit : ℕ → List ℕ → Result ℕ HexError
first_digit p [] = Err Odd
first_digit p (c ∷ t) = cond (ltb 15 (digit_of c)) (Err (NotHex p)) (Ok (digit_of c))

abbrev pub digit_found : List ℕ → ℕ → Result ℕ HexError
digit_found t p = first_digit p (drop p t)

-- a byte; what is passed over is none
abbrev pub byte_told : Token → Result ℕ HexError
byte_told (Byte x n) = Ok x
byte_told (Skip n) = Err Odd
byte_told (Wrong p) = Err (NotHex p)
byte_told Single = Err Odd

abbrev pub token_told : Token → Result Begun HexError
token_told (Skip n) = Ok (Passed n)
token_told (Byte x n) = Ok (Spelled x n)
token_told (Wrong p) = Err (NotHex p)
token_told Single = Err Odd

-- the answer to a text that was read
abbrev pub answer_for : List ℕ → End → Result ℕ HexError
answer_for l whole = Ok (length l)
answer_for l (wrong p) = Err (NotHex p)
answer_for l single = Err Odd
answer_for l full = Err TooLong

abbrev pub hex_answer_of : HexReading → Result ℕ HexError
hex_answer_of r = answer_for r.bytes r.end
