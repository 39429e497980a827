-- Signed numbers, read, and the widths of operands.
use Rattle.std.specs.Prelude.{ℕ, ◌-◌, ◌^◌, Bool, cond, ◌||◌, List, leb, eqb, drop, get_or, Result, Ok, Err}
use Rattle.line_words.specs.Numbers.{number_in}
use Rattle.line_words.specs.declared.numbers.NumberError.{NumberError}
use Rattle.line_words.specs.declared.numbers.NumberError.TheVariants.{Large}

-- the word of 64 bits for -d, where d is from 1 to 2^63
unfoldable pub negated : Result ℕ NumberError → Result ℕ NumberError
negated (Ok d) = cond (eqb d 0) (Err Large) (cond (leb d (2 ^ 63)) (Ok (2 ^ 64 - d)) (Err Large))
negated (Err e) = Err e

-- with or without a minus in front
unfoldable pub signed_number : List ℕ → Result ℕ NumberError
signed_number w = cond (eqb (get_or w 0 0) 45) (negated (number_in 10 (drop 1 w))) (number_in 10 w)

-- the numbers of operand bytes of document 01's table, other than 0
unfoldable pub is_width : ℕ → Bool
is_width n = eqb n 1 || eqb n 2 || eqb n 4 || eqb n 8
