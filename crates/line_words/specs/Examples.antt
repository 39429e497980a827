-- What some words are as numbers. Assumes nothing.
use Rattle.std.specs.Prelude.{◌≡◌, refl, [], ◌∷◌, map, Ok, Err}
use Rattle.hexadecimal.specs.Hex.{digit_of}
use Rattle.text_buffer.specs.Text.{bytes_of}
use Rattle.line_words.specs.Numbers.{is_digit, value_from, number_in, is_hexadecimal, word_number}
use Rattle.line_words.specs.declared.numbers.NumberError.TheVariants.{Large, Not}

numbers :
    map (λ s. word_number (bytes_of s)) ("42" ∷ "0x2a" ∷ "0X2a" ∷ "0xFFFFFFFFFFFFFFFF" ∷ "18446744073709551616" ∷ "0x10000000000000000" ∷ "0x" ∷ "4a" ∷ "-1" ∷ "" ∷ [])
    ≡ Ok 42 ∷ Ok 42 ∷ Err Not ∷ Ok 18446744073709551615 ∷ Err Large ∷ Err Large ∷ Err Not ∷ Err Not ∷ Err Not ∷ Err Not ∷ []
unfolding digit_of is_digit value_from number_in is_hexadecimal word_number
numbers = refl
