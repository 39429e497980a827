-- The definitions at some texts. Assumes nothing.
use Rattle.std.specs.Prelude.{[], ◌∷◌, map, ◌≡◌, refl}
use Rattle.hexadecimal.specs.Hex.{is_blank, digit_of}
use Rattle.text_buffer.specs.Text.{bytes_of}
use Rattle.line_words.specs.Words.{is_in_word, first_word}
use Rattle.line_words.specs.Numbers.{is_digit, value_from, number_in}
use Rattle.expression_bytes.specs.Expression.{bytes_start, is_list, length_of, read_front, read_start}

-- where the digits begin: behind the word `bytes`, behind a length; a list of bytes with commas has no length
starts :
    map (λ s. read_start (bytes_of s)) ("220527" ∷ "bytes 2205" ∷ " 3,220527" ∷ "bytes 3,220527" ∷ "22,05,27" ∷ "22, 05" ∷ "0x22,0x05" ∷ "10,2205" ∷ [])
    ≡ 0 ∷ 5 ∷ 3 ∷ 8 ∷ 0 ∷ 0 ∷ 0 ∷ 3 ∷ []
unfolding read_start read_front bytes_start length_of is_list first_word is_in_word is_blank number_in is_digit value_from digit_of
starts = refl
