-- What some lines of a scenario say. Assumes nothing.
use Rattle.std.specs.Prelude.{◌≡◌, refl, [], ◌∷◌, map, Ok}
use Rattle.hexadecimal.specs.Hex.{is_blank, digit_of}
use Rattle.text_buffer.specs.Text.{bytes_of}
use Rattle.line_words.specs.Words.{is_in_word, first_word}
use Rattle.line_words.specs.Numbers.{is_digit, value_from, number_in, is_hexadecimal, word_number}
use Rattle.scenario.specs.Items.{wrong, place, opens_comment, columns_before_comment, text_of, keyword_of, limit_of, item_ended, number_from, set_from, pair_from, file_from, source_from, span_from, allowance_from, rest_of_line, item_in, item_of}
use Rattle.scenario.specs.declared.Keyword.TheVariants.{Image, Memory, Register, Variable, Registers, Save, Run}
use Rattle.scenario.specs.declared.ItemFault.TheVariants.{UnknownWord, MissingWord, NotNumber, TooLarge, LeftOver}
use Rattle.scenario.specs.declared.Item.TheVariants.{Nothing, Bytes, File, Set, DefaultAllowance}

lines :
    map (λ s. item_of (bytes_of s))
    ("" ∷ "  # text" ∷ "image 0x400000 bytes 41 00" ∷ "memory 4096 file a#b.bin # text" ∷ "register 6 0x1400" ∷ "registers 257" ∷ "variable 3 42"
    ∷ "allowance default" ∷ "save trace.bin" ∷ "run 27 # text" ∷ "run" ∷ "walk 27" ∷ "image 1 byte 41" ∷ "load" ∷ "tracepoint x" ∷ "variable 64 1" ∷ "buffer 1 2" ∷ [])
    ≡ Ok Nothing ∷ Ok Nothing ∷ Ok (Bytes Image 0x400000 (place 20 26)) ∷ Ok (File Memory 4096 (place 17 24)) ∷ Ok (Set Register 6 0x1400)
    ∷ Ok (Set Registers 0 257) ∷ Ok (Set Variable 3 42) ∷ Ok DefaultAllowance ∷ Ok (File Save 0 (place 5 14)) ∷ Ok (Bytes Run 0 (place 3 7))
    ∷ Ok (Bytes Run 0 (place 3 3)) ∷ wrong UnknownWord 0 ∷ wrong UnknownWord 8 ∷ wrong MissingWord 4 ∷ wrong NotNumber 11 ∷ wrong TooLarge 9 ∷ wrong LeftOver 9 ∷ []
unfolding is_blank digit_of is_in_word first_word is_digit value_from number_in is_hexadecimal word_number opens_comment columns_before_comment text_of keyword_of limit_of item_ended number_from set_from pair_from file_from source_from span_from allowance_from rest_of_line item_in item_of
lines = refl
