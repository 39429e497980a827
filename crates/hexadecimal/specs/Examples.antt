-- The definition of a reading at some texts. Assumes nothing.
use Rattle.std.specs.Prelude.{◌≡◌, refl, [], ◌∷◌}
use Rattle.hexadecimal.specs.Hex.{whole, wrong, single, full, is_blank, is_separator, digit_of, line_length, after_high, digits_of, is_prefixed, is_digit_at, prefixed_of, token_of, read_past_of, reading_of, hex_of}
use Rattle.text_buffer.specs.Text.{bytes_of}

both_cases : reading_of (bytes_of "22 0aFf") 3 ≡ record { bytes = 0x22 ∷ 0x0a ∷ 0xff ∷ []; end = whole }
unfolding is_blank is_separator digit_of after_high digits_of is_prefixed token_of read_past_of
both_cases = refl

blanks : reading_of (bytes_of "\t27 \r\n") 3 ≡ record { bytes = 0x27 ∷ []; end = whole }
unfolding is_blank is_separator digit_of after_high digits_of is_prefixed token_of read_past_of
blanks = refl

nothing : reading_of [] 0 ≡ record { bytes = []; end = whole }
unfolding read_past_of
nothing = refl

wrong_second : reading_of (bytes_of "27 2g") 3 ≡ record { bytes = 0x27 ∷ []; end = wrong 4 }
unfolding is_blank is_separator digit_of after_high digits_of is_prefixed token_of read_past_of
wrong_second = refl

blank_inside : reading_of (bytes_of "2 7") 3 ≡ record { bytes = []; end = wrong 1 }
unfolding is_blank is_separator digit_of after_high digits_of is_prefixed token_of read_past_of
blank_inside = refl

left_over : reading_of (bytes_of "27 2") 3 ≡ record { bytes = 0x27 ∷ []; end = single }
unfolding is_blank is_separator digit_of after_high digits_of is_prefixed token_of read_past_of
left_over = refl

-- separators and comments; 0x in front of each byte
as_in_c : reading_of (bytes_of "{ 0x22, 0x05, # five\n  27:}") 3 ≡ record { bytes = 0x22 ∷ 0x05 ∷ 0x27 ∷ []; end = whole }
unfolding is_blank is_separator digit_of line_length after_high digits_of is_prefixed is_digit_at prefixed_of token_of read_past_of
as_in_c = refl

-- a number of several bytes, 0x with one digit, and with none
as_numbers : reading_of (bytes_of "0x2205") 3 ≡ record { bytes = []; end = wrong 4 }
unfolding is_blank is_separator digit_of after_high digits_of is_prefixed is_digit_at prefixed_of token_of read_past_of
as_numbers = refl

one_digit : reading_of (bytes_of "0x5,") 3 ≡ record { bytes = []; end = wrong 3 }
unfolding is_blank is_separator digit_of after_high digits_of is_prefixed prefixed_of token_of read_past_of
one_digit = refl

no_digit : reading_of (bytes_of "0x") 3 ≡ record { bytes = []; end = single }
unfolding is_blank is_separator digit_of after_high digits_of is_prefixed prefixed_of token_of read_past_of
no_digit = refl

buffer_full : reading_of (bytes_of "27 22") 1 ≡ record { bytes = 0x27 ∷ []; end = full }
unfolding is_blank is_separator digit_of after_high digits_of is_prefixed token_of read_past_of
buffer_full = refl

written : hex_of (0x22 ∷ 0x0a ∷ 0xff ∷ []) ≡ bytes_of "220aff"
unfolding hex_of
written = refl
