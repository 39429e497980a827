-- The phrases at small numbers. Assumes nothing.
use Rattle.std.specs.Prelude.{[], ◌∷◌, map, ◌≡◌, refl}
use Rattle.text_buffer.specs.Text.{bytes_of}
use Rattle.text_buffer.specs.Decimal.{decimal_by, decimal}
use Rattle.phrases.specs.Numbers.{count_text, hex_text, significant, other_reading, value_text}
use Rattle.phrases.specs.Refused.{refused_at, refusal_of}

one : count_text 1 (bytes_of "byte") ≡ bytes_of "1 byte"
unfolding decimal_by decimal count_text
one = refl

none : count_text 0 (bytes_of "byte") ≡ bytes_of "0 bytes"
unfolding decimal_by decimal count_text
none = refl

an_address : hex_text 4096 ≡ bytes_of "0000000000001000"
unfolding hex_text
an_address = refl

a_value : value_text 42 ≡ bytes_of "42 (0x2a)"
unfolding decimal_by decimal hex_text significant other_reading value_text
a_value = refl

zero_value : value_text 0 ≡ bytes_of "0 (0x0)"
unfolding decimal_by decimal hex_text significant other_reading value_text
zero_value = refl

a_refusal : refused_at 19 12 ≡ bytes_of "refused 19 at offset 12"
unfolding decimal_by decimal refused_at
a_refusal = refl

some_words : map refusal_of (0 ∷ 1 ∷ 25 ∷ 26 ∷ []) ≡ "unknown refusal number" ∷ "the expression has no bytes, or more than 1024" ∷ "there is no such record in the frame" ∷ "unknown refusal number" ∷ []
some_words = refl
