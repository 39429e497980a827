-- What some lines and listings say. Assumes nothing.
use Rattle.std.specs.Prelude.{◌≡◌, refl, [], ◌∷◌, map}
use Rattle.encoding.specs.BigEndian.{big_bytes}
use Rattle.isa.specs.Classes.{opcodes, class_of}
use Rattle.hexadecimal.specs.Hex.{is_blank, digit_of}
use Rattle.text_buffer.specs.Text.{bytes_of}
use Rattle.instruction_text.specs.Names.{names, opcode_of}
use Rattle.line_words.specs.Words.{is_in_word, first_word, place_from}
use Rattle.line_words.specs.Numbers.{is_digit, value_from, number_in}
use Rattle.listing.specs.Numbers.{negated, signed_number}
use Rattle.listing.specs.Line.{nothing, instruction, wrong, line_ended, from_operand, from_name, read_line}
use Rattle.listing.specs.Meant.{headings, is_heading, before_comment, meant}
use Rattle.listing.specs.Listing.{bytes, fault, read_lines, lines_of, read_text}
use Rattle.listing.specs.declared.reading.LineFault.TheVariants.{WrongOffset, NoName, UnknownName, NoOperand, NotNumber, TooLarge, Trailing}

-- lines of the instruction at offset 2
lines :
    map (λ s. read_line 2 (bytes_of s))
    (" 2 const8 5" ∷ "const64 -1\n" ∷ "\tadd " ∷ "const64 18446744073709551615" ∷ "" ∷ "3 add" ∷ "2" ∷ "2 ad" ∷ "float" ∷ "ext" ∷ "ext 8x" ∷ "ext 256" ∷ "ext -1" ∷ "pop 1" ∷ [])
    ≡ instruction 0x22 1 5 ∷ instruction 0x25 8 18446744073709551615 ∷ instruction 0x02 0 0 ∷ instruction 0x25 8 18446744073709551615 ∷ nothing
    ∷ wrong WrongOffset 0 ∷ wrong NoName 1 ∷ wrong UnknownName 2 ∷ wrong UnknownName 0 ∷ wrong NoOperand 3 ∷ wrong NotNumber 4 ∷ wrong TooLarge 4 ∷ wrong TooLarge 4 ∷ wrong Trailing 4 ∷ []
unfolding read_line from_name from_operand line_ended first_word is_in_word is_blank digit_of is_digit number_in signed_number negated value_from opcode_of place_from names class_of opcodes
lines = refl

-- a heading, a comment, and a last line without a line feed; a fault in the second line
listings :
    map (λ s. read_text (bytes_of s)) ("Scope: main\n  0  const8 5  # height 0\n  2  end" ∷ "end\npop 1\n" ∷ "" ∷ [])
    ≡ bytes (0x22 ∷ 5 ∷ 0x27 ∷ []) ∷ fault 2 Trailing 4 ∷ bytes [] ∷ []
unfolding read_text read_lines lines_of meant is_heading headings before_comment read_line from_name from_operand line_ended first_word is_in_word is_blank digit_of is_digit number_in signed_number value_from opcode_of place_from names class_of opcodes big_bytes
listings = refl
