-- The answers at small numbers. Assumes nothing.
use Rattle.std.specs.Prelude.{true, [], ◌∷◌, map, ◌≡◌, refl}
use Rattle.encoding.specs.BigEndian.{big_endian}
use Rattle.isa.specs.Classes.{opcodes, class_of}
use Rattle.isa.specs.Decode.{operand}
use Rattle.isa.specs.Starts.{starts_at_most, starts_from}
use Rattle.hexadecimal.specs.Hex.{hex_of}
use Rattle.text_buffer.specs.Text.{bytes_of}
use Rattle.refusals.specs.Refusal.{refusal}
use Rattle.verdict.specs.Verdict.{accepted, refused}
use Rattle.instruction_text.specs.Names.{names, name_of}
use Rattle.text_buffer.specs.Decimal.{decimal_by, decimal}
use Rattle.instruction_text.specs.Text.{aligned, operand_text, text_of, text_at, named_at, is_instruction, plain_at}
use Rattle.phrases.specs.Numbers.{count_text, signed_text}
use Rattle.phrases.specs.Refused.{refused_at}
use Rattle.verify_lines.specs.Verdict.{accepted_text, opcode_text, there_text, instruction_of, refused_line, verdict_text, height_text}
use Rattle.verify_lines.specs.Listed.{gap_text, beside_text, row_text, is_listed_of, first_of, listed_text, answer_text}
use Rattle.verify_lines.specs.Bytes.{bytes_line, bytes_lines, bytes_text}

an_accepted : verdict_text (0x22 ∷ 0x05 ∷ 0x22 ∷ 0x03 ∷ 0x02 ∷ 0x27 ∷ []) (accepted 4 2 4) ≡ bytes_of "accepted: 4 instructions, greatest height 2, longest walk 4\n"
unfolding decimal_by decimal count_text accepted_text verdict_text
an_accepted = refl

-- with the instruction that is refused; with its name where it is not whole, or not supported; with the number of an
-- unknown opcode; and refusal 1, which is of no instruction
an_instruction : verdict_text (0x22 ∷ 0x09 ∷ 0x32 ∷ 0x01 ∷ 0x27 ∷ []) (refused (refusal 9 2)) ≡ bytes_of "refused 9 at offset 2 (pick 1): too few cells on the stack for this instruction\n"
unfolding big_endian opcodes class_of operand names name_of decimal_by decimal signed_text operand_text named_at is_instruction plain_at refused_at there_text instruction_of refused_line verdict_text
an_instruction = refl

a_part : verdict_text (0x23 ∷ 0x01 ∷ []) (refused (refusal 4 0)) ≡ bytes_of "refused 4 at offset 0 (const16): the expression ends inside this instruction\n"
unfolding opcodes class_of names name_of decimal_by decimal is_instruction refused_at opcode_text there_text instruction_of refused_line verdict_text
a_part = refl

an_unsupported : verdict_text (0x1d ∷ []) (refused (refusal 3 0)) ≡ bytes_of "refused 3 at offset 0 (ref_long_double): this instruction is not supported\n"
unfolding opcodes class_of decimal_by decimal is_instruction refused_at names name_of opcode_text there_text instruction_of refused_line verdict_text
an_unsupported = refl

an_opcode : verdict_text (0x27 ∷ 0x31 ∷ []) (refused (refusal 2 1)) ≡ bytes_of "refused 2 at offset 1 (opcode 31): unknown instruction\n"
unfolding opcodes class_of decimal_by decimal is_instruction refused_at opcode_text there_text instruction_of refused_line verdict_text
an_opcode = refl

no_bytes : verdict_text [] (refused (refusal 1 0)) ≡ bytes_of "refused 1 at offset 0: the expression has no bytes, or more than 1024\n"
unfolding decimal_by decimal refused_at instruction_of refused_line verdict_text
no_bytes = refl

some_heights : map height_text (3 ∷ 255 ∷ []) ≡ bytes_of "# height 3\n" ∷ bytes_of "# not reached\n" ∷ []
unfolding decimal_by decimal height_text
some_heights = refl

-- with heights; of a refused expression without, up to the instruction that is not whole
a_listing : answer_text (0x22 ∷ 0x05 ∷ 0x27 ∷ []) (accepted 2 1 2) (0 ∷ 0 ∷ 1 ∷ []) true
    ≡ bytes_of "accepted: 2 instructions, greatest height 1, longest walk 2\n  0  const8 5                       # height 0\n  2  end                            # height 1\n"
unfolding big_endian opcodes class_of operand starts_at_most starts_from names name_of decimal_by decimal signed_text aligned operand_text text_of text_at is_instruction count_text accepted_text verdict_text height_text gap_text beside_text row_text is_listed_of first_of listed_text answer_text
a_listing = refl

a_refused_listing : answer_text (0x28 ∷ 0x23 ∷ 0x01 ∷ []) (refused (refusal 4 1)) [] true
    ≡ bytes_of "refused 4 at offset 1 (const16): the expression ends inside this instruction\n  0  dup\n"
unfolding opcodes class_of starts_at_most starts_from names name_of decimal_by decimal aligned operand_text text_of text_at is_instruction refused_at opcode_text there_text instruction_of refused_line verdict_text row_text is_listed_of first_of listed_text answer_text
a_refused_listing = refl

some_bytes : bytes_text (0x22 ∷ 0x05 ∷ 0x27 ∷ []) ≡ bytes_of "bytes 220527\n"
unfolding hex_of bytes_line bytes_lines bytes_text
some_bytes = refl
