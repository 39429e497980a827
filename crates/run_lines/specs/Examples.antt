-- The lines of a run at small numbers. Assumes nothing.
use Rattle.std.specs.Prelude.{[], ◌∷◌, map, ◌≡◌, refl}
use Rattle.encoding.specs.BigEndian.{big_endian}
use Rattle.isa.specs.Classes.{opcodes, class_of}
use Rattle.isa.specs.Decode.{operand}
use Rattle.text_buffer.specs.Decimal.{decimal_by, decimal}
use Rattle.text_buffer.specs.Text.{bytes_of}
use Rattle.instruction_text.specs.Names.{names, name_of}
use Rattle.instruction_text.specs.Text.{operand_text, named_at, is_instruction, plain_at}
use Rattle.sizes.specs.Sizes.{buffer_most}
use Rattle.refusals.specs.Numbers.{spans_share, divisor_zero}
use Rattle.refusals.specs.Refusal.{refusal, refusal_after}
use Rattle.machine.specs.Machine.{no_value, top, top_and_beneath}
use Rattle.runner.specs.Returned.{completed_with, refused_with}
use Rattle.phrases.specs.Numbers.{count_text, hex_text, significant, signed_text, other_reading, value_text}
use Rattle.phrases.specs.Refused.{refused_at}
use Rattle.run_lines.specs.Outcome.{steps_text, cells_text, completed_by, fits_line, is_narrow, completed_text, is_of_instruction, instruction_line, refused_text, outcome_text, change_by, change_text, buffer_text}
use Rattle.run_lines.specs.Notes.{note_at, replaced_text, discarded_text}

-- no value, the top, the top and the cell beneath
completed_runs :
    map (outcome_text []) (completed_with no_value 1 0 ∷ completed_with (top 8) 4 0 ∷ completed_with (top_and_beneath 3 5) 3 0 ∷ [])
    ≡ bytes_of "completed after 1 step: no value\n" ∷ bytes_of "completed after 4 steps: top 8 (0x8)\n" ∷ bytes_of "completed after 3 steps: top 3 (0x3), beneath 5 (0x5)\n" ∷ []
unfolding decimal_by decimal count_text hex_text significant other_reading value_text steps_text cells_text completed_by fits_line is_narrow completed_text outcome_text
completed_runs = refl

-- the form in two lines, which a wide answer has (one of them: proofs/Columns.antt)
in_two_lines : completed_by (bytes_of ",\n  beneath ") (top_and_beneath 3 5) 3 ≡ bytes_of "completed after 3 steps: top 3 (0x3),\n  beneath 5 (0x5)\n"
unfolding decimal_by decimal count_text hex_text significant other_reading value_text steps_text cells_text completed_by
in_two_lines = refl

-- with the instruction that is refused; and refusal 13, which is of no instruction
a_refused_run : outcome_text (0x22 ∷ 0x05 ∷ 0x22 ∷ 0x00 ∷ 0x05 ∷ 0x27 ∷ []) (refused_with (refusal_after divisor_zero 4 2))
    ≡ bytes_of "refused 17 at offset 4 after 2 steps: division by zero\n  instruction: div_signed\n"
unfolding big_endian opcodes class_of operand names name_of decimal_by decimal signed_text operand_text named_at is_instruction plain_at count_text refused_at steps_text is_of_instruction instruction_line refused_text outcome_text
a_refused_run = refl

a_refused_input : outcome_text (0x27 ∷ []) (refused_with (refusal spans_share 0)) ≡ bytes_of "refused 13 at offset 0 after 0 steps: the two memory spans overlap\n"
unfolding decimal_by decimal count_text refused_at steps_text is_of_instruction instruction_line refused_text outcome_text
a_refused_input = refl

a_change : change_text 3 0 42 ≡ bytes_of "  variable 3: 0 (0x0) -> 42 (0x2a)\n"
unfolding decimal_by decimal hex_text significant other_reading value_text fits_line change_by change_text
a_change = refl

a_buffer : buffer_text 21 buffer_most ≡ bytes_of "buffer: 21 of 65536 bytes used\n"
unfolding decimal_by decimal count_text buffer_text
a_buffer = refl

a_replaced_span : replaced_text 7 (bytes_of "memory") 16 4096 ≡ bytes_of "note: line 7: memory: 16 bytes at 0000000000001000 replaced\n"
unfolding decimal_by decimal count_text hex_text note_at replaced_text
a_replaced_span = refl

a_discarded_buffer : discarded_text 9 (bytes_of "buffer") 42 ≡ bytes_of "note: line 9: buffer: 42 recorded bytes discarded\n"
unfolding decimal_by decimal count_text note_at discarded_text
a_discarded_buffer = refl
