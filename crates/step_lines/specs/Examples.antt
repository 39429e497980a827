-- The line of a step at small numbers. Assumes nothing.
use Rattle.std.specs.Prelude.{◌-◌, ◌^◌, [], ◌∷◌, map, ◌≡◌, refl}
use Rattle.encoding.specs.BigEndian.{big_endian}
use Rattle.isa.specs.Classes.{opcodes, class_of}
use Rattle.isa.specs.Decode.{operand}
use Rattle.text_buffer.specs.Decimal.{decimal_by, decimal}
use Rattle.text_buffer.specs.Text.{bytes_of}
use Rattle.instruction_text.specs.Names.{names, name_of}
use Rattle.instruction_text.specs.Text.{operand_text, named_at, is_instruction, plain_at}
use Rattle.phrases.specs.Numbers.{signed_text}
use Rattle.step_lines.specs.Step.{reading_text, cell_text, cells_text, more_text, stack_text, place_text, step_line, is_narrow, hidden_of, step_text}

no_cells : step_text 0 (0x22 ∷ 0x05 ∷ 0x27 ∷ []) 0 [] ≡ bytes_of "  step 0: offset 0, const8 5, stack empty\n"
unfolding big_endian opcodes class_of operand names name_of decimal_by decimal signed_text operand_text named_at is_instruction plain_at stack_text place_text step_line hidden_of step_text
no_cells = refl

some_cells : step_text 2 (0x22 ∷ 0x05 ∷ 0x22 ∷ 0x03 ∷ 0x02 ∷ 0x27 ∷ []) 4 (5 ∷ 3 ∷ []) ≡ bytes_of "  step 2: offset 4, add, stack 5 3\n"
unfolding big_endian opcodes class_of operand names name_of decimal_by decimal signed_text operand_text named_at is_instruction plain_at reading_text cell_text cells_text more_text stack_text place_text step_line is_narrow hidden_of step_text
some_cells = refl

not_all_cells : stack_text (5 ∷ 3 ∷ 8 ∷ []) 2 ≡ bytes_of " (2 more) 8"
unfolding decimal_by decimal reading_text cell_text cells_text more_text stack_text
not_all_cells = refl

both_readings : map reading_text (0 ∷ (2 ^ 63 - 1) ∷ (2 ^ 64 - 128) ∷ (2 ^ 64 - 1) ∷ []) ≡ map bytes_of ("" ∷ "" ∷ "(-128)" ∷ "(-1)" ∷ [])
unfolding decimal_by decimal signed_text reading_text
both_readings = refl
