-- The text of some instructions. Assumes nothing.
use Rattle.std.specs.Prelude.{◌≡◌, refl, [], ◌∷◌}
use Rattle.text_buffer.specs.Decimal.{decimal_by, decimal}
use Rattle.text_buffer.specs.Text.{bytes_of}
use Rattle.phrases.specs.Numbers.{signed_text}
use Rattle.instruction_text.specs.Names.{names, name_of}
use Rattle.instruction_text.specs.Text.{aligned, operand_text, text_of}

-- as GDB prints them; a const64 is signed
texts :
    text_of 0 0x22 1 5 ∷ text_of 12 0x02 0 0 ∷ text_of 1023 0x20 2 1024 ∷ text_of 7 0x24 4 999 ∷ text_of 7 0x25 8 18446744073709551615 ∷ []
    ≡ bytes_of "  0  const8 5\n" ∷ bytes_of " 12  add\n" ∷ bytes_of "1023  if_goto 1024\n" ∷ bytes_of "  7  const32 999\n" ∷ bytes_of "  7  const64 -1\n" ∷ []
unfolding text_of aligned decimal decimal_by name_of names operand_text signed_text
texts = refl
