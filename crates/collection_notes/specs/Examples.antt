-- The definitions at some expressions. Assumes nothing.
use Rattle.std.specs.Prelude.{true, false, [], ◌∷◌, map, ◌≡◌, refl}
use Rattle.isa.specs.Classes.{opcodes, class_of}
use Rattle.isa.specs.Starts.{starts_at_most, starts_from}
use Rattle.text_buffer.specs.Text.{bytes_of}
use Rattle.text_buffer.specs.Decimal.{decimal_by, decimal}
use Rattle.collection_notes.specs.Collection.{is_tracing, collects, reads_at, reads_register, is_set, is_in_mask, is_wanted}
use Rattle.collection_notes.specs.Notes.{register_note, wanted_note, notes_from, mask_notes, register_notes}

-- `const8 12` has a byte 0c that is no instruction; `trace_quick 2` records
collecting : map collects ((0x22 ∷ 0x0c ∷ 0x27 ∷ []) ∷ (0x22 ∷ 0x05 ∷ 0x0d ∷ 0x02 ∷ 0x27 ∷ []) ∷ []) ≡ false ∷ true ∷ []
unfolding collects is_tracing starts_from starts_at_most class_of opcodes
collecting = refl

-- GDB's mask `10` for an argument in register 4, which the expression `end` does not read
a_note : register_notes (0x10 ∷ []) (0x27 ∷ []) false ≡ bytes_of "note: GDB wanted register 4 collected; it is not: reg 4, setv N, tracev N would collect it\n"
unfolding register_notes mask_notes notes_from wanted_note register_note is_wanted is_in_mask is_set reads_register reads_at starts_from starts_at_most class_of opcodes decimal decimal_by
a_note = refl

-- `reg 4` is read, as in a condition; in a collection it counts too
read : register_notes (0x10 ∷ []) (0x26 ∷ 0x00 ∷ 0x04 ∷ 0x27 ∷ []) false ≡ []
unfolding register_notes mask_notes notes_from wanted_note is_wanted is_in_mask is_set reads_register reads_at starts_from starts_at_most class_of opcodes
read = refl
