-- The notes, as text.
use Rattle.std.specs.Prelude.{ℕ, zero, suc, ◌+◌, ◌*◌, Bool, cond, List, [], ◌++◌, length, take}
use Rattle.text_buffer.specs.Text.{bytes_of}
use Rattle.text_buffer.specs.Decimal.{decimal}
use Rattle.phrases.specs.Numbers.{hex_text}
use Rattle.collection_notes.specs.Collection.{is_wanted}

unfoldable pub register_note : ℕ → List ℕ
register_note r =
    bytes_of "note: GDB wanted register " ++ decimal r ++ bytes_of " collected; it is not: reg " ++ decimal r ++ bytes_of ", setv N, tracev N would collect it\n"

-- of a register that is wanted; nothing of another
unfoldable pub wanted_note : List ℕ → List ℕ → Bool → ℕ → List ℕ
wanted_note m e a r = cond (is_wanted m e a r) (register_note r) []

-- of the n registers from r on
unfoldable pub notes_from : List ℕ → List ℕ → Bool → ℕ → ℕ → List ℕ
notes_from m e a zero r = []
notes_from m e a (suc n) r = wanted_note m e a r ++ notes_from m e a n (r + 1)

-- of all registers that the mask m has a bit for
unfoldable pub mask_notes : List ℕ → List ℕ → Bool → List ℕ
mask_notes m e a = notes_from m e a (8 * length m) 0

-- `reg` has 16 bits for a register's number: 8,192 bytes of a mask are enough
unfoldable pub register_notes : List ℕ → List ℕ → Bool → List ℕ
register_notes m e a = mask_notes (take 8192 m) e a

unfoldable pub nothing_note : List ℕ
nothing_note = bytes_of "note: collects nothing: no instruction of it is a trace, trace_quick, trace16, tracenz or tracev\n"

-- `Scope: 0x0000000000001136`
unfoldable pub scope_text : ℕ → List ℕ
scope_text a = bytes_of "Scope: 0x" ++ hex_text a ++ bytes_of "\n"
