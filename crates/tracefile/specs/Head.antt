-- The first part of GDB's trace file: lines of text, up to an empty one (the GDB manual, "Trace File Format").
use Rattle.std.specs.Prelude.{ℕ, ◌+◌, List, [], ◌∷◌, ◌++◌}
use Rattle.hexadecimal.specs.Hex.{hex_of}
use Rattle.text_buffer.specs.Text.{bytes_of}
use Rattle.text_buffer.specs.Decimal.{decimal}
use Rattle.phrases.specs.Numbers.{hex_text}

-- the mark of the file; the size of a block of registers, which no frame has; and the state: stopped for an unknown
-- reason, since none is recorded, and the number of frames. No line defines a tracepoint: where GDB has one, it shows its
-- address as the program counter of the frames, and none is recorded.
unfoldable pub start_text : ℕ → List ℕ
start_text frames =
    (0x7f ∷ []) ++ bytes_of "TRACE0\nR 1\nstatus 0;tunknown:0;tframes:" ++ hex_text frames ++ bytes_of ":tcreated:" ++ hex_text frames ++ bytes_of "\n"

unfoldable pub name_text : ℕ → List ℕ
name_text number = bytes_of "v" ++ decimal number

-- a variable: its number in the file is one higher, since GDB cannot reach a variable 0; its name is v and its own
-- number
unfoldable pub variable_text : ℕ → List ℕ
variable_text number = bytes_of "tsv " ++ hex_text (number + 1) ++ bytes_of ":0:0:" ++ hex_of (name_text number) ++ bytes_of "\n"

-- the architecture, for addresses of 64 bits, and the empty line
unfoldable pub target_text : List ℕ
target_text = bytes_of "tdesc <?xml version='1.0'?>" ++ bytes_of "<target><architecture>i386:x86-64</architecture></target>\n\n"
