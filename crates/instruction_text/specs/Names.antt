-- The names of the instructions, as the GDB manual writes them ("Bytecode Descriptions"; document 01, "The instruction
-- table").
use Rattle.std.specs.Prelude.{ℕ, List, [], ◌∷◌, get_or}
use Prim.Native.String.{String}
use Rattle.text_buffer.specs.Text.{bytes_of}
use Rattle.line_words.specs.Words.{place_from}

-- by opcode from 00 to 34, the unsupported ones among them; an unknown opcode has none
unfoldable pub names : List String
names =
    "" ∷ "float" ∷ "add" ∷ "sub" ∷ "mul" ∷ "div_signed" ∷ "div_unsigned" ∷ "rem_signed" ∷
    "rem_unsigned" ∷ "lsh" ∷ "rsh_signed" ∷ "rsh_unsigned" ∷ "trace" ∷ "trace_quick" ∷ "log_not" ∷ "bit_and" ∷
    "bit_or" ∷ "bit_xor" ∷ "bit_not" ∷ "equal" ∷ "less_signed" ∷ "less_unsigned" ∷ "ext" ∷ "ref8" ∷
    "ref16" ∷ "ref32" ∷ "ref64" ∷ "ref_float" ∷ "ref_double" ∷ "ref_long_double" ∷ "l_to_d" ∷ "d_to_l" ∷
    "if_goto" ∷ "goto" ∷ "const8" ∷ "const16" ∷ "const32" ∷ "const64" ∷ "reg" ∷ "end" ∷
    "dup" ∷ "pop" ∷ "zero_ext" ∷ "swap" ∷ "getv" ∷ "setv" ∷ "tracev" ∷ "tracenz" ∷
    "trace16" ∷ "" ∷ "pick" ∷ "rot" ∷ "printf" ∷ []

unfoldable pub name_of : ℕ → List ℕ
name_of op = bytes_of (get_or names op "")

-- the opcode whose name is w, or 53
unfoldable pub opcode_of : List ℕ → ℕ
opcode_of w = place_from 0 names w
