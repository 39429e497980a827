-- The instruction at an offset of an expression e, a list of bytes.
use Rattle.std.specs.Prelude.{Bool, cond, not, ◌&&◌, List, ℕ, ◌+◌, ◌-◌, get_or, eqb, leb}
use Rattle.encoding.specs.BigEndian.{big_endian}
use Rattle.isa.specs.Classes.{Class, class_of, row, kind, kind_goto, kind_if_goto, kind_end, kind_pick}

abbrev pub class_at : List ℕ → ℕ → Class
class_at e k = class_of (get_or e k 0)

abbrev pub kind_at : List ℕ → ℕ → ℕ
kind_at e k = kind (class_at e k)

abbrev pub operand_bytes : List ℕ → ℕ → ℕ
operand_bytes e k = get_or (row (class_at e k)) 0 0

-- the offset of the next instruction
abbrev pub next : List ℕ → ℕ → ℕ
next e k = k + 1 + operand_bytes e k

-- the operand: the operand bytes, most significant first
unfoldable pub operand : List ℕ → ℕ → ℕ
operand e k = big_endian e (k + 1) (operand_bytes e k)

-- the N of pick N, which comes on top of its row; 0 for every other instruction
unfoldable pub picked : List ℕ → ℕ → ℕ
picked e k = cond (eqb (kind_at e k) kind_pick) (operand e k) 0

-- cells needed, and cells left in their place
unfoldable pub needed : List ℕ → ℕ → ℕ
needed e k = get_or (row (class_at e k)) 1 0 + picked e k

unfoldable pub left : List ℕ → ℕ → ℕ
left e k = get_or (row (class_at e k)) 2 0 + picked e k

-- the height after the instruction at k, reached with height h
unfoldable pub height_after : List ℕ → ℕ → ℕ → ℕ
height_after e k h = h - needed e k + left e k

-- goto and if_goto
abbrev pub is_jump : ℕ → Bool
is_jump kind = leb kind_goto kind && leb kind kind_if_goto

abbrev pub jumps : List ℕ → ℕ → Bool
jumps e k = is_jump (kind_at e k)

-- the next start may follow: every instruction but goto and end
abbrev pub goes_on : ℕ → Bool
goes_on kind = not (eqb kind kind_goto) && not (eqb kind kind_end)

abbrev pub continues : List ℕ → ℕ → Bool
continues e k = goes_on (kind_at e k)
