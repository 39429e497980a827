-- The instructions by class. A class is a set of opcodes of one line of document 01's table that are alike in meaning,
-- with the byte count inside where several opcodes differ in that alone: const8 to const64 are `constant 1` to
-- `constant 8`.
use Rattle.std.specs.Prelude.{cond, List, [], ◌∷◌, ℕ}
use Rattle.logic.specs.Tests.{member}

pub data Class : Type 0 where
  binary : Class
  trace : Class
  tracenz : Class
  unary : Class
  ref : ℕ → Class
  trace_quick : ℕ → Class
  ext : Class
  zero_ext_of : Class
  setv : Class
  if_goto : Class
  goto : Class
  constant : ℕ → Class
  reg : Class
  getv : Class
  tracev : Class
  end : Class
  dup : Class
  pop : Class
  swap : Class
  pick : Class
  rot : Class
  unsupported : Class
  unknown : Class

-- The row of a class: operand bytes, cells needed, cells left in their place. That of pick is for N = 0: N comes on top
-- of both.
abbrev pub row : Class → List ℕ
row binary = 0 ∷ 2 ∷ 1 ∷ []
row trace = 0 ∷ 2 ∷ 0 ∷ []
row tracenz = 0 ∷ 2 ∷ 0 ∷ []
row unary = 0 ∷ 1 ∷ 1 ∷ []
row (ref n) = 0 ∷ 1 ∷ 1 ∷ []
row (trace_quick n) = n ∷ 1 ∷ 1 ∷ []
row ext = 1 ∷ 1 ∷ 1 ∷ []
row zero_ext_of = 1 ∷ 1 ∷ 1 ∷ []
row setv = 2 ∷ 1 ∷ 1 ∷ []
row if_goto = 2 ∷ 1 ∷ 0 ∷ []
row goto = 2 ∷ 0 ∷ 0 ∷ []
row (constant n) = n ∷ 0 ∷ 1 ∷ []
row reg = 2 ∷ 0 ∷ 1 ∷ []
row getv = 2 ∷ 0 ∷ 1 ∷ []
row tracev = 2 ∷ 0 ∷ 1 ∷ []
row end = 0 ∷ 0 ∷ 0 ∷ []
row dup = 0 ∷ 1 ∷ 2 ∷ []
row pop = 0 ∷ 1 ∷ 0 ∷ []
row swap = 0 ∷ 2 ∷ 2 ∷ []
row pick = 1 ∷ 1 ∷ 2 ∷ []
row rot = 0 ∷ 3 ∷ 3 ∷ []
row unsupported = 0 ∷ 0 ∷ 0 ∷ []
row unknown = 0 ∷ 0 ∷ 0 ∷ []

-- The kind of a class: which rule of the verifier singles it out, as a number. Those below `kind_plain` have a rule in
-- pass 1, those above it in passes 2 and 3; `plain` is every other supported instruction.
abbrev pub kind_unknown : ℕ
kind_unknown = 0

abbrev pub kind_unsupported : ℕ
kind_unsupported = 1

abbrev pub kind_ext : ℕ
kind_ext = 2

-- getv, setv, tracev
abbrev pub kind_variable : ℕ
kind_variable = 3

abbrev pub kind_plain : ℕ
kind_plain = 4

abbrev pub kind_pick : ℕ
kind_pick = 5

abbrev pub kind_goto : ℕ
kind_goto = 6

abbrev pub kind_if_goto : ℕ
kind_if_goto = 7

abbrev pub kind_end : ℕ
kind_end = 8

abbrev pub kind : Class → ℕ
kind binary = kind_plain
kind trace = kind_plain
kind tracenz = kind_plain
kind unary = kind_plain
kind (ref n) = kind_plain
kind (trace_quick n) = kind_plain
kind ext = kind_ext
kind zero_ext_of = kind_plain
kind setv = kind_variable
kind if_goto = kind_if_goto
kind goto = kind_goto
kind (constant n) = kind_plain
kind reg = kind_plain
kind getv = kind_variable
kind tracev = kind_variable
kind end = kind_end
kind dup = kind_plain
kind pop = kind_plain
kind swap = kind_plain
kind pick = kind_pick
kind rot = kind_plain
kind unsupported = kind_unsupported
kind unknown = kind_unknown

-- The opcodes of each class.
unfoldable pub opcodes : List (List ℕ × Class)
opcodes =
    (0x02 ∷ 0x03 ∷ 0x04 ∷ 0x05 ∷ 0x06 ∷ 0x07 ∷ 0x08 ∷ 0x09 ∷ 0x0a ∷ 0x0b ∷ 0x0f ∷ 0x10 ∷ 0x11 ∷ 0x13 ∷ 0x14 ∷ 0x15 ∷ [], binary)
    ∷ (0x0c ∷ [], trace)
    ∷ (0x2f ∷ [], tracenz)
    ∷ (0x0e ∷ 0x12 ∷ [], unary)
    ∷ (0x17 ∷ [], ref 1) ∷ (0x18 ∷ [], ref 2) ∷ (0x19 ∷ [], ref 4) ∷ (0x1a ∷ [], ref 8)
    ∷ (0x0d ∷ [], trace_quick 1) ∷ (0x30 ∷ [], trace_quick 2)
    ∷ (0x16 ∷ [], ext)
    ∷ (0x2a ∷ [], zero_ext_of)
    ∷ (0x2d ∷ [], setv)
    ∷ (0x20 ∷ [], if_goto)
    ∷ (0x21 ∷ [], goto)
    ∷ (0x22 ∷ [], constant 1) ∷ (0x23 ∷ [], constant 2) ∷ (0x24 ∷ [], constant 4) ∷ (0x25 ∷ [], constant 8)
    ∷ (0x26 ∷ [], reg)
    ∷ (0x2c ∷ [], getv)
    ∷ (0x2e ∷ [], tracev)
    ∷ (0x27 ∷ [], end)
    ∷ (0x28 ∷ [], dup)
    ∷ (0x29 ∷ [], pop)
    ∷ (0x2b ∷ [], swap)
    ∷ (0x32 ∷ [], pick)
    ∷ (0x33 ∷ [], rot)
    ∷ (0x01 ∷ 0x1b ∷ 0x1c ∷ 0x1d ∷ 0x1e ∷ 0x1f ∷ 0x34 ∷ [], unsupported)
    ∷ []

-- the class of the first line that has the opcode; "Every other byte, 00 and 31 included, is unknown."
abbrev pub among : ℕ → List (List ℕ × Class) → Class
among op [] = unknown
among op (l ∷ ls) = cond (member op l.0) l.1 (among op ls)

unfoldable pub class_of : ℕ → Class
class_of op = among op opcodes
