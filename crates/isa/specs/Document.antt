-- Document 01, "The instruction table", line by line, and that the classes say the same of all 256 bytes.
use Rattle.std.specs.Prelude.{cond, List, [], ◌∷◌, ◌++◌, map, ◌≡◌, refl, ℕ, zero, suc, eqb}
use Rattle.isa.specs.Classes.{Class, binary, trace, tracenz, unary, ref, trace_quick, ext, zero_ext_of, setv, if_goto, goto, constant, reg, getv, tracev, end, dup, pop, swap, pick, rot, unsupported, unknown, row, kind, kind_unknown, kind_unsupported, kind_ext, kind_variable, kind_plain, kind_pick, kind_goto, kind_if_goto, kind_end, opcodes, class_of}
use Rattle.logic.specs.Tests.{member}

-- opcodes of one class
abbrev each : List ℕ → Class → List (ℕ × Class)
each ops c = map (λ (op : ℕ). (op, c)) ops

-- A line of the table: its instructions, each an opcode with the class that its name belongs to; and their row: operand
-- bytes, cells needed, cells left in their place (of pick for N = 0).
unfoldable pub document : List (List (ℕ × Class) × List ℕ)
document =
    -- 02 add .. 0b rsh_unsigned, 0f bit_and, 10 bit_or, 11 bit_xor, 13 equal, 14 less_signed, 15 less_unsigned
    (each (0x02 ∷ 0x03 ∷ 0x04 ∷ 0x05 ∷ 0x06 ∷ 0x07 ∷ 0x08 ∷ 0x09 ∷ 0x0a ∷ 0x0b ∷ 0x0f ∷ 0x10 ∷ 0x11 ∷ 0x13 ∷ 0x14 ∷ 0x15 ∷ []) binary, 0 ∷ 2 ∷ 1 ∷ [])
    -- 0c trace, 2f tracenz
    ∷ ((0x0c, trace) ∷ (0x2f, tracenz) ∷ [], 0 ∷ 2 ∷ 0 ∷ [])
    -- 0e log_not, 12 bit_not, 17–1a ref8 to ref64
    ∷ (each (0x0e ∷ 0x12 ∷ []) unary ++ ((0x17, ref 1) ∷ (0x18, ref 2) ∷ (0x19, ref 4) ∷ (0x1a, ref 8) ∷ []), 0 ∷ 1 ∷ 1 ∷ [])
    -- 0d trace_quick, 16 ext, 2a zero_ext
    ∷ ((0x0d, trace_quick 1) ∷ (0x16, ext) ∷ (0x2a, zero_ext_of) ∷ [], 1 ∷ 1 ∷ 1 ∷ [])
    -- 30 trace16, 2d setv
    ∷ ((0x30, trace_quick 2) ∷ (0x2d, setv) ∷ [], 2 ∷ 1 ∷ 1 ∷ [])
    -- 20 if_goto; 21 goto
    ∷ ((0x20, if_goto) ∷ [], 2 ∷ 1 ∷ 0 ∷ [])
    ∷ ((0x21, goto) ∷ [], 2 ∷ 0 ∷ 0 ∷ [])
    -- 22, 23, 24, 25 const8 to const64
    ∷ ((0x22, constant 1) ∷ [], 1 ∷ 0 ∷ 1 ∷ [])
    ∷ ((0x23, constant 2) ∷ [], 2 ∷ 0 ∷ 1 ∷ [])
    ∷ ((0x24, constant 4) ∷ [], 4 ∷ 0 ∷ 1 ∷ [])
    ∷ ((0x25, constant 8) ∷ [], 8 ∷ 0 ∷ 1 ∷ [])
    -- 26 reg, 2c getv, 2e tracev
    ∷ ((0x26, reg) ∷ (0x2c, getv) ∷ (0x2e, tracev) ∷ [], 2 ∷ 0 ∷ 1 ∷ [])
    -- 27 end; 28 dup; 29 pop; 2b swap; 32 pick N; 33 rot
    ∷ ((0x27, end) ∷ [], 0 ∷ 0 ∷ 0 ∷ [])
    ∷ ((0x28, dup) ∷ [], 0 ∷ 1 ∷ 2 ∷ [])
    ∷ ((0x29, pop) ∷ [], 0 ∷ 1 ∷ 0 ∷ [])
    ∷ ((0x2b, swap) ∷ [], 0 ∷ 2 ∷ 2 ∷ [])
    ∷ ((0x32, pick) ∷ [], 1 ∷ 1 ∷ 2 ∷ [])
    ∷ ((0x33, rot) ∷ [], 0 ∷ 3 ∷ 3 ∷ [])
    ∷ []

-- "01, 1b–1f and 34 are known but unsupported."
unfoldable pub unsupported_opcodes : List ℕ
unsupported_opcodes = 0x01 ∷ 0x1b ∷ 0x1c ∷ 0x1d ∷ 0x1e ∷ 0x1f ∷ 0x34 ∷ []

-- The instructions that a rule of "Verifying" singles out: "ext 0 or variable above 63", "pick N", the jumps, and
-- "after end nothing".
unfoldable pub singled : List (List ℕ × ℕ)
singled =
    (0x16 ∷ [], kind_ext)
    ∷ (0x2c ∷ 0x2d ∷ 0x2e ∷ [], kind_variable)
    ∷ (0x32 ∷ [], kind_pick)
    ∷ (0x21 ∷ [], kind_goto)
    ∷ (0x20 ∷ [], kind_if_goto)
    ∷ (0x27 ∷ [], kind_end)
    ∷ []

abbrev rule_of : ℕ → List (List ℕ × ℕ) → ℕ
rule_of op [] = kind_plain
rule_of op (l ∷ ls) = cond (member op l.0) l.1 (rule_of op ls)

-- What is said of an opcode: class, row and kind. "Every other byte, 00 and 31 included, is unknown."
abbrev Said : Type 0
Said = Class × List ℕ × ℕ

abbrev said_or : ℕ → List (ℕ × Class) → List ℕ → Said → Said
said_or op [] r d = d
said_or op (i ∷ is) r d = cond (eqb op i.0) (i.1, r, rule_of op singled) (said_or op is r d)

abbrev pub says_of : ℕ → List (List (ℕ × Class) × List ℕ) → Said
says_of op [] = cond (member op unsupported_opcodes) (unsupported, row unsupported, kind_unsupported) (unknown, row unknown, kind_unknown)
says_of op (l ∷ ls) = said_or op l.0 l.1 (says_of op ls)

abbrev pub below : ℕ → List ℕ
below zero = []
below (suc n) = n ∷ below n

-- the table and the classes agree on every byte
pub agrees : map (λ (op : ℕ). says_of op document) (below 256) ≡ map (λ (op : ℕ). (class_of op, row (class_of op), kind (class_of op))) (below 256)
unfolding document unsupported_opcodes singled opcodes class_of
agrees = refl
