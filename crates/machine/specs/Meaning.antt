-- One instruction: "its meaning from the table, the rules above and the manual" (document 01, "Running").
use Rattle.std.specs.Prelude.{Bool, true, false, cond, not, ◌&&◌, List, [], ◌∷◌, ◌++◌, ℕ, ◌+◌, length, get_or, take, drop, set, leb, ltb, eqb}
use Rattle.encoding.specs.LittleEndian.{little_endian}
use Rattle.refusals.specs.Numbers.{opcode_unknown, opcode_unsupported, divisor_zero, register_not_lent, range_not_readable, buffer_full}
use Rattle.isa.specs.Classes.{Class, binary, trace, tracenz, unary, ref, trace_quick, ext, zero_ext_of, setv, if_goto, goto, constant, reg, getv, tracev, end, dup, pop, swap, pick, rot, unsupported, unknown, kind_goto, kind_if_goto}
use Rattle.isa.specs.Decode.{class_at, kind_at, next, operand, needed}
use Rattle.arithmetic.specs.Words.{ext as extended, zero_ext as zero_extended}
use Rattle.memory.specs.Spans.{Target}
use Rattle.memory.specs.Fetch.{readable, fetched}
use Rattle.frames.specs.Record.{Record, variable}
use Rattle.frames.specs.Trailer.{trailer_size}
use Rattle.machine.specs.Given.{Fixed}
use Rattle.machine.specs.Words.{binary_word, zero_divisor, unary_word}
use Rattle.machine.specs.Recording.{Made, made, refuses, fitting, range_made, to_zero_made}

-- the cells left and the records made, or a refusal
pub data Done : Type 0 where
  leaves : List ℕ → List Record → Done
  faults : ℕ → Done

-- cells left, where the records were made
abbrev pub recording : List ℕ → Made → Done
recording cells (made rs) = leaves cells rs
recording cells (refuses n) = faults n

-- ---- what the instruction does, by class. s is the stack, top first, v are the variables, t is the target, free the
-- number of free bytes, op the opcode and n the operand. The stack lines are the manual's.
-- 17: "divisor zero"
unfoldable pub binary_done : ℕ → List ℕ → Done
binary_done op s = cond (zero_divisor op (get_or s 0 0)) (faults divisor_zero) (leaves (binary_word op (get_or s 1 0) (get_or s 0 0) ∷ []) [])

-- "addr size ⇒"
abbrev pub trace_done : Target → ℕ → List ℕ → Done
trace_done t free s = recording [] (range_made t free (get_or s 1 0) (get_or s 0 0))

abbrev pub tracenz_done : Target → ℕ → List ℕ → Done
tracenz_done t free s = recording [] (to_zero_made t free (get_or s 1 0) (get_or s 0 0))

abbrev pub unary_done : ℕ → List ℕ → Done
unary_done op s = leaves (unary_word op (get_or s 0 0) ∷ []) []

-- document 01: "ref reads little-endian"
unfoldable pub ref_done : Target → ℕ → List ℕ → Done
ref_done t k s = cond (readable t (get_or s 0 0) k) (leaves (little_endian (fetched t (get_or s 0 0) k) ∷ []) []) (faults range_not_readable)

-- "addr ⇒ addr": trace_quick and trace16
abbrev pub trace_quick_done : Target → ℕ → ℕ → List ℕ → Done
trace_quick_done t free n s = recording (get_or s 0 0 ∷ []) (range_made t free (get_or s 0 0) n)

-- "a ⇒ a, sign-extended from n bits"
abbrev pub ext_done : ℕ → List ℕ → Done
ext_done n s = leaves (extended (get_or s 0 0) n ∷ []) []

-- "a ⇒ a, zero-extended from n bits"
abbrev pub zero_ext_done : ℕ → List ℕ → Done
zero_ext_done n s = leaves (zero_extended (get_or s 0 0) n ∷ []) []

-- "v ⇒ v"; the variable is set by `variables_after`
abbrev pub setv_done : List ℕ → Done
setv_done s = leaves (get_or s 0 0 ∷ []) []

-- if_goto, goto and pop leave nothing in the place of the cells needed; where a jump goes is `offset_after`
abbrev pub nothing_left : Done
nothing_left = leaves [] []

-- "⇒ n"
abbrev pub constant_done : ℕ → Done
constant_done n = leaves (n ∷ []) []

-- 18: "register number not lent"
unfoldable pub reg_done : List ℕ → ℕ → Done
reg_done registers n = cond (ltb n (length registers)) (leaves (get_or registers n 0 ∷ []) []) (faults register_not_lent)

-- "⇒ v"
abbrev pub getv_done : List ℕ → ℕ → Done
getv_done v n = leaves (get_or v n 0 ∷ []) []

-- document 01: "tracev records and pushes the value, as its stack line says"
abbrev pub tracev_done : List ℕ → ℕ → ℕ → Done
tracev_done v free n = recording (get_or v n 0 ∷ []) (fitting free (variable n (get_or v n 0)))

-- document 01: "After end, which needs room for the trailer (21), it stops, completed."
unfoldable pub end_done : ℕ → Done
end_done free = cond (leb trailer_size free) (leaves [] []) (faults buffer_full)

-- "a ⇒ a a"
abbrev pub dup_done : List ℕ → Done
dup_done s = leaves (get_or s 0 0 ∷ get_or s 0 0 ∷ []) []

-- "a b ⇒ b a"
abbrev pub swap_done : List ℕ → Done
swap_done s = leaves (get_or s 1 0 ∷ get_or s 0 0 ∷ []) []

-- "a … b ⇒ a … b a"; "if n is zero, this is the same as dup; if n is one, it copies the item under the top item, etc."
abbrev pub pick_done : ℕ → List ℕ → Done
pick_done n s = leaves (get_or s n 0 ∷ take (n + 1) s) []

-- document 01: "rot takes a b c to c a b, with b on top"
abbrev pub rot_done : List ℕ → Done
rot_done s = leaves (get_or s 1 0 ∷ get_or s 2 0 ∷ get_or s 0 0 ∷ []) []

-- ---- every class
abbrev pub meaning : Fixed → List ℕ → List ℕ → ℕ → ℕ → ℕ → Class → Done
meaning m s v free op n binary = binary_done op s
meaning m s v free op n trace = trace_done m.target free s
meaning m s v free op n tracenz = tracenz_done m.target free s
meaning m s v free op n unary = unary_done op s
meaning m s v free op n (ref k) = ref_done m.target k s
meaning m s v free op n (trace_quick k) = trace_quick_done m.target free n s
meaning m s v free op n ext = ext_done n s
meaning m s v free op n zero_ext_of = zero_ext_done n s
meaning m s v free op n setv = setv_done s
meaning m s v free op n if_goto = nothing_left
meaning m s v free op n goto = nothing_left
meaning m s v free op n (constant k) = constant_done n
meaning m s v free op n reg = reg_done m.registers n
meaning m s v free op n getv = getv_done v n
meaning m s v free op n tracev = tracev_done v free n
meaning m s v free op n end = end_done free
meaning m s v free op n dup = dup_done s
meaning m s v free op n pop = nothing_left
meaning m s v free op n swap = swap_done s
meaning m s v free op n pick = pick_done n s
meaning m s v free op n rot = rot_done s
-- no accepted expression has these
meaning m s v free op n unsupported = faults opcode_unsupported
meaning m s v free op n unknown = faults opcode_unknown

-- the instruction at the offset k
unfoldable pub done : Fixed → ℕ → List ℕ → List ℕ → ℕ → Done
done m k s v free = meaning m s v free (get_or m.expression k 0) (operand m.expression k) (class_at m.expression k)

-- "the cells left replace the cells needed"
unfoldable pub stack_after : List ℕ → ℕ → List ℕ → List ℕ → List ℕ
stack_after e k s cells = cells ++ drop (needed e k) s

-- setv, the one class that sets a variable
abbrev pub is_setv : Class → Bool
is_setv binary = false
is_setv trace = false
is_setv tracenz = false
is_setv unary = false
is_setv (ref k) = false
is_setv (trace_quick k) = false
is_setv ext = false
is_setv zero_ext_of = false
is_setv setv = true
is_setv if_goto = false
is_setv goto = false
is_setv (constant k) = false
is_setv reg = false
is_setv getv = false
is_setv tracev = false
is_setv end = false
is_setv dup = false
is_setv pop = false
is_setv swap = false
is_setv pick = false
is_setv rot = false
is_setv unsupported = false
is_setv unknown = false

-- "setv sets its variable"
unfoldable pub variables_after : List ℕ → ℕ → List ℕ → List ℕ → List ℕ
variables_after e k s v = cond (is_setv (class_at e k)) (set v (operand e k) (get_or s 0 0)) v

-- "The offset becomes the target after goto, and after if_goto if the cell it took is not 0; else the next start."
unfoldable pub offset_after : List ℕ → ℕ → List ℕ → ℕ
offset_after e k s =
    cond (eqb (kind_at e k) kind_goto) (operand e k)
    (cond (eqb (kind_at e k) kind_if_goto && not (eqb (get_or s 0 0) 0)) (operand e k) (next e k))
