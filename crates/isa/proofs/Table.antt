-- Laws of the instruction table. A rule of the table is one computed test over the lines of `opcodes`.
use mathlib.Core.Bool.{Bool, true, false, cond, not, ◌&&◌, ◌||◌}
use mathlib.Core.List.{List, [], ◌∷◌}
use mathlib.Core.Path.{◌≡◌, refl, ap, sym, ◌∙◌}
use Prim.Native.Nat.{ℕ, zero, suc, ◌+◌, ◌≤◌, ◌<◌}
use native.Mathlib.Nat.{add-zero, zero-add, suc-add, add-suc, not-suc-le-zero, le_of_suc-le-suc}
use native.Mathlib.Omega.{arith}
use native.Mathlib.Decide.{ℕ_discrete, dec_lt}
use Rattle.std.specs.Prelude.{map}
use lib.ListN.{get_or, get_or-map}
use lib.Dec.{T, eqb, leb, ltb, eqb→eq, leb→le, ltb→lt}
use borrow.Author.Tests.{eq-eqb, ne_eqb}
use Rattle.logic.proofs.Promises.{and_left, and_right}
use Rattle.isa.specs.Classes.{Class, binary, trace, tracenz, unary, ref, trace_quick, ext, zero_ext_of, setv, if_goto, goto, constant, reg, getv, tracev, end, dup, pop, swap, pick, rot, unsupported, unknown, row, kind, opcodes, among, class_of, kind_unknown, kind_unsupported, kind_ext, kind_variable, kind_goto, kind_if_goto, kind_end, kind_pick}
use Rattle.logic.specs.Tests.{member}
use Rattle.isa.specs.Joining.Rows.{line, rows_from, table, line_of, IsRow}
use Rattle.isa.specs.declared.Row.{Row}

-- ---- what one test shows of every opcode
abbrev pub every_class : (Class → Bool) → List (List ℕ × Class) → Bool
every_class p [] = p unknown
every_class p (l ∷ ls) = p l.1 && every_class p ls

either : (p : Class → Bool) (b : Bool) (x y : Class) → T (p x) → T (p y) → T (p (cond b x y))
either p true x y s t = s
either p false x y s t = t

among_rule : (p : Class → Bool) (ls : List (List ℕ × Class)) → T (every_class p ls) → (op : ℕ) → T (p (among op ls))
among_rule p [] t op = t
among_rule p (l ∷ ls) t op =
    either p (member op l.0) l.1 (among op ls) (and_left (p l.1) (every_class p ls) t) (among_rule p ls (and_right (p l.1) (every_class p ls) t) op)

pub rule : (p : Class → Bool) → T (every_class p opcodes) → (op : ℕ) → T (p (class_of op))
unfolding class_of
rule p t op = among_rule p opcodes t op

-- ---- operand bytes by kind
abbrev implies : Bool → Bool → Bool
implies a b = not a || b

implied : (a b x y : ℕ) → a ≡ b → T (implies (eqb a b) (eqb x y)) → x ≡ y
implied a b x y h t = eqb→eq x y (rw (eq-eqb a b h) at t)

column_of : (j k n : ℕ) → T (every_class (λ c. implies (eqb (kind c) k) (eqb (get_or (row c) j 0) n)) opcodes)
    → (op : ℕ) → kind (class_of op) ≡ k → get_or (row (class_of op)) j 0 ≡ n
column_of j k n t op h = implied _ _ _ _ h (rule (λ c. implies (eqb (kind c) k) (eqb (get_or (row c) j 0) n)) t op)

pub operands_of : (k n : ℕ) → T (every_class (λ c. implies (eqb (kind c) k) (eqb (get_or (row c) 0 0) n)) opcodes)
    → (op : ℕ) → kind (class_of op) ≡ k → get_or (row (class_of op)) 0 0 ≡ n
operands_of = column_of 0

-- an opcode that is unknown or unsupported has no operand bytes
unknown_operands : (op : ℕ) → kind (class_of op) ≡ kind_unknown → get_or (row (class_of op)) 0 0 ≡ 0
unfolding opcodes
unknown_operands = operands_of kind_unknown 0 tt

unsupported_operands : (op : ℕ) → kind (class_of op) ≡ kind_unsupported → get_or (row (class_of op)) 0 0 ≡ 0
unfolding opcodes
unsupported_operands = operands_of kind_unsupported 0 tt

pub no_operands : (op : ℕ) → kind (class_of op) ≤ kind_unsupported → get_or (row (class_of op)) 0 0 ≡ 0
no_operands op h = elim (ℕ_discrete (kind (class_of op)) kind_unknown) [ yes p ↦ unknown_operands op p | no p ↦ unsupported_operands op (omega arith) ]

pub ext_operands : (op : ℕ) → kind (class_of op) ≡ kind_ext → get_or (row (class_of op)) 0 0 ≡ 1
unfolding opcodes
ext_operands = operands_of kind_ext 1 tt

pub variable_operands : (op : ℕ) → kind (class_of op) ≡ kind_variable → get_or (row (class_of op)) 0 0 ≡ 2
unfolding opcodes
variable_operands = operands_of kind_variable 2 tt

pub pick_operands : (op : ℕ) → kind (class_of op) ≡ kind_pick → get_or (row (class_of op)) 0 0 ≡ 1
unfolding opcodes
pick_operands = operands_of kind_pick 1 tt

goto_operands : (op : ℕ) → kind (class_of op) ≡ kind_goto → get_or (row (class_of op)) 0 0 ≡ 2
unfolding opcodes
goto_operands = operands_of kind_goto 2 tt

if_goto_operands : (op : ℕ) → kind (class_of op) ≡ kind_if_goto → get_or (row (class_of op)) 0 0 ≡ 2
unfolding opcodes
if_goto_operands = operands_of kind_if_goto 2 tt

pub jump_operands : (op : ℕ) → kind_goto ≤ kind (class_of op) → kind (class_of op) ≤ kind_if_goto → get_or (row (class_of op)) 0 0 ≡ 2
jump_operands op l h = elim (ℕ_discrete (kind (class_of op)) kind_goto) [ yes p ↦ goto_operands op p | no p ↦ if_goto_operands op (omega arith) ]

-- ---- cells needed and left by kind
pub pick_cells : (op : ℕ) → kind (class_of op) ≡ kind_pick → (get_or (row (class_of op)) 1 0 ≡ 1) × (get_or (row (class_of op)) 2 0 ≡ 2)
unfolding opcodes
pick_cells op h = (column_of 1 kind_pick 1 tt op h, column_of 2 kind_pick 2 tt op h)

pub goto_cells : (op : ℕ) → kind (class_of op) ≡ kind_goto → (get_or (row (class_of op)) 1 0 ≡ 0) × (get_or (row (class_of op)) 2 0 ≡ 0)
unfolding opcodes
goto_cells op h = (column_of 1 kind_goto 0 tt op h, column_of 2 kind_goto 0 tt op h)

pub if_goto_cells : (op : ℕ) → kind (class_of op) ≡ kind_if_goto → (get_or (row (class_of op)) 1 0 ≡ 1) × (get_or (row (class_of op)) 2 0 ≡ 0)
unfolding opcodes
if_goto_cells op h = (column_of 1 kind_if_goto 1 tt op h, column_of 2 kind_if_goto 0 tt op h)

pub end_cells : (op : ℕ) → kind (class_of op) ≡ kind_end → (get_or (row (class_of op)) 1 0 ≡ 0) × (get_or (row (class_of op)) 2 0 ≡ 0)
unfolding opcodes
end_cells op h = (column_of 1 kind_end 0 tt op h, column_of 2 kind_end 0 tt op h)

-- ---- bounds of a row
pub kind_most : (op : ℕ) → kind (class_of op) ≤ kind_end
unfolding opcodes
kind_most op = leb→le _ _ (rule (λ c. leb (kind c) kind_end) tt op)

pub operands_most : (op : ℕ) → get_or (row (class_of op)) 0 0 ≤ 8
unfolding opcodes
operands_most op = leb→le _ _ (rule (λ c. leb (get_or (row c) 0 0) 8) tt op)

pub needed_most : (op : ℕ) → get_or (row (class_of op)) 1 0 ≤ 3
unfolding opcodes
needed_most op = leb→le _ _ (rule (λ c. leb (get_or (row c) 1 0) 3) tt op)

pub left_most : (op : ℕ) → get_or (row (class_of op)) 2 0 ≤ 3
unfolding opcodes
left_most op = leb→le _ _ (rule (λ c. leb (get_or (row c) 2 0) 3) tt op)

-- the byte count inside a class, and 0 where it has none
abbrev inside : Class → ℕ
inside binary = 0
inside trace = 0
inside tracenz = 0
inside unary = 0
inside (ref n) = n
inside (trace_quick n) = n
inside ext = 0
inside zero_ext_of = 0
inside setv = 0
inside if_goto = 0
inside goto = 0
inside (constant n) = n
inside reg = 0
inside getv = 0
inside tracev = 0
inside end = 0
inside dup = 0
inside pop = 0
inside swap = 0
inside pick = 0
inside rot = 0
inside unsupported = 0
inside unknown = 0

-- a ref reads at most 8 bytes
pub ref_most : (op n : ℕ) → class_of op ≡ ref n → n ≤ 8
unfolding opcodes
ref_most op n p = rw p at (leb→le (inside (class_of op)) 8 (rule (λ c. leb (inside c) 8) tt op))

-- ---- the rows by opcode
rows_at : (d : List ℕ) (n i op : ℕ) → op < n → get_or (rows_from i n) op d ≡ line (class_of (i + op))
unfolding rows_from
rows_at d zero i op h = absurd (not-suc-le-zero h)
rows_at d (suc n) i zero h = ap (λ (x : ℕ). line (class_of x)) (sym (add-zero i))
rows_at d (suc n) i (suc op) h = rows_at d n (suc i) op (le_of_suc-le-suc h) ∙ ap (λ (x : ℕ). line (class_of x)) (suc-add i op ∙ sym (add-suc i op))

row_at : (d : List ℕ) (op : ℕ) → op < 53 → get_or table op d ≡ line (class_of op)
unfolding table
row_at d op h = rows_at d 53 0 op h ∙ ap (λ (x : ℕ). line (class_of x)) (zero-add op)

-- the code's rows, of which the table is made
pub is_row : (rs : List Row) (op : ℕ) (d : Row) → map line_of rs ≡ table → op < 53 → IsRow op (get_or rs op d)
is_row rs op d h l =
    let q : line_of (get_or rs op d) ≡ line (class_of op)
    = sym (get_or-map line_of rs op d) ∙ ap (λ (t : List (List ℕ)). get_or t op (line_of d)) h ∙ row_at (line_of d) op l in
    record {
      operands_is = ap (λ (t : List ℕ). get_or t 0 0) q;
      needed_is = ap (λ (t : List ℕ). get_or t 1 0) q;
      left_is = ap (λ (t : List ℕ). get_or t 2 0) q;
      kind_is = ap (λ (t : List ℕ). get_or t 3 0) q;
    }

-- ---- past the table every opcode is unknown
abbrev all_below : ℕ → List ℕ → Bool
all_below n [] = true
all_below n (x ∷ xs) = ltb x n && all_below n xs

abbrev opcodes_below : ℕ → List (List ℕ × Class) → Bool
opcodes_below n [] = true
opcodes_below n (l ∷ ls) = all_below n l.0 && opcodes_below n ls

member_high : (n op : ℕ) (xs : List ℕ) → T (all_below n xs) → n ≤ op → member op xs ≡ false
member_high n op [] t h = refl
member_high n op (x ∷ xs) t h =
    let l : x < n = ltb→lt x n (and_left (ltb x n) (all_below n xs) t) in
    rw (ne_eqb op x (omega arith)) (member_high n op xs (and_right (ltb x n) (all_below n xs) t) h)

among_high : (n op : ℕ) (ls : List (List ℕ × Class)) → T (opcodes_below n ls) → n ≤ op → among op ls ≡ unknown
among_high n op [] t h = refl
among_high n op (l ∷ ls) t h =
    rw (member_high n op l.0 (and_left (all_below n l.0) (opcodes_below n ls) t) h)
    (among_high n op ls (and_right (all_below n l.0) (opcodes_below n ls) t) h)

pub class_high : (op : ℕ) → 53 ≤ op → class_of op ≡ unknown
unfolding class_of opcodes
class_high op h = among_high 53 op opcodes tt h

-- a known opcode has a row
pub known_low : (op : ℕ) → kind_unknown < kind (class_of op) → op < 53
known_low op h = elim (dec_lt op 53) [ yes p ↦ p | no p ↦ absurd (omega (arith, ap kind (class_high op (omega arith)))) ]
