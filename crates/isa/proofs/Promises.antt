-- What users of `isa` may cite, each law stated in full and proved where it is named. The contracts of src/lib.rt are
-- the rest. That the classes say of all 256 bytes what document 01's table says is `agrees`, in specs/Document.antt.
use mathlib.Core.Bool.{true, false, cond}
use mathlib.Core.List.{List, [], ◌∷◌, ◌++◌}
use mathlib.Core.Path.{◌≡◌}
use mathlib.Core.Logic.{◌≢◌}
use Prim.Native.Nat.{ℕ, ◌+◌, ◌-◌, ◌≤◌, ◌<◌}
use lib.ListN.{length, get_or, drop}
use lib.Dec.{eqb}
use denote.Enum.Bare.{sameb}
use Rattle.isa.specs.Classes.{Class, ref, class_of, row, kind, kind_unknown, kind_unsupported, kind_ext, kind_variable, kind_pick, kind_goto, kind_if_goto, kind_end}
use Rattle.isa.specs.Decode.{class_at, kind_at, operand_bytes, next, operand, picked, needed, left, height_after}
use Rattle.isa.specs.Starts.{starts_from, is_start}
use Rattle.isa.specs.declared.Kind.{Kind}
use Rattle.isa.specs.contracts.Kind.{the_type}
use Rattle.isa.specs.Joining.Rows.{kind_of}
use Rattle.isa.specs.Joining.Held.{held}
use Rattle.isa.specs.Walk.{After, Walk, weigh, one}
use Rattle.isa.proofs.Numbering as numbering
use Rattle.isa.proofs.Table as table
use Rattle.isa.proofs.Decoding as decoding
use Rattle.isa.proofs.Following as following
use Rattle.isa.proofs.Walking as walking
use Rattle.isa.proofs.Holding as holding

-- ---- kinds: no two have one number; what a test of two kinds says of their numbers
pub one_kind : (k j : Kind) → kind_of k ≡ kind_of j → k ≡ j
one_kind = numbering.one_kind

pub kind_same : (k j : Kind) → true ≡ sameb the_type k j → kind_of k ≡ kind_of j
kind_same = numbering.kind_same

pub kind_other : (k j : Kind) → false ≡ sameb the_type k j → kind_of k ≢ kind_of j
kind_other = numbering.kind_other

-- ---- the table: operand bytes by kind, and which opcodes have a row
pub no_operands : (op : ℕ) → kind (class_of op) ≤ kind_unsupported → get_or (row (class_of op)) 0 0 ≡ 0
no_operands = table.no_operands

pub ext_operands : (op : ℕ) → kind (class_of op) ≡ kind_ext → get_or (row (class_of op)) 0 0 ≡ 1
ext_operands = table.ext_operands

pub variable_operands : (op : ℕ) → kind (class_of op) ≡ kind_variable → get_or (row (class_of op)) 0 0 ≡ 2
variable_operands = table.variable_operands

pub jump_operands : (op : ℕ) → kind_goto ≤ kind (class_of op) → kind (class_of op) ≤ kind_if_goto → get_or (row (class_of op)) 0 0 ≡ 2
jump_operands = table.jump_operands

pub pick_operands : (op : ℕ) → kind (class_of op) ≡ kind_pick → get_or (row (class_of op)) 0 0 ≡ 1
pick_operands = table.pick_operands

pub known_low : (op : ℕ) → kind_unknown < kind (class_of op) → op < 53
known_low = table.known_low

pub kind_most : (op : ℕ) → kind (class_of op) ≤ kind_end
kind_most = table.kind_most

-- cells needed and left by kind
pub pick_cells : (op : ℕ) → kind (class_of op) ≡ kind_pick → (get_or (row (class_of op)) 1 0 ≡ 1) × (get_or (row (class_of op)) 2 0 ≡ 2)
pick_cells = table.pick_cells

pub goto_cells : (op : ℕ) → kind (class_of op) ≡ kind_goto → (get_or (row (class_of op)) 1 0 ≡ 0) × (get_or (row (class_of op)) 2 0 ≡ 0)
goto_cells = table.goto_cells

pub if_goto_cells : (op : ℕ) → kind (class_of op) ≡ kind_if_goto → (get_or (row (class_of op)) 1 0 ≡ 1) × (get_or (row (class_of op)) 2 0 ≡ 0)
if_goto_cells = table.if_goto_cells

pub end_cells : (op : ℕ) → kind (class_of op) ≡ kind_end → (get_or (row (class_of op)) 1 0 ≡ 0) × (get_or (row (class_of op)) 2 0 ≡ 0)
end_cells = table.end_cells

-- at most 8 bytes are an operand, and at most 8 are read by a ref
pub operands_most : (op : ℕ) → get_or (row (class_of op)) 0 0 ≤ 8
operands_most = table.operands_most

pub ref_most : (op n : ℕ) → class_of op ≡ ref n → n ≤ 8
ref_most = table.ref_most

-- ---- cells: from a row and the N of pick N as the code has them
module _ (e : List ℕ) (k : ℕ) where
  pub picked_pick : (x : ℕ) → x ≡ operand e k → kind_at e k ≡ kind_pick → x ≡ picked e k
  picked_pick = decoding.picked_pick e k

  pub needed_by : (n p : ℕ) → n ≡ get_or (row (class_of (get_or e k 0))) 1 0 → p ≡ picked e k → n + p ≡ needed e k
  needed_by = decoding.needed_by e k

  pub left_by : (n p : ℕ) → n ≡ get_or (row (class_of (get_or e k 0))) 2 0 → p ≡ picked e k → n + p ≡ left e k
  left_by = decoding.left_by e k

  pub needed_row : (n : ℕ) → n ≡ get_or (row (class_of (get_or e k 0))) 1 0 → kind_at e k ≢ kind_pick → n ≡ needed e k
  needed_row = decoding.needed_row e k

  pub left_row : (n : ℕ) → n ≡ get_or (row (class_of (get_or e k 0))) 2 0 → kind_at e k ≢ kind_pick → n ≡ left e k
  left_row = decoding.left_row e k

  pub after_by : (h n m : ℕ) → n ≡ needed e k → m ≡ left e k → h - n + m ≡ height_after e k h
  after_by = decoding.after_by e k

  -- the same by the class of the instruction
  module _ (c : Class) (p : class_at e k ≡ c) where
    pub operands_class : operand_bytes e k ≡ get_or (row c) 0 0
    operands_class = decoding.operands_class e k c p

    pub needed_class : needed e k ≡ get_or (row c) 1 0 + cond (eqb (kind c) kind_pick) (operand e k) 0
    needed_class = decoding.needed_class e k c p

    pub left_class : left e k ≡ get_or (row c) 2 0 + cond (eqb (kind c) kind_pick) (operand e k) 0
    left_class = decoding.left_class e k c p

-- ---- the starts of an expression: their two equations, induction over them, and their order
module _ (e : List ℕ) where
  pub from_end : (i : ℕ) → length e ≤ i → starts_from e i ≡ []
  from_end = following.from_end e

  pub from_next : (i : ℕ) → i < length e → starts_from e i ≡ i ∷ starts_from e (next e i)
  from_next = following.from_next e

  pub start_zero : 0 < length e → is_start e 0 ≡ true
  start_zero = following.start_zero e

  pub start_in : (k : ℕ) → is_start e k ≡ true → k < length e
  start_in = following.start_in e

  pub start_below : (k : ℕ) → length e ≤ k → is_start e k ≡ false
  start_below = following.start_below e

  pub start_next : (k : ℕ) → is_start e k ≡ true → next e k < length e → is_start e (next e k) ≡ true
  start_next = following.start_next e

  -- what holds of the starts before the start i, and of i, holds of those before the next
  pub before_next : (P : ℕ → Type 0) (i : ℕ) → is_start e i ≡ true → ((k : ℕ) → k < i → is_start e k ≡ true → P k) → P i
      → (k : ℕ) → k < next e i → is_start e k ≡ true → P k
  before_next = following.before_next e

pub by_starts {ℓ} : (e : List ℕ) (P : ℕ → Type ℓ) → ((i : ℕ) → length e ≤ i → P i) → ((i : ℕ) → i < length e → P (next e i) → P i) → (i : ℕ) → P i
by_starts = following.by_starts

-- ---- walks
pub walk_last : {e : List ℕ} {k h j u : ℕ} {w : List ℕ} → Walk e k h w j u → is_start e j ≡ true
walk_last = walking.walk_last

pub walk_on : {e : List ℕ} {k h j u m : ℕ} {w : List ℕ} → Walk e k h w j u → After e j m → is_start e m ≡ true → Walk e k h (w ++ (m ∷ [])) m (height_after e j u)
walk_on = walking.walk_on

pub weigh_on : (f : ℕ → ℕ) (w : List ℕ) (m : ℕ) → weigh f (w ++ (m ∷ [])) ≡ weigh f w + f m
weigh_on = walking.weigh_on

pub weigh_one : (w : List ℕ) → weigh one w ≡ length w
weigh_one = walking.weigh_one

-- ---- the stack that an array and a height stand for
pub length_held : (a : List ℕ) (h : ℕ) → length (held a h) ≡ h
length_held = holding.length_held

pub held_top : (a : List ℕ) (h : ℕ) → 1 ≤ h → held a h ≡ get_or (held a h) 0 0 ∷ drop 1 (held a h)
held_top = holding.held_top

pub held_drop : (a : List ℕ) (h n : ℕ) → n ≤ h → held a (h - n) ≡ drop n (held a h)
held_drop = holding.held_drop

pub held_at : (a : List ℕ) (h n : ℕ) → n < h → get_or a (h - 1 - n) 0 ≡ get_or (held a h) n 0
held_at = holding.held_at
