-- One instruction, by the arm of its opcode.
use mathlib.Core.Bool.{Bool, true, false, ◌&&◌}
use mathlib.Core.List.{List, [], ◌∷◌}
use mathlib.Core.Path.{◌≡◌, refl, ap, sym, ◌∙◌}
use mathlib.Core.Logic.{◌≢◌, ⊎_elim}
use Prim.Native.Nat.{ℕ, ◌+◌, ◌≤◌, ◌<◌, max}
use native.Mathlib.Omega.{arith}
use lib.ListN.{get_or, length}
use lib.Dec.{T, eqb}
use types.Run.{OneOf}
use borrow.Author.Tests.{eqb-true}
use Rattle.logic.proofs.Promises.{and_left, and_right}
use Rattle.isa.specs.Classes.{opcodes, class_of, row, kind, setv, kind_ext, kind_variable, kind_plain, kind_pick, kind_goto, kind_if_goto, kind_end}
use Rattle.isa.specs.Decode.{class_at, kind_at, next, operand, picked, needed, left}
use Rattle.isa.proofs.Promises.{needed_row, left_row, needed_by, left_by, after_by}
use Rattle.verdict.specs.Pass1.{fault1}
use Rattle.verdict.proofs.Deciding.{f_plain, f_ext_some, f_variable_low}
use Rattle.acceptor.specs.Joining.Instruction.{RowLeaves, GoesOn, IsEnd, IsJump, IsIfGoto, IsGoto}
use Rattle.acceptor.specs.declared.effects.Onward.{Onward}

-- ---- the row of an arm: operand bytes o, cells needed n and left m, kind q
record Lined (o n m q op : ℕ) : Type 0 where
  operands_is : o ≡ get_or (row (class_of op)) 0 0
  needed_is : n ≡ get_or (row (class_of op)) 1 0
  left_is : m ≡ get_or (row (class_of op)) 2 0
  kind_is : q ≡ kind (class_of op)

abbrev lined : ℕ → ℕ → ℕ → ℕ → ℕ → Bool
lined o n m q op =
    (eqb (get_or (row (class_of op)) 0 0) o && eqb (get_or (row (class_of op)) 1 0) n) && (eqb (get_or (row (class_of op)) 2 0) m && eqb (kind (class_of op)) q)

abbrev all_lined : ℕ → ℕ → ℕ → ℕ → List ℕ → Bool
all_lined o n m q [] = true
all_lined o n m q (k ∷ ks) = lined o n m q k && all_lined o n m q ks

true_is : (a : Bool) → T a → a ≡ true
true_is true t = refl
true_is false t = absurd t

module _ (o n m q : ℕ) where
  lined_is : (op : ℕ) → T (lined o n m q op) → Lined o n m q op
  lined_is op t =
      let a = and_left (eqb (get_or (row (class_of op)) 0 0) o && eqb (get_or (row (class_of op)) 1 0) n) _ t in
      let b = and_right (eqb (get_or (row (class_of op)) 0 0) o && eqb (get_or (row (class_of op)) 1 0) n) _ t in
      record {
        operands_is = sym (eqb-true (get_or (row (class_of op)) 0 0) o (true_is _ (and_left (eqb (get_or (row (class_of op)) 0 0) o) (eqb (get_or (row (class_of op)) 1 0) n) a)));
        needed_is = sym (eqb-true (get_or (row (class_of op)) 1 0) n (true_is _ (and_right (eqb (get_or (row (class_of op)) 0 0) o) (eqb (get_or (row (class_of op)) 1 0) n) a)));
        left_is = sym (eqb-true (get_or (row (class_of op)) 2 0) m (true_is _ (and_left (eqb (get_or (row (class_of op)) 2 0) m) (eqb (kind (class_of op)) q) b)));
        kind_is = sym (eqb-true (kind (class_of op)) q (true_is _ (and_right (eqb (get_or (row (class_of op)) 2 0) m) (eqb (kind (class_of op)) q) b)));
      }

  -- an opcode that is one of an arm's has the arm's row
  these : (op k : ℕ) (ks : List ℕ) → T (all_lined o n m q (k ∷ ks)) → OneOf (k ∷ ks) op → Lined o n m q op
  these op k [] t p = rw p (lined_is k (and_left (lined o n m q k) true t))
  these op k (j ∷ ks) t p =
      ⊎_elim
      (λ (r : op ≡ k). rw r (lined_is k (and_left (lined o n m q k) (all_lined o n m q (j ∷ ks)) t)))
      (λ r. these op j ks (and_right (lined o n m q k) (all_lined o n m q (j ∷ ks)) t) r)
      p

-- ---- setv, by its row and its kind
not_kind : (e : List ℕ) (k : ℕ) → kind_at e k ≢ kind_variable → class_at e k ≢ setv
not_kind e k p z = p (ap kind z)

not_needed : (e : List ℕ) (k : ℕ) → 0 ≡ get_or (row (class_at e k)) 1 0 → class_at e k ≢ setv
not_needed e k p z = let q : get_or (row (class_at e k)) 1 0 ≡ 1 = ap (λ c. get_or (row c) 1 0) z in absurd (omega arith)

-- ---- an instruction that goes on, and is no setv
abbrev Plainly : List ℕ → ℕ → ℕ → ℕ → Onward → Type 0
Plainly e k h g r = GoesOn e k h g r × (class_at e k ≢ setv)

module _ (e : List ℕ) (k h g o n m : ℕ) {r : Onward} (w : RowLeaves k h g o n m r) (few : o ≤ 8) (grows : m ≤ n + 1) where
  goes_on_by : (q : ℕ) → o ≡ get_or (row (class_of (get_or e k 0))) 0 0 → n ≡ needed e k → m ≡ left e k → kind_at e k ≡ q → q < kind_goto
      → (next e k ≤ length e → fault1 e k ≡ 0) → GoesOn e k h g r
  goes_on_by q po pn pm pq small f = record {
    clear = f;
    straight = omega arith;
    cells = omega (arith, w.cells);
    at_is = w.at_is ∙ ap (λ (x : ℕ). k + 1 + x) po;
    height_is = w.height_is ∙ after_by e k h n m pn pm;
    greatest_is = w.greatest_is ∙ ap (max g) (after_by e k h n m pn pm);
    low = omega (arith, w.height_is, w.cells);
    near = omega (arith, w.at_is);
  }

  -- one whose kind is not pick: its row alone counts
  goes_on_lined : (q : ℕ) → Lined o n m q (get_or e k 0) → q < kind_pick → (next e k ≤ length e → fault1 e k ≡ 0) → GoesOn e k h g r
  goes_on_lined q l small f =
      let p : kind_at e k ≢ kind_pick = omega (arith, l.kind_is) in
      goes_on_by q l.operands_is (needed_row e k n l.needed_is p) (left_row e k m l.left_is p) (sym l.kind_is) (omega arith) f

  effect_plain : Lined o n m kind_plain (get_or e k 0) → Plainly e k h g r
  effect_plain l = (
    goes_on_lined kind_plain l (omega arith)
        (λ f. sym (f_plain e k f (omega (arith, l.kind_is)) (omega (arith, l.kind_is)) (omega (arith, l.kind_is)))),
    not_kind e k (omega (arith, l.kind_is)),
  )

effect_ext : (e : List ℕ) (k h g : ℕ) {r : Onward} → RowLeaves k h g 1 1 1 r → Lined 1 1 1 kind_ext (get_or e k 0) → 1 ≤ operand e k → Plainly e k h g r
effect_ext e k h g w l x = (
  goes_on_lined e k h g 1 1 1 w (omega arith) (omega arith) kind_ext l (omega arith) (λ f. sym (f_ext_some e k f (sym l.kind_is) (omega arith))),
  not_kind e k (omega (arith, l.kind_is)),
)

-- getv, setv and tracev
goes_on_variable : (e : List ℕ) (k h g n : ℕ) {r : Onward} → RowLeaves k h g 2 n 1 r → Lined 2 n 1 kind_variable (get_or e k 0) → operand e k < 64 → GoesOn e k h g r
goes_on_variable e k h g n w l x = goes_on_lined e k h g 2 n 1 w (omega arith) (omega arith) kind_variable l (omega arith) (λ f. sym (f_variable_low e k f (sym l.kind_is) x))

effect_pick : (e : List ℕ) (k h g : ℕ) {r : Onward} → RowLeaves k h g 1 (1 + picked e k) (2 + picked e k) r → Lined 1 1 2 kind_pick (get_or e k 0) → Plainly e k h g r
effect_pick e k h g w l = (
  goes_on_by e k h g 1 (1 + picked e k) (2 + picked e k) w (omega arith) (omega arith) kind_pick l.operands_is (needed_by e k 1 (picked e k) l.needed_is refl)
      (left_by e k 2 (picked e k) l.left_is refl) (sym l.kind_is) (omega arith)
      (λ f. sym (f_plain e k f (omega (arith, l.kind_is)) (omega (arith, l.kind_is)) (omega (arith, l.kind_is)))),
  not_kind e k (omega (arith, l.kind_is)),
)

-- ---- a jump
jump_by : (e : List ℕ) (k n q : ℕ) → kind_goto ≤ q → q ≤ kind_if_goto → Lined 2 n 0 q (get_or e k 0) → IsJump e k n
jump_by e k n q a b l = record {
  least = omega (arith, l.kind_is);
  most = omega (arith, l.kind_is);
  next_is = omega (arith, l.operands_is);
  needed_is = needed_row e k n l.needed_is (omega (arith, l.kind_is));
  left_is = left_row e k 0 l.left_is (omega (arith, l.kind_is));
}

-- ---- the arms, each by its first opcode
abbrev pub OpcodeAt : List ℕ → ℕ → List ℕ → Type 0
OpcodeAt e k ks = OneOf ks (get_or e k 0)

pub is_ext : (op : ℕ) → OneOf (0x16 ∷ []) op → kind (class_of op) ≡ kind_ext
unfolding class_of opcodes
is_ext op p = sym (these 1 1 1 kind_ext _ 0x16 ([]) tt p).kind_is

pub is_getv_tracev : (op : ℕ) → OneOf (0x2c ∷ 0x2e ∷ []) op → kind (class_of op) ≡ kind_variable
unfolding class_of opcodes
is_getv_tracev op p = sym (these 2 0 1 kind_variable _ 0x2c (0x2e ∷ []) tt p).kind_is

pub is_setv : (op : ℕ) → OneOf (0x2d ∷ []) op → kind (class_of op) ≡ kind_variable
unfolding class_of opcodes
is_setv op p = sym (these 2 1 1 kind_variable _ 0x2d ([]) tt p).kind_is

pub is_pick : (op : ℕ) → OneOf (0x32 ∷ []) op → kind (class_of op) ≡ kind_pick
unfolding class_of opcodes
is_pick op p = sym (these 1 1 2 kind_pick _ 0x32 ([]) tt p).kind_is

module _ {e : List ℕ} {k h g : ℕ} {r : Onward} where
  pub arm_02 : RowLeaves k h g 0 2 1 r → OpcodeAt e k (0x02 ∷ 0x04 ∷ 0x06 ∷ 0x08 ∷ 0x0a ∷ []) → Plainly e k h g r
  unfolding class_of opcodes
  arm_02 w p = effect_plain e k h g 0 2 1 w (omega arith) (omega arith) (these 0 2 1 kind_plain _ 0x02 (0x04 ∷ 0x06 ∷ 0x08 ∷ 0x0a ∷ []) tt p)

  pub arm_0f : RowLeaves k h g 0 2 1 r → OpcodeAt e k (0x0f ∷ 0x11 ∷ 0x13 ∷ 0x15 ∷ []) → Plainly e k h g r
  unfolding class_of opcodes
  arm_0f w p = effect_plain e k h g 0 2 1 w (omega arith) (omega arith) (these 0 2 1 kind_plain _ 0x0f (0x11 ∷ 0x13 ∷ 0x15 ∷ []) tt p)

  pub arm_03 : RowLeaves k h g 0 2 1 r → OpcodeAt e k (0x03 ∷ 0x05 ∷ 0x07 ∷ 0x09 ∷ 0x0b ∷ []) → Plainly e k h g r
  unfolding class_of opcodes
  arm_03 w p = effect_plain e k h g 0 2 1 w (omega arith) (omega arith) (these 0 2 1 kind_plain _ 0x03 (0x05 ∷ 0x07 ∷ 0x09 ∷ 0x0b ∷ []) tt p)

  pub arm_10 : RowLeaves k h g 0 2 1 r → OpcodeAt e k (0x10 ∷ 0x14 ∷ []) → Plainly e k h g r
  unfolding class_of opcodes
  arm_10 w p = effect_plain e k h g 0 2 1 w (omega arith) (omega arith) (these 0 2 1 kind_plain _ 0x10 (0x14 ∷ []) tt p)

  pub arm_0c : RowLeaves k h g 0 2 0 r → OpcodeAt e k (0x0c ∷ 0x2f ∷ []) → Plainly e k h g r
  unfolding class_of opcodes
  arm_0c w p = effect_plain e k h g 0 2 0 w (omega arith) (omega arith) (these 0 2 0 kind_plain _ 0x0c (0x2f ∷ []) tt p)

  pub arm_0e : RowLeaves k h g 0 1 1 r → OpcodeAt e k (0x0e ∷ 0x12 ∷ 0x17 ∷ 0x19 ∷ []) → Plainly e k h g r
  unfolding class_of opcodes
  arm_0e w p = effect_plain e k h g 0 1 1 w (omega arith) (omega arith) (these 0 1 1 kind_plain _ 0x0e (0x12 ∷ 0x17 ∷ 0x19 ∷ []) tt p)

  pub arm_18 : RowLeaves k h g 0 1 1 r → OpcodeAt e k (0x18 ∷ 0x1a ∷ []) → Plainly e k h g r
  unfolding class_of opcodes
  arm_18 w p = effect_plain e k h g 0 1 1 w (omega arith) (omega arith) (these 0 1 1 kind_plain _ 0x18 (0x1a ∷ []) tt p)

  pub arm_0d : RowLeaves k h g 1 1 1 r → OpcodeAt e k (0x0d ∷ 0x2a ∷ []) → Plainly e k h g r
  unfolding class_of opcodes
  arm_0d w p = effect_plain e k h g 1 1 1 w (omega arith) (omega arith) (these 1 1 1 kind_plain _ 0x0d (0x2a ∷ []) tt p)

  pub arm_30 : RowLeaves k h g 2 1 1 r → OpcodeAt e k (0x30 ∷ []) → Plainly e k h g r
  unfolding class_of opcodes
  arm_30 w p = effect_plain e k h g 2 1 1 w (omega arith) (omega arith) (these 2 1 1 kind_plain _ 0x30 ([]) tt p)

  pub arm_22 : RowLeaves k h g 1 0 1 r → OpcodeAt e k (0x22 ∷ []) → Plainly e k h g r
  unfolding class_of opcodes
  arm_22 w p = effect_plain e k h g 1 0 1 w (omega arith) (omega arith) (these 1 0 1 kind_plain _ 0x22 ([]) tt p)

  pub arm_23 : RowLeaves k h g 2 0 1 r → OpcodeAt e k (0x23 ∷ 0x26 ∷ []) → Plainly e k h g r
  unfolding class_of opcodes
  arm_23 w p = effect_plain e k h g 2 0 1 w (omega arith) (omega arith) (these 2 0 1 kind_plain _ 0x23 (0x26 ∷ []) tt p)

  pub arm_24 : RowLeaves k h g 4 0 1 r → OpcodeAt e k (0x24 ∷ []) → Plainly e k h g r
  unfolding class_of opcodes
  arm_24 w p = effect_plain e k h g 4 0 1 w (omega arith) (omega arith) (these 4 0 1 kind_plain _ 0x24 ([]) tt p)

  pub arm_25 : RowLeaves k h g 8 0 1 r → OpcodeAt e k (0x25 ∷ []) → Plainly e k h g r
  unfolding class_of opcodes
  arm_25 w p = effect_plain e k h g 8 0 1 w (omega arith) (omega arith) (these 8 0 1 kind_plain _ 0x25 ([]) tt p)

  pub arm_28 : RowLeaves k h g 0 1 2 r → OpcodeAt e k (0x28 ∷ []) → Plainly e k h g r
  unfolding class_of opcodes
  arm_28 w p = effect_plain e k h g 0 1 2 w (omega arith) (omega arith) (these 0 1 2 kind_plain _ 0x28 ([]) tt p)

  pub arm_29 : RowLeaves k h g 0 1 0 r → OpcodeAt e k (0x29 ∷ []) → Plainly e k h g r
  unfolding class_of opcodes
  arm_29 w p = effect_plain e k h g 0 1 0 w (omega arith) (omega arith) (these 0 1 0 kind_plain _ 0x29 ([]) tt p)

  pub arm_2b : RowLeaves k h g 0 2 2 r → OpcodeAt e k (0x2b ∷ []) → Plainly e k h g r
  unfolding class_of opcodes
  arm_2b w p = effect_plain e k h g 0 2 2 w (omega arith) (omega arith) (these 0 2 2 kind_plain _ 0x2b ([]) tt p)

  pub arm_33 : RowLeaves k h g 0 3 3 r → OpcodeAt e k (0x33 ∷ []) → Plainly e k h g r
  unfolding class_of opcodes
  arm_33 w p = effect_plain e k h g 0 3 3 w (omega arith) (omega arith) (these 0 3 3 kind_plain _ 0x33 ([]) tt p)

  pub arm_16 : RowLeaves k h g 1 1 1 r → 1 ≤ operand e k → OpcodeAt e k (0x16 ∷ []) → Plainly e k h g r
  unfolding class_of opcodes
  arm_16 w x p = effect_ext e k h g w (these 1 1 1 kind_ext _ 0x16 [] tt p) x

  pub arm_2c : RowLeaves k h g 2 0 1 r → operand e k < 64 → OpcodeAt e k (0x2c ∷ 0x2e ∷ []) → Plainly e k h g r
  unfolding class_of opcodes
  arm_2c w x p = let l = these 2 0 1 kind_variable _ 0x2c (0x2e ∷ []) tt p in (goes_on_variable e k h g 0 w l x, not_needed e k l.needed_is)

  pub arm_2d : RowLeaves k h g 2 1 1 r → operand e k < 64 → OpcodeAt e k (0x2d ∷ []) → GoesOn e k h g r
  unfolding class_of opcodes
  arm_2d w x p = goes_on_variable e k h g 1 w (these 2 1 1 kind_variable _ 0x2d [] tt p) x

  pub arm_32 : RowLeaves k h g 1 (1 + picked e k) (2 + picked e k) r → OpcodeAt e k (0x32 ∷ []) → Plainly e k h g r
  unfolding class_of opcodes
  arm_32 w p = effect_pick e k h g w (these 1 1 2 kind_pick _ 0x32 [] tt p)

module _ {e : List ℕ} {k : ℕ} where
  pub arm_20 : OpcodeAt e k (0x20 ∷ []) → IsIfGoto e k
  unfolding class_of opcodes
  arm_20 p = let l = these 2 1 0 kind_if_goto _ 0x20 [] tt p in record { kind_is = sym l.kind_is; jump = jump_by e k 1 kind_if_goto (omega arith) (omega arith) l }

  pub arm_21 : OpcodeAt e k (0x21 ∷ []) → IsGoto e k
  unfolding class_of opcodes
  arm_21 p = let l = these 2 0 0 kind_goto _ 0x21 [] tt p in record { kind_is = sym l.kind_is; jump = jump_by e k 0 kind_goto (omega arith) (omega arith) l }

  pub arm_27 : OpcodeAt e k (0x27 ∷ []) → IsEnd e k
  unfolding class_of opcodes
  arm_27 p = let l = these 0 0 0 kind_end _ 0x27 [] tt p in record { kind_is = sym l.kind_is; next_is = omega (arith, l.operands_is) }
