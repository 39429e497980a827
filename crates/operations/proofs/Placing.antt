-- From an instruction of an accepted expression to one whose class is known.
use mathlib.Core.Bool.{cond, not, ◌&&◌}
use mathlib.Core.List.{List, ◌++◌}
use mathlib.Core.Path.{◌≡◌, refl, ap, sym, ◌∙◌}
use Prim.Native.Nat.{ℕ, ◌+◌, ◌-◌, ◌≤◌, ◌<◌}
use native.Mathlib.Omega.{arith}
use lib.ListN.{get_or, drop}
use lib.Dec.{eqb}
use Rattle.isa.specs.Classes.{Class, class_of, row, kind, kind_goto, kind_if_goto}
use Rattle.isa.specs.Decode.{class_at, next, operand}
use Rattle.isa.specs.Joining.Held.{held}
use Rattle.isa.proofs.Promises.{operands_class, needed_class, left_class, held_drop}
use Rattle.machine.specs.Meaning.{stack_after, offset_after}
use Rattle.operations.specs.Joining.Here.{StepReady, on_top, Here}

pub here : {code a : List ℕ} {at h : ℕ} → StepReady code a at h → (k : ℕ) (c : Class) → k < 53 → class_of k ≡ c → get_or code at 0 ≡ k
    → Here code a c k at h
here {code} {a} {at} {h} p k c l q f =
    let w : class_at code at ≡ c = ap class_of f ∙ q in
    let n = needed_class code at c w in
    record {
      lent = p.lent;
      class_is = q;
      low = l;
      found = f;
      bytes = operands_class code at c w;
      needed_is = n;
      fits = rw (w, n, left_class code at c w) at p.ready;
    }

-- where an instruction of the class goes, on the stack s
abbrev pub offset_by : Class → List ℕ → ℕ → List ℕ → ℕ
offset_by c e k s =
    cond (eqb (kind c) kind_goto) (operand e k)
    (cond (eqb (kind c) kind_if_goto && not (eqb (get_or s 0 0) 0)) (operand e k) (next e k))

-- ---- what the class gives, and the row of the opcode
module _ {code a : List ℕ} {c : Class} {op at h : ℕ} (p : Here code a c op at h) where
  class_here : class_at code at ≡ c
  class_here = ap class_of p.found ∙ p.class_is

  pub offset_here : (s : List ℕ) → offset_after code at s ≡ offset_by c code at s
  unfolding offset_after
  offset_here s = rw class_here refl

  pub stack_here : (s cells : List ℕ) → stack_after code at s cells ≡ cells ++ drop (get_or (row c) 1 0 + on_top c code at) s
  unfolding stack_after
  stack_here s cells = rw p.needed_is refl

  -- the next start
  pub next_here : {r : ℕ} → r ≡ at + 1 + get_or (row (class_of op)) 0 0 → r ≡ next code at
  next_here e = e ∙ ap (λ (x : ℕ). at + 1 + get_or (row (class_of x)) 0 0) (sym p.found)

  -- the cells needed, by the class
  pub needed_here : {r : ℕ} → r ≡ get_or (row (class_of op)) 1 0 → r ≡ get_or (row c) 1 0
  needed_here e = rw p.class_is at e

  -- they are there
  pub cells_here : get_or (row (class_of op)) 1 0 ≤ h
  cells_here = rw p.class_is (omega (arith, p.fits.cells))

  -- the height after, where no cell is left and where as many are left as are needed
  module _ {r : ℕ} (e : r ≡ h - get_or (row (class_of op)) 1 0 + get_or (row (class_of op)) 2 0) where
    height_here : r ≡ h - get_or (row c) 1 0 + get_or (row c) 2 0
    height_here = rw p.class_is at e

    pub taken_here : get_or (row c) 2 0 ≡ 0 → held a r ≡ drop (get_or (row c) 1 0) (held a h)
    taken_here z =
        let g : r ≡ h - get_or (row c) 1 0 = omega (arith, height_here, z) in
        ap (held a) g ∙ held_drop a h (get_or (row c) 1 0) (omega (arith, p.fits.cells))

    pub same_here : get_or (row c) 1 0 ≡ get_or (row c) 2 0 → r ≡ h
    same_here q = omega (arith, height_here, q, p.fits.cells)
