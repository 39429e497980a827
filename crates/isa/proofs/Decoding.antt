-- Cells needed and left, from a row and the N of pick N as the code has them.
use mathlib.Core.Bool.{cond}
use mathlib.Core.List.{List}
use mathlib.Core.Path.{◌≡◌, ap}
use mathlib.Core.Logic.{◌≢◌}
use Prim.Native.Nat.{ℕ, ◌+◌, ◌-◌}
use native.Mathlib.Omega.{arith}
use lib.ListN.{get_or}
use lib.Dec.{eqb}
use borrow.Author.Tests.{eq-eqb, ne_eqb}
use Rattle.isa.specs.Classes.{Class, class_of, row, kind, kind_pick}
use Rattle.isa.specs.Decode.{class_at, kind_at, operand_bytes, operand, picked, needed, left, height_after}

module _ (e : List ℕ) (k : ℕ) where
  -- ---- the N of pick N
  pub picked_pick : (x : ℕ) → x ≡ operand e k → kind_at e k ≡ kind_pick → x ≡ picked e k
  unfolding picked
  picked_pick x p h = rw (eq-eqb (kind_at e k) kind_pick h) p

  pub picked_none : kind_at e k ≢ kind_pick → 0 ≡ picked e k
  unfolding picked
  picked_none h = rw (ne_eqb (kind_at e k) kind_pick h)

  -- the height after an instruction and the cells needed, from what the code computes
  pub needed_by : (n p : ℕ) → n ≡ get_or (row (class_of (get_or e k 0))) 1 0 → p ≡ picked e k → n + p ≡ needed e k
  unfolding needed
  needed_by n p a b = cc

  -- with no N on top of the row
  pub needed_row : (n : ℕ) → n ≡ get_or (row (class_of (get_or e k 0))) 1 0 → kind_at e k ≢ kind_pick → n ≡ needed e k
  unfolding needed
  needed_row n a h = omega (arith, picked_none h)

  pub left_row : (n : ℕ) → n ≡ get_or (row (class_of (get_or e k 0))) 2 0 → kind_at e k ≢ kind_pick → n ≡ left e k
  unfolding left
  left_row n a h = omega (arith, picked_none h)

  pub after_by : (h n m : ℕ) → n ≡ needed e k → m ≡ left e k → h - n + m ≡ height_after e k h
  unfolding height_after
  after_by h n m a b = cc

  pub left_by : (n p : ℕ) → n ≡ get_or (row (class_of (get_or e k 0))) 2 0 → p ≡ picked e k → n + p ≡ left e k
  unfolding left
  left_by n p a b = cc

  -- operand bytes, cells needed and cells left, from the class
  module _ (c : Class) (p : class_at e k ≡ c) where
    pub operands_class : operand_bytes e k ≡ get_or (row c) 0 0
    operands_class = ap (λ (x : Class). get_or (row x) 0 0) p

    pub needed_class : needed e k ≡ get_or (row c) 1 0 + cond (eqb (kind c) kind_pick) (operand e k) 0
    unfolding needed picked
    needed_class = ap (λ (x : Class). get_or (row x) 1 0 + cond (eqb (kind x) kind_pick) (operand e k) 0) p

    pub left_class : left e k ≡ get_or (row c) 2 0 + cond (eqb (kind c) kind_pick) (operand e k) 0
    unfolding left picked
    left_class = ap (λ (x : Class). get_or (row x) 2 0 + cond (eqb (kind x) kind_pick) (operand e k) 0) p
