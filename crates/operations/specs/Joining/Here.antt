-- An instruction of an accepted expression, reached with height h: what every function of the code is asked.
use Rattle.std.specs.Prelude.{cond, List, ◌≡◌, ℕ, ◌+◌, ◌≤◌, ◌<◌, length, get_or, eqb}
use Rattle.sizes.specs.Sizes.{expression_most, stack_cells}
use Rattle.isa.specs.Classes.{Class, class_of, row, kind, kind_pick}
use Rattle.isa.specs.Decode.{operand_bytes, operand, needed}
use Rattle.verdict.specs.Acceptance.{Fits, Ready}

-- the expression and the cells that every function is lent
pub record Lent (code a : List ℕ) : Type 0 where
  pub short : length code ≤ expression_most
  pub long : length a ≡ stack_cells

-- and what acceptance says of the instruction at `at`
pub record StepReady (code a : List ℕ) (at h : ℕ) : Type 0 where
  pub lent : Lent code a
  pub ready : Ready code at h

-- the N of pick N, by the class
abbrev pub on_top : Class → List ℕ → ℕ → ℕ
on_top c code at = cond (eqb (kind c) kind_pick) (operand code at) 0

-- the same where the opcode and its class are known: by the numbers of the class
pub record Here (code a : List ℕ) (c : Class) (op at h : ℕ) : Type 0 where
  pub lent : Lent code a
  pub class_is : class_of op ≡ c
  pub low : op < 53
  pub found : get_or code at 0 ≡ op
  pub bytes : operand_bytes code at ≡ get_or (row c) 0 0
  pub needed_is : needed code at ≡ get_or (row c) 1 0 + on_top c code at
  pub fits : Fits (get_or (row c) 0 0) (get_or (row c) 1 0 + on_top c code at) (get_or (row c) 2 0 + on_top c code at) (kind c) (operand code at)
      (length code) at h
