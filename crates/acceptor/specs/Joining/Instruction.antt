-- One instruction, as the pass that accepts or is in doubt sees it.
use Rattle.std.specs.Prelude.{◌≡◌, ◌≢◌, List, ℕ, ◌+◌, ◌-◌, ◌≤◌, ◌<◌, max, length}
use Rattle.isa.specs.Classes.{kind_goto, kind_if_goto, kind_end, setv}
use Rattle.isa.specs.Decode.{class_at, kind_at, next, needed, left, height_after}
use Rattle.verdict.specs.Pass1.{fault1}
use Rattle.acceptor.specs.declared.effects.Onward.{Onward}
use Rattle.acceptor.specs.declared.effects.Effect.{Effect}
use Rattle.acceptor.specs.declared.effects.Effect.TheVariants.{On, Sets, IfGoto, Goto, End}

-- what an instruction at k leaves that has o operand bytes, needs n cells and leaves m in their place
pub record RowLeaves (k h g o n m : ℕ) (r : Onward) : Type 0 where
  pub cells : n ≤ h
  pub at_is : r.at ≡ k + 1 + o
  pub height_is : r.height ≡ h - n + m
  pub greatest_is : r.greatest ≡ max g (h - n + m)

-- the instruction at k, reached with height h, the greatest being g, is neither a jump nor an end, and meets no refusal
-- where its bytes are there
pub record GoesOn (e : List ℕ) (k h g : ℕ) (r : Onward) : Type 0 where
  pub clear : next e k ≤ length e → fault1 e k ≡ 0
  pub straight : kind_at e k < kind_goto
  pub cells : needed e k ≤ h
  pub at_is : r.at ≡ next e k
  pub height_is : r.height ≡ height_after e k h
  pub greatest_is : r.greatest ≡ max g (height_after e k h)
  pub low : r.height ≤ h + 1
  pub near : r.at ≤ k + 9

pub record IsEnd (e : List ℕ) (k : ℕ) : Type 0 where
  pub kind_is : kind_at e k ≡ kind_end
  pub next_is : next e k ≡ k + 1

-- a jump that needs n cells
pub record IsJump (e : List ℕ) (k n : ℕ) : Type 0 where
  pub least : kind_goto ≤ kind_at e k
  pub most : kind_at e k ≤ kind_if_goto
  pub next_is : next e k ≡ k + 3
  pub needed_is : n ≡ needed e k
  pub left_is : 0 ≡ left e k

pub record IsIfGoto (e : List ℕ) (k : ℕ) : Type 0 where
  pub kind_is : kind_at e k ≡ kind_if_goto
  pub jump : IsJump e k 1

pub record IsGoto (e : List ℕ) (k : ℕ) : Type 0 where
  pub kind_is : kind_at e k ≡ kind_goto
  pub jump : IsJump e k 0

-- how the pass goes on from the instruction at k, reached with height h, the greatest being g: only where it says so is
-- that a setv
abbrev pub HasEffect : List ℕ → ℕ → ℕ → ℕ → Effect → Type 0
HasEffect e k h g (On r) = GoesOn e k h g r × (class_at e k ≢ setv)
HasEffect e k h g (Sets r) = GoesOn e k h g r
HasEffect e k h g IfGoto = IsIfGoto e k
HasEffect e k h g Goto = IsGoto e k
HasEffect e k h g End = IsEnd e k
