-- What users of `operations` may cite, besides the contracts of src/lib.rt.
use mathlib.Core.List.{List, ◌∷◌, ◌++◌}
use mathlib.Core.Path.{◌≡◌}
use Prim.Native.Nat.{ℕ, ◌+◌, ◌-◌, ◌≤◌, ◌<◌}
use lib.ListN.{get_or, drop}
use Rattle.isa.specs.Classes.{Class, class_of, row}
use Rattle.isa.specs.Decode.{next}
use Rattle.isa.specs.Joining.Held.{held}
use Rattle.machine.specs.Meaning.{stack_after, offset_after}
use Rattle.operations.specs.Joining.Here.{StepReady, on_top, Here}
use Rattle.operations.specs.Joining.Did.{PutWord}
use Rattle.operations.specs.declared.Place.{Place}
use Rattle.operations.proofs.Placing as placing
use Rattle.operations.proofs.Doing as doing
-- offset_by c e k s: where the instruction of e at k goes, on the stack s, if its class is c
pub use Rattle.operations.proofs.Placing.{offset_by}

-- ---- the stack where one word is put in the place of the cells needed
module _ {code a₀ : List ℕ} {c : Class} {op h : ℕ} {p q : Place} (here : Here code a₀ c op p.at h) {s a : List ℕ} {w : ℕ} where
  pub word_stack : PutWord op w p s q a → held a q.height ≡ w ∷ drop (get_or (row c) 1 0) s
  word_stack = doing.word_stack here

-- an instruction whose opcode and class are known
pub here : {code a : List ℕ} {at h : ℕ} → StepReady code a at h → (k : ℕ) (c : Class) → k < 53 → class_of k ≡ c → get_or code at 0 ≡ k
    → Here code a c k at h
here = placing.here

module _ {code a : List ℕ} {c : Class} {op at h : ℕ} (p : Here code a c op at h) where
  -- ---- what its class gives: the machine's next offset and its stack
  pub offset_here : (s : List ℕ) → offset_after code at s ≡ offset_by c code at s
  offset_here = placing.offset_here p

  pub stack_here : (s cells : List ℕ) → stack_after code at s cells ≡ cells ++ drop (get_or (row c) 1 0 + on_top c code at) s
  stack_here = placing.stack_here p

  -- ---- what the row of the opcode gives: the next start, the cells needed, which are there, and the height after,
  -- where no cell is left
  pub next_here : {r : ℕ} → r ≡ at + 1 + get_or (row (class_of op)) 0 0 → r ≡ next code at
  next_here = placing.next_here p

  pub needed_here : {r : ℕ} → r ≡ get_or (row (class_of op)) 1 0 → r ≡ get_or (row c) 1 0
  needed_here = placing.needed_here p

  pub cells_here : get_or (row (class_of op)) 1 0 ≤ h
  cells_here = placing.cells_here p

  pub taken_here : {r : ℕ} → r ≡ h - get_or (row (class_of op)) 1 0 + get_or (row (class_of op)) 2 0 → get_or (row c) 2 0 ≡ 0 → held a r ≡ drop (get_or (row c) 1 0) (held a h)
  taken_here = placing.taken_here p
