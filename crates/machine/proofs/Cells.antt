-- The table agrees with the meaning: an instruction leaves as many cells as its row says, and goes on where a walk may
-- go.
use mathlib.Core.Bool.{Bool, true, false, cond, not, ◌&&◌}
use mathlib.Core.List.{List, [], ◌∷◌}
use mathlib.Core.Logic.{◌≢◌}
use mathlib.Core.Path.{◌≡◌, refl, sym}
use Prim.Native.Nat.{ℕ, ◌+◌, ◌≤◌, ◌<◌, min}
use native.Mathlib.Omega.{arith}
use lib.ListN.{length, get_or, length-append, length-take, length-drop}
use lib.Dec.{eqb, leb, ltb, eqb→eq}
use borrow.Author.Tests.{eqb-true, eqb-false}
use Rattle.logic.proofs.Promises.{and_left}
use Rattle.isa.specs.Classes.{Class, binary, trace, tracenz, unary, ref, trace_quick, ext, zero_ext_of, setv, if_goto, goto, constant, reg, getv, tracev, end, dup, pop, swap, pick, rot, unsupported, unknown, row, kind, kind_unsupported, kind_pick, kind_goto, kind_if_goto, kind_end}
use Rattle.isa.specs.Decode.{class_at, kind_at, operand, needed, left, height_after}
use Rattle.isa.specs.Walk.{After, target, onward}
use Rattle.isa.proofs.Promises.{needed_class, left_class}
use Rattle.memory.specs.Spans.{Target}
use Rattle.memory.specs.Fetch.{readable, rest_of}
use Rattle.memory.specs.FirstZero.{Sought, up_to_zero, all_of_size, cut_short, searched}
use Rattle.frames.specs.Record.{Record, encode}
use Rattle.frames.specs.Trailer.{trailer_size}
use Rattle.machine.specs.Given.{Fixed}
use Rattle.machine.specs.Words.{zero_divisor}
use Rattle.machine.specs.Recording.{Made, made, refuses, fitting, range_made, zero_made, to_zero_made}
use Rattle.machine.specs.Meaning.{Done, leaves, faults, recording, binary_done, ref_done, reg_done, end_done, meaning, done, stack_after, is_setv, variables_after, offset_after}

-- what holds of both choices holds of the choice
pub by_test : {A : Type 0} (P : A → Type 0) (t : Bool) (x y : A) → (t ≡ true → P x) → (t ≡ false → P y) → P (cond t x y)
by_test P true x y f g = f refl
by_test P false x y f g = g refl

-- ---- the refusals met while stepping, the allowance's 16 apart
abbrev pub Stepping : ℕ → Type 0
Stepping n = (17 ≤ n) × (n ≤ 21)

MadeRight : Made → Type 0
MadeRight (made rs) = Unit {0}
MadeRight (refuses n) = Stepping n

fitting_right : (free : ℕ) (r : Record) → MadeRight (fitting free r)
unfolding MadeRight fitting
fitting_right free r = by_test MadeRight (leb (length (encode r)) free) _ _ (λ _. tt) (λ _. (omega arith, omega arith))

module _ (t : Target) (free address size : ℕ) where
  range_right : MadeRight (range_made t free address size)
  unfolding MadeRight range_made
  range_right =
      by_test MadeRight (eqb size 0) _ _ (λ _. tt) λ _.
      by_test MadeRight (ltb 65535 size) _ _ (λ _. (omega arith, omega arith)) λ _.
      by_test MadeRight (readable t address size) _ _ (λ _. fitting_right free _) (λ _. (omega arith, omega arith))

  zero_right : (rest : List ℕ) (o : Sought) → MadeRight (zero_made free address size rest o)
  unfolding MadeRight
  zero_right rest (up_to_zero n) = fitting_right free _
  zero_right rest (all_of_size n) = by_test MadeRight (leb size 65535) _ _ (λ _. fitting_right free _) (λ _. (omega arith, omega arith))
  zero_right rest (cut_short n) = (omega arith, omega arith)

  to_zero_right : MadeRight (to_zero_made t free address size)
  unfolding MadeRight to_zero_made
  to_zero_right =
      let rest = rest_of t address in
      by_test MadeRight (eqb size 0) _ _ (λ _. tt) (λ _. zero_right rest (searched (min size 65535) rest))

-- ---- every class
-- as many cells as the row says; of a supported instruction a refusal from 17 to 21
abbrev Right : List ℕ → ℕ → Done → Type 0
Right e k (leaves cells rs) = length cells ≡ left e k
Right e k (faults n) = kind_unsupported < kind_at e k → Stepping n

module _ (m : Fixed) (k : ℕ) (s v : List ℕ) (free : ℕ) where
  by_row : (c : Class) → class_at m.expression k ≡ c → get_or (row c) 2 0 + cond (eqb (kind c) kind_pick) (operand m.expression k) 0 ≡ left m.expression k
  by_row c p = sym (left_class m.expression k c p)

  recording_right : (cells : List ℕ) (r : Made) → length cells ≡ left m.expression k → MadeRight r → Right m.expression k (recording cells r)
  unfolding MadeRight
  recording_right cells (made rs) p h = p
  recording_right cells (refuses n) p h = λ _. h

  module _ (enough : needed m.expression k ≤ length s) where
    meaning_right : (op : ℕ) (c : Class) → class_at m.expression k ≡ c → Right m.expression k (meaning m s v free op (operand m.expression k) c)
    unfolding binary_done ref_done reg_done end_done
    meaning_right op binary p = by_test (Right m.expression k) (zero_divisor op (get_or s 0 0)) _ _ (λ _ _. (omega arith, omega arith)) (λ _. by_row binary p)
    meaning_right op trace p = recording_right [] _ (by_row trace p) (range_right m.target free _ _)
    meaning_right op tracenz p = recording_right [] _ (by_row tracenz p) (to_zero_right m.target free _ _)
    meaning_right op unary p = by_row unary p
    meaning_right op (ref n) p =
        by_test (Right m.expression k) (readable m.target (get_or s 0 0) n) _ _
        (λ _. by_row (ref n) p) (λ _ _. (omega arith, omega arith))
    meaning_right op (trace_quick n) p = recording_right (get_or s 0 0 ∷ []) _ (by_row (trace_quick n) p) (range_right m.target free _ _)
    meaning_right op ext p = by_row ext p
    meaning_right op zero_ext_of p = by_row zero_ext_of p
    meaning_right op setv p = by_row setv p
    meaning_right op if_goto p = by_row if_goto p
    meaning_right op goto p = by_row goto p
    meaning_right op (constant n) p = by_row (constant n) p
    meaning_right op reg p =
        by_test (Right m.expression k) (ltb (operand m.expression k) (length m.registers)) _ _
        (λ _. by_row reg p) (λ _ _. (omega arith, omega arith))
    meaning_right op getv p = by_row getv p
    meaning_right op tracev p = recording_right (get_or v (operand m.expression k) 0 ∷ []) _ (by_row tracev p) (fitting_right free _)
    meaning_right op end p = by_test (Right m.expression k) (leb trailer_size free) _ _ (λ _. by_row end p) (λ _ _. (omega arith, omega arith))
    meaning_right op dup p = by_row dup p
    meaning_right op pop p = by_row pop p
    meaning_right op swap p = by_row swap p
    meaning_right op pick p = omega (arith, length-take (operand m.expression k + 1) s, needed_class m.expression k pick p, by_row pick p)
    meaning_right op rot p = by_row rot p
    meaning_right op unsupported p = λ h. absurd (let q : kind_at m.expression k ≡ kind unsupported = rw p in omega arith)
    meaning_right op unknown p = λ h. absurd (let q : kind_at m.expression k ≡ kind unknown = rw p in omega arith)

    done_right : Right m.expression k (done m k s v free)
    unfolding done
    done_right = meaning_right (get_or m.expression k 0) (class_at m.expression k) refl

  -- an instruction that has its cells leaves as many as the table says
  pub left_cells : {cells : List ℕ} {rs : List Record} → done m k s v free ≡ leaves cells rs → needed m.expression k ≤ length s → length cells ≡ left m.expression k
  left_cells p h = rw p at (done_right h)

  -- the height after it is the table's
  pub height_after_lem : {cells : List ℕ} {rs : List Record} → done m k s v free ≡ leaves cells rs → needed m.expression k ≤ length s
      → length (stack_after m.expression k s cells) ≡ height_after m.expression k (length s)
  unfolding stack_after height_after
  height_after_lem {cells} p h = simp (length-append, length-drop) (omega (arith, left_cells p h))

  -- a supported instruction that has its cells is refused with one of 17 to 21 only
  pub faults_stepping : {n : ℕ} → done m k s v free ≡ faults n → needed m.expression k ≤ length s → kind_unsupported < kind_at m.expression k → Stepping n
  faults_stepping p h = rw p at (done_right h)

-- ---- setv alone sets a variable
other_class : (c : Class) → c ≢ setv → is_setv c ≡ false
other_class binary h = refl
other_class trace h = refl
other_class tracenz h = refl
other_class unary h = refl
other_class (ref n) h = refl
other_class (trace_quick n) h = refl
other_class ext h = refl
other_class zero_ext_of h = refl
other_class setv h = absurd (h refl)
other_class if_goto h = refl
other_class goto h = refl
other_class (constant n) h = refl
other_class reg h = refl
other_class getv h = refl
other_class tracev h = refl
other_class end h = refl
other_class dup h = refl
other_class pop h = refl
other_class swap h = refl
other_class pick h = refl
other_class rot h = refl
other_class unsupported h = refl
other_class unknown h = refl

pub unset_variables : (e : List ℕ) (k : ℕ) (s v : List ℕ) → class_at e k ≢ setv → variables_after e k s v ≡ v
unfolding variables_after
unset_variables e k s v h = rw (other_class (class_at e k) h) refl

-- where the machine goes from an instruction that is no end, a walk may go
pub after_offset : (e : List ℕ) (k : ℕ) (s : List ℕ) → kind_at e k ≢ kind_end → After e k (offset_after e k s)
unfolding offset_after
after_offset e k s h =
    by_test (After e k) (eqb (kind_at e k) kind_goto) _ _
    (λ p. let q : kind_at e k ≡ kind_goto = eqb-true _ _ p in target (omega arith) (omega arith) refl)
    λ p. by_test (After e k) (eqb (kind_at e k) kind_if_goto && not (eqb (get_or s 0 0) 0)) _ _
    (λ t. let q : kind_at e k ≡ kind_if_goto = eqb→eq _ _ (and_left (eqb (kind_at e k) kind_if_goto) (not (eqb (get_or s 0 0) 0)) (rw t tt)) in target (omega arith) (omega arith) refl)
    (λ t. onward (eqb-false _ _ p) h refl)
