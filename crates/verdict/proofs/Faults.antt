-- The refusal of each pass at a start, case by case.
use mathlib.Core.Bool.{true, false, cond}
use mathlib.Core.List.{List}
use mathlib.Core.Path.{◌≡◌}
use mathlib.Core.Logic.{◌≢◌}
use Prim.Native.Nat.{ℕ, ◌≤◌, ◌<◌}
use native.Mathlib.Omega.{arith}
use lib.ListN.{get_or, length}
use lib.Dec.{leb}
use borrow.Author.Tests.{eq-eqb, ne_eqb, lt-ltb, le-ltb, le-leb, lt-leb}
use Rattle.sizes.specs.Sizes.{variable_count}
use Rattle.logic.proofs.Promises.{cases}
use Rattle.isa.specs.Classes.{kind_unknown, kind_unsupported, kind_ext, kind_variable, kind_goto, kind_end}
use Rattle.isa.specs.Decode.{kind_at, next, operand, needed, height_after, jumps}
use Rattle.isa.specs.Starts.{is_start}
use Rattle.isa.proofs.Promises.{no_operands, start_below}
use Rattle.verdict.specs.Pass1.{operand_wrong, fault1}
use Rattle.verdict.specs.Pass2.{fault2}
use Rattle.verdict.specs.Pass3.{differing, runs_off_end, fault3}

-- ---- pass 1, at an offset
module _ (e : List ℕ) (i : ℕ) where
  pub f_unknown : kind_at e i ≡ kind_unknown → 2 ≡ fault1 e i
  unfolding fault1
  f_unknown h = rw (eq-eqb (kind_at e i) kind_unknown h)

  pub f_unsupported : kind_at e i ≡ kind_unsupported → 3 ≡ fault1 e i
  unfolding fault1
  f_unsupported h = rw h

  -- operands are cut short only where there are operands, so that the opcode is known
  pub f_short : i < length e → length e < next e i → 4 ≡ fault1 e i
  unfolding fault1
  f_short l h =
      cases kind_unsupported (kind_at e i)
      (λ p. rw (ne_eqb (kind_at e i) kind_unknown (omega arith), ne_eqb (kind_at e i) kind_unsupported (omega arith), lt-ltb (length e) (next e i) h))
      (λ p. absurd (omega (arith, no_operands (get_or e i 0) p)))

  module _ (fits : next e i ≤ length e) (known : kind_unsupported < kind_at e i) where
    f_operand : cond (operand_wrong e i) 5 0 ≡ fault1 e i
    unfolding fault1
    f_operand = rw (ne_eqb (kind_at e i) kind_unknown (omega arith), ne_eqb (kind_at e i) kind_unsupported (omega arith), le-ltb (length e) (next e i) fits)

    pub f_plain : kind_at e i ≢ kind_ext → kind_at e i ≢ kind_variable → 0 ≡ fault1 e i
    f_plain p q = rw (ne_eqb (kind_at e i) kind_ext p, ne_eqb (kind_at e i) kind_variable q) at f_operand

  module _ (fits : next e i ≤ length e) where
    pub f_ext_zero : kind_at e i ≡ kind_ext → operand e i ≡ 0 → 5 ≡ fault1 e i
    f_ext_zero k h = rw (k, h) at (f_operand fits (omega arith))

    pub f_ext_some : kind_at e i ≡ kind_ext → operand e i ≢ 0 → 0 ≡ fault1 e i
    f_ext_some k h = rw (k, ne_eqb (operand e i) 0 h) at (f_operand fits (omega arith))

    pub f_variable_high : kind_at e i ≡ kind_variable → variable_count ≤ operand e i → 5 ≡ fault1 e i
    f_variable_high k h = rw (k, le-leb variable_count (operand e i) h) at (f_operand fits (omega arith))

    pub f_variable_low : kind_at e i ≡ kind_variable → operand e i < variable_count → 0 ≡ fault1 e i
    f_variable_low k h = rw (k, lt-leb variable_count (operand e i) h) at (f_operand fits (omega arith))

-- ---- pass 2, at a jump
module _ (e : List ℕ) (k : ℕ) (j : jumps e k ≡ true) where
  pub f_no_start : is_start e (operand e k) ≡ false → 6 ≡ fault2 e k
  unfolding fault2
  f_no_start h = rw (j, h)

  pub f_past : length e ≤ operand e k → 6 ≡ fault2 e k
  f_past h = f_no_start (start_below e (operand e k) h)

  pub f_backward : is_start e (operand e k) ≡ true → operand e k ≤ k → 7 ≡ fault2 e k
  unfolding fault2
  f_backward h b = rw (j, h, le-leb (operand e k) k b)

  pub f_forward : is_start e (operand e k) ≡ true → k < operand e k → 0 ≡ fault2 e k
  unfolding fault2
  f_forward h b = rw (j, h, lt-leb (operand e k) k b)

-- an instruction that is no jump has no fault here
pub f_other : (e : List ℕ) (k : ℕ) → jumps e k ≡ false → fault2 e k ≡ 0
unfolding fault2
f_other e k j = rw j

-- ---- pass 3
module _ (e : List ℕ) (k : ℕ) where
  -- ---- running on past the last byte
  pub off_goto : kind_at e k ≡ kind_goto → false ≡ runs_off_end e k
  unfolding runs_off_end
  off_goto p = rw (eq-eqb (kind_at e k) kind_goto p)

  pub off_end : kind_at e k ≡ kind_end → false ≡ runs_off_end e k
  unfolding runs_off_end
  off_end p = rw p

  pub off_other : (x : ℕ) → kind_at e k ≢ kind_goto → kind_at e k ≢ kind_end → x ≡ next e k → leb (length e) x ≡ runs_off_end e k
  unfolding runs_off_end
  off_other x p q r = rw (ne_eqb (kind_at e k) kind_goto p, ne_eqb (kind_at e k) kind_end q, r)

  -- ---- the refusal at k, reached with height h, case by case
  module _ (h : ℕ) where
    pub fault_differing : h ≡ differing → 8 ≡ fault3 e k h
    unfolding fault3
    fault_differing p = rw (eq-eqb h differing p)

    module _ (same : h ≢ differing) where
      pub fault_few : h < needed e k → 9 ≡ fault3 e k h
      unfolding fault3
      fault_few p = rw (ne_eqb h differing same, lt-ltb h (needed e k) p)

      module _ (cells : needed e k ≤ h) where
        pub fault_many : 64 < height_after e k h → 10 ≡ fault3 e k h
        unfolding fault3
        fault_many p = rw (ne_eqb h differing same, le-ltb h (needed e k) cells, lt-ltb 64 (height_after e k h) p)

        module _ (room : height_after e k h ≤ 64) where
          pub fault_off : runs_off_end e k ≡ true → 11 ≡ fault3 e k h
          unfolding fault3
          fault_off p = rw (ne_eqb h differing same, le-ltb h (needed e k) cells, le-ltb 64 (height_after e k h) room, p)

          pub fault_none : runs_off_end e k ≡ false → 0 ≡ fault3 e k h
          unfolding fault3
          fault_none p = rw (ne_eqb h differing same, le-ltb h (needed e k) cells, le-ltb 64 (height_after e k h) room, p)
