-- The words and the instructions that can be refused, case by case.
use mathlib.Core.Bool.{Bool, true, false}
use mathlib.Core.List.{List, [], ◌∷◌}
use mathlib.Core.Path.{◌≡◌, refl, ap, sym, ◌∙◌}
use mathlib.Core.Logic.{◌≢◌}
use Prim.Native.Nat.{ℕ, ◌≤◌, ◌<◌}
use native.Mathlib.Omega.{arith}
use native.Mathlib.Decide.{ℕ_discrete}
use lib.ListN.{length, get_or, take}
use lib.Dec.{leb}
use borrow.Author.Tests.{eq-eqb, ne_eqb, le-leb, lt-leb, lt-ltb, le-ltb}
use Rattle.refusals.specs.Numbers.{divisor_zero, register_not_lent, range_not_readable}
use Rattle.encoding.specs.LittleEndian.{little_endian}
use Rattle.logic.proofs.Promises.{no_true}
use Rattle.memory.specs.Spans.{Target, spans_refusal}
use Rattle.memory.specs.Fetch.{rest_of}
use Rattle.memory.proofs.Promises.{rest_test, rest_fetched}
use Rattle.arithmetic.specs.Words.{less_unsigned, log_not, bit_not}
use Rattle.machine.specs.Words.{binary_word, divides, zero_divisor, unary_word}
use Rattle.machine.specs.Meaning.{leaves, faults, binary_done, ref_done, reg_done}

-- ---- the divisor
module _ (op b : ℕ) where
  pub divisor_some : b ≢ 0 → false ≡ zero_divisor op b
  unfolding zero_divisor
  divisor_some h = rw (ne_eqb b 0 h)

  pub divisor_low : b ≡ 0 → op < 5 → false ≡ zero_divisor op b
  unfolding zero_divisor
  divisor_low h l = rw (eq-eqb b 0 h, lt-leb 5 op l)

  pub divisor_high : b ≡ 0 → 5 ≤ op → leb op 8 ≡ zero_divisor op b
  unfolding zero_divisor
  divisor_high h l = rw (eq-eqb b 0 h, le-leb 5 op l)

-- a divider whose test is false has a divisor
pub divisor_positive : (k op b : ℕ) → op ≡ k → divides k ≡ true → zero_divisor op b ≡ false → 0 < b
unfolding zero_divisor
divisor_positive k op b e d h =
    elim (ℕ_discrete b 0) [
      | yes p ↦ no_true (sym (rw (e, eq-eqb b 0 p, d) at h))
      | no p ↦ omega arith
    ]

-- ---- words
pub binary_at : (k op a b : ℕ) → op ≡ k → binary_word k a b ≡ binary_word op a b
binary_at k op a b e = ap (λ (x : ℕ). binary_word x a b) (sym e)

pub unary_not : (op a : ℕ) → op ≡ 0x0e → log_not a ≡ unary_word op a
unfolding unary_word
unary_not op a h = rw (eq-eqb op 0x0e h)

pub unary_bits : (op a : ℕ) → op ≢ 0x0e → bit_not a ≡ unary_word op a
unfolding unary_word
unary_bits op a h = rw (ne_eqb op 0x0e h)

-- ---- instructions that can be refused
module _ (op : ℕ) (s : List ℕ) {a b : ℕ} {t : Bool} (under : a ≡ get_or s 1 0) (over : b ≡ get_or s 0 0) (test : t ≡ zero_divisor op b) where
  pub binary_refused : t ≡ true → binary_done op s ≡ faults divisor_zero
  unfolding binary_done
  binary_refused h = rw (ap (zero_divisor op) (sym over) ∙ sym test ∙ h)

  pub binary_left : t ≡ false → {w : ℕ} → w ≡ binary_word op a b → binary_done op s ≡ leaves (w ∷ []) []
  unfolding binary_done
  binary_left h e = rw (ap (zero_divisor op) (sym over) ∙ sym test ∙ h) (rw (e, under, over) refl)

module _ (t : Target) (n : ℕ) (s : List ℕ) (fine : spans_refusal t ≡ 0) (some : 1 ≤ n) {r : List ℕ} {a : ℕ}
    (lent : r ≡ rest_of t a) (top : a ≡ get_or s 0 0) where
  same_rest : rest_of t (get_or s 0 0) ≡ r
  same_rest = ap (rest_of t) (sym top) ∙ sym lent

  pub ref_left : n ≤ length r → ref_done t n s ≡ leaves (little_endian (take n r) ∷ []) []
  unfolding ref_done
  ref_left h =
      rw (rest_test t fine (get_or s 0 0) n some, same_rest, le-leb n (length r) h)
      (ap (λ (l : List ℕ). leaves (little_endian l ∷ []) []) (rest_fetched t fine (get_or s 0 0) n (rw same_rest h) ∙ ap (take n) same_rest))

  pub ref_refused : length r < n → ref_done t n s ≡ faults range_not_readable
  unfolding ref_done
  ref_refused h = rw (rest_test t fine (get_or s 0 0) n some, same_rest, lt-leb n (length r) h)

module _ (registers : List ℕ) {k n : ℕ} (e : k ≡ n) where
  pub reg_left : k < length registers → reg_done registers n ≡ leaves (get_or registers k 0 ∷ []) []
  unfolding reg_done
  reg_left h = rw (← e, lt-ltb k (length registers) h)

  pub reg_refused : length registers ≤ k → reg_done registers n ≡ faults register_not_lent
  unfolding reg_done
  reg_refused h = rw (← e, le-ltb k (length registers) h)

-- ---- the last operator of the dispatch
abbrev pub NoneOf15 : ℕ → Type 0
NoneOf15 op = (((((((((((((((Unit {0} × (op ≡ 2 → ⊥)) × (op ≡ 3 → ⊥)) × (op ≡ 4 → ⊥)) × (op ≡ 5 → ⊥)) × (op ≡ 6 → ⊥)) × (op ≡ 7 → ⊥)) × (op ≡ 8 → ⊥)) × (op ≡ 9 → ⊥)) × (op ≡ 10 → ⊥)) × (op ≡ 11 → ⊥)) × (op ≡ 15 → ⊥)) × (op ≡ 16 → ⊥)) × (op ≡ 17 → ⊥)) × (op ≡ 19 → ⊥)) × (op ≡ 20 → ⊥))

pub binary_else : (op a b : ℕ) → NoneOf15 op → less_unsigned a b ≡ binary_word op a b
unfolding binary_word
binary_else op a b h =
    rw (
      ne_eqb op 2 h.0.0.0.0.0.0.0.0.0.0.0.0.0.0.1,
      ne_eqb op 3 h.0.0.0.0.0.0.0.0.0.0.0.0.0.1,
      ne_eqb op 4 h.0.0.0.0.0.0.0.0.0.0.0.0.1,
      ne_eqb op 5 h.0.0.0.0.0.0.0.0.0.0.0.1,
      ne_eqb op 6 h.0.0.0.0.0.0.0.0.0.0.1,
      ne_eqb op 7 h.0.0.0.0.0.0.0.0.0.1,
      ne_eqb op 8 h.0.0.0.0.0.0.0.0.1,
      ne_eqb op 9 h.0.0.0.0.0.0.0.1,
      ne_eqb op 10 h.0.0.0.0.0.0.1,
      ne_eqb op 11 h.0.0.0.0.0.1,
      ne_eqb op 15 h.0.0.0.0.1,
      ne_eqb op 16 h.0.0.0.1,
      ne_eqb op 17 h.0.0.1,
      ne_eqb op 19 h.0.1,
      ne_eqb op 20 h.1,
    )
