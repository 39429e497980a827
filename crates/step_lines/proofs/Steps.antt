-- The line of a step, by what is tested of it. Assumes nothing.
use Prim.Native.Nat.{ℕ, suc, ◌+◌, ◌-◌, ◌^◌, ◌≤◌, ◌<◌}
use native.Mathlib.Omega.{arith}
use mathlib.Core.Bool.{true, false}
use mathlib.Core.List.{List, [], ◌++◌}
use mathlib.Core.Path.{◌≡◌, refl, ap, sym, ◌∙◌}
use lib.Dec.{leb}
use lib.ListN.{length, get_or, drop}
use lib.Seq.{drop-cons}
use borrow.Author.Tests.{eq-eqb, ne_eqb, le-leb, lt-leb, lt-ltb, le-ltb}
use Rattle.logic.proofs.Promises.{cases}
use Rattle.text_buffer.specs.Text.{bytes_of, Text}
use Rattle.text_buffer.specs.Decimal.{decimal}
use Rattle.text_buffer.proofs.Promises.{drop_out}
use Rattle.phrases.specs.Numbers.{signed_text}
use Rattle.step_lines.specs.Step.{reading_text, cell_text, cells_text, more_text, stack_text, step_line, is_narrow, hidden_of}

-- ---- the signed reading is the same, or not
pub reading_same : (x : ℕ) → x < 2 ^ 63 → [] ≡ reading_text x
unfolding reading_text
reading_same x h = rw (lt-ltb x (2 ^ 63) h)

pub reading_other : (x : ℕ) → 2 ^ 63 ≤ x → bytes_of "(" ++ signed_text x ++ bytes_of ")" ≡ reading_text x
unfolding reading_text
reading_other x h = rw (le-ltb x (2 ^ 63) h)

-- ---- the cells
pub cells_part : (l : List ℕ) (i : ℕ) → i < length l → cell_text (get_or l i 0) ++ cells_text (drop (i + 1) l) ≡ cells_text (drop i l)
unfolding cells_text
cells_part l i h = let e : i + 1 ≡ suc i = omega arith in rw (e, drop-cons l i 0 h) refl

pub cells_end : (l : List ℕ) (i : ℕ) → length l ≤ i → [] ≡ cells_text (drop i l)
unfolding cells_text
cells_end l i h = rw (drop_out i l h) refl

-- ---- no cell hidden, or some
pub more_none : (h : ℕ) → h ≡ 0 → [] ≡ more_text h
unfolding more_text
more_none h e = rw (eq-eqb h 0 e)

pub more_some : (h : ℕ) → (h ≡ 0 → ⊥) → bytes_of " (" ++ decimal h ++ bytes_of " more)" ≡ more_text h
unfolding more_text
more_some h e = rw (ne_eqb h 0 e)

-- ---- no cell, or some
pub stack_none : (s : List ℕ) (h : ℕ) → length s ≡ 0 → bytes_of " empty" ≡ stack_text s h
unfolding stack_text
stack_none s h e = rw (eq-eqb (length s) 0 e)

pub stack_some : (s : List ℕ) (h : ℕ) → (length s ≡ 0 → ⊥) → more_text h ++ cells_text (drop h s) ≡ stack_text s h
unfolding stack_text
stack_some s h e = rw (ne_eqb (length s) 0 e)

-- ---- as many cells as fit
module _ (n : ℕ) (e : List ℕ) (k : ℕ) (s : List ℕ) where
  -- as it is found by writing the line: r bytes of it were written, into a buffer that has room for more than 101
  pub narrow_by : (h : ℕ) (b : List ℕ) (r : ℕ) → Text b r (step_line n e k s h) → 101 < length b → leb r 101 ≡ is_narrow n e k s h
  unfolding is_narrow
  narrow_by h b r t room =
      let l = step_line n e k s h in
      cases 101 (length l)
      (λ g. lt-leb r 101 (cases r (length b) (λ h. omega (arith, g, t.all h)) (λ h. omega (arith, h, room))) ∙ sym (lt-leb (length l) 101 g))
      (λ h. le-leb r 101 (omega (arith, t.most, h)) ∙ sym (le-leb (length l) 101 h))

  -- with i + 1 cells shown it is narrow, or not
  pub fits_by : (i : ℕ) → is_narrow n e k s (length s - suc i) ≡ true → length s - suc i ≡ hidden_of n e k s (suc i)
  unfolding hidden_of
  fits_by i q = rw q

  pub wide_by : (i : ℕ) → is_narrow n e k s (length s - suc i) ≡ false → hidden_of n e k s (suc i) ≡ hidden_of n e k s i
  unfolding hidden_of
  wide_by i q = rw q

  -- the same with j cells hidden
  module _ (j : ℕ) (h : j < length s) where
    shown : (length s - j ≡ suc (length s - (j + 1))) × (length s - suc (length s - (j + 1)) ≡ j)
    shown = (omega arith, omega arith)

    pub fits : is_narrow n e k s j ≡ true → j ≡ hidden_of n e k s (length s - j)
    fits q = rw shown.0 (sym shown.1 ∙ fits_by (length s - (j + 1)) (ap (is_narrow n e k s) shown.1 ∙ q))

    pub wide : is_narrow n e k s j ≡ false → hidden_of n e k s (length s - j) ≡ hidden_of n e k s (length s - (j + 1))
    wide q = rw shown.0 (wide_by (length s - (j + 1)) (ap (is_narrow n e k s) shown.1 ∙ q))

  pub none_fits : (j : ℕ) → length s ≤ j → length s ≡ hidden_of n e k s (length s - j)
  unfolding hidden_of
  none_fits j h = let z : length s - j ≡ 0 = omega arith in rw z refl
