-- How wide the lines for a completed run are. Assumes nothing.
use Prim.Native.Nat.{ℕ, ◌^◌, ◌≤◌, ◌<◌}
use native.Mathlib.Omega.{arith}
use mathlib.Core.Bool.{true, false}
use mathlib.Core.List.{List, ◌++◌, append_assoc}
use mathlib.Core.Path.{◌≡◌, refl, sym, ap, ◌∙◌}
use lib.ListN.{length, length-append}
use borrow.Author.Tests.{leb-true, leb-false}
use Rattle.text_buffer.specs.Text.{bytes_of}
use Rattle.text_buffer.specs.Decimal.{decimal_by, decimal}
use Rattle.text_buffer.proofs.Promises.{digits_decimal, decimal_most}
use Rattle.machine.specs.Machine.{Answer, no_value, top, top_and_beneath}
use Rattle.phrases.specs.Numbers.{count_text, hex_text, significant, signed_text, other_reading, value_text}
use Rattle.phrases.proofs.Promises.{count_most, value_length}
use Rattle.run_lines.specs.Outcome.{steps_text, cells_text, completed_by, fits_line, is_narrow, completed_text, change_by, change_text, IsWords}
use Rattle.run_lines.proofs.Outcomes.{completed_one, completed_two, change_one, change_two}

-- no run takes more than 1,024 steps
steps_length : (n : ℕ) → n ≤ 1024 → length (bytes_of "completed" ++ steps_text n) ≤ 28
unfolding steps_text
steps_length n h =
    let c = count_text n (bytes_of "step") in
    omega (
      arith,
      count_most n (bytes_of "step") 3 (omega arith),
      length-append (bytes_of "completed") (bytes_of " after " ++ c ++ bytes_of ": "),
      length-append (bytes_of " after " ++ c) (bytes_of ": "),
      length-append (bytes_of " after ") c,
    )

-- ---- one line
pub one_line : (a : Answer) (n : ℕ) → is_narrow a n ≡ true → (l : List ℕ) × (completed_text a n ≡ l ++ bytes_of "\n") × (length l ≤ 100)
unfolding completed_by fits_line is_narrow
one_line a n q =
    let l = bytes_of "completed" ++ steps_text n ++ cells_text a (bytes_of ", beneath ") in
    (l, sym (completed_one a n q), omega (arith, leb-true (length (l ++ bytes_of "\n")) 101 q, length-append l (bytes_of "\n")))

-- ---- two lines: no value, and the top alone, are not too wide for one
short_line : (a : Answer) (n : ℕ) → n ≤ 1024 → length (cells_text a (bytes_of ", beneath ")) ≤ 72 → length (completed_by (bytes_of ", beneath ") a n) ≤ 101
unfolding completed_by
short_line a n h w =
    let b = bytes_of "completed" ++ steps_text n in
    let c = cells_text a (bytes_of ", beneath ") in
    omega (arith, steps_length n h, w, length-append b c, length-append (b ++ c) (bytes_of "\n"))

pub two_lines : (a : Answer) (n : ℕ) → is_narrow a n ≡ false → IsWords a → n ≤ 1024
    → (l : List ℕ) × (m : List ℕ) × (completed_text a n ≡ l ++ bytes_of "\n" ++ m ++ bytes_of "\n") × (length l ≤ 100) × (length m ≤ 100)
unfolding cells_text completed_by fits_line is_narrow
two_lines no_value n q w h = absurd (omega (arith, leb-false (length (completed_by (bytes_of ", beneath ") no_value n)) 101 q, short_line no_value n h (omega arith)))
two_lines (top x) n q w h =
    absurd
    (omega (
      arith,
      leb-false (length (completed_by (bytes_of ", beneath ") (top x) n)) 101 q,
      short_line (top x) n h (omega (arith, value_length x w, length-append (bytes_of "top ") (value_text x))),
    ))
two_lines (top_and_beneath x y) n q w h =
    let b = bytes_of "completed" ++ steps_text n in
    let t = bytes_of "top " ++ value_text x in
    let l = b ++ t ++ bytes_of "," in
    let m = bytes_of "  beneath " ++ value_text y in
    let s = bytes_of ",\n  beneath " in
    let e : b ++ (t ++ s ++ value_text y) ≡ l ++ bytes_of "\n" ++ m = ap (λ (z : List ℕ). b ++ z) (append_assoc t s (value_text y))
    ∙ sym (append_assoc b t (s ++ value_text y))
    ∙ sym (append_assoc (b ++ t) (bytes_of ",") (bytes_of "\n" ++ m))
    ∙ sym (append_assoc l (bytes_of "\n") m) in (
      l,
      m,
      sym (completed_two (top_and_beneath x y) n q) ∙ ap (λ (z : List ℕ). z ++ bytes_of "\n") e,
      omega (arith, steps_length n h, value_length x w.0, length-append (bytes_of "top ") (value_text x), length-append b t, length-append (b ++ t) (bytes_of ",")),
      omega (arith, value_length y w.1, length-append (bytes_of "  beneath ") (value_text y)),
    )

-- ---- a variable that has changed
pub one_change : (j before after : ℕ) → fits_line (change_by (bytes_of " -> ") j before after) ≡ true
    → (l : List ℕ) × (change_text j before after ≡ l ++ bytes_of "\n") × (length l ≤ 100)
unfolding change_by fits_line
one_change j before after q =
    let l = bytes_of "  variable " ++ decimal j ++ bytes_of ": " ++ value_text before ++ bytes_of " -> " ++ value_text after in
    (l, sym (change_one j before after q), omega (arith, leb-true (length (l ++ bytes_of "\n")) 101 q, length-append l (bytes_of "\n")))

pub two_changes : (j before after : ℕ) → fits_line (change_by (bytes_of " -> ") j before after) ≡ false → j < 64 → before < 2 ^ 64 → after < 2 ^ 64
    → (l : List ℕ) × (m : List ℕ) × (change_text j before after ≡ l ++ bytes_of "\n" ++ m ++ bytes_of "\n") × (length l ≤ 100) × (length m ≤ 100)
unfolding change_by
two_changes j before after q h hb ha =
    let d = bytes_of "  variable " ++ decimal j in
    let l = d ++ bytes_of ": " ++ value_text before in
    let m = bytes_of "    -> " ++ value_text after in
    let e : l ++ (bytes_of "\n    -> ") ++ value_text after ≡ l ++ bytes_of "\n" ++ m = append_assoc l (bytes_of "\n    -> ") (value_text after) ∙ sym (append_assoc l (bytes_of "\n") m) in (
      l,
      m,
      sym (change_two j before after q) ∙ ap (λ (z : List ℕ). z ++ bytes_of "\n") e,
      omega (arith, decimal_most j 1 (omega (arith, h)), value_length before hb, length-append (bytes_of "  variable ") (decimal j), length-append d (bytes_of ": "), length-append (d ++ bytes_of ": ") (value_text before)),
      omega (arith, value_length after ha, length-append (bytes_of "    -> ") (value_text after)),
    )

-- ---- an example; `decimal` computes in as many steps as the number is large
largest : decimal 18446744073709551615 ≡ bytes_of "18446744073709551615"
largest = sym (digits_decimal 20 18446744073709551615 (omega arith, omega arith, λ h. omega arith))

small : decimal 3 ≡ bytes_of "3"
unfolding decimal_by decimal
small = refl

one : decimal 1 ≡ bytes_of "1"
unfolding decimal_by decimal
one = refl

a_wide_run : completed_text (top_and_beneath 18446744073709551615 18446744073709551615) 3
    ≡ bytes_of "completed after 3 steps: top 18446744073709551615 (-1, 0xffffffffffffffff),\n  beneath 18446744073709551615 (-1, 0xffffffffffffffff)\n"
unfolding count_text hex_text significant signed_text other_reading value_text steps_text cells_text completed_by fits_line is_narrow completed_text
a_wide_run = rw (largest, small, one)
