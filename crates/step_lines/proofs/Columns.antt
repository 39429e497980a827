-- How wide the line of a step is. Assumes nothing.
use Prim.Native.Nat.{ℕ, zero, suc, ◌-◌, ◌^◌, ◌≤◌, ◌<◌}
use native.Mathlib.Omega.{arith}
use mathlib.Core.Bool.{Bool, true, false, cond}
use mathlib.Core.List.{List, [], ◌∷◌, ◌++◌}
use mathlib.Core.Path.{◌≡◌, refl, ap}
use lib.ListN.{length, get_or, drop, replicate, length-append, length-replicate}
use borrow.Author.Tests.{leb-true}
use Rattle.logic.proofs.Promises.{cases}
use Rattle.encoding.specs.Ranges.{AllBytes}
use Rattle.isa.specs.Decode.{operand_bytes, operand}
use Rattle.text_buffer.specs.Text.{bytes_of}
use Rattle.text_buffer.specs.Decimal.{decimal}
use Rattle.text_buffer.proofs.Promises.{decimal_most}
use Rattle.instruction_text.specs.Names.{name_of}
use Rattle.instruction_text.specs.Text.{aligned, operand_text, text_of, text_at, named_at, is_instruction, plain_at}
use Rattle.instruction_text.proofs.Promises.{text_length}
use Rattle.step_lines.specs.Step.{cells_text, more_text, stack_text, place_text, step_line, is_narrow, hidden_of, step_text}
use Rattle.step_lines.proofs.Steps.{cells_end, more_some, stack_none, stack_some, fits_by, wide_by}

-- the text of an instruction with its offset, blanks and a line feed has fewer than 64 characters
named_most : (e : List ℕ) → AllBytes e → (k : ℕ) → k < 2 ^ 64 → length (named_at e k) ≤ 57
unfolding named_at text_at text_of aligned
named_most e low k h =
    let d = decimal k in
    let n = name_of (get_or e k 0) in
    let q = operand_text (operand_bytes e k) (operand e k) in
    omega (
      arith,
      text_length e low k h,
      length-append (replicate (3 - length d) 32 ++ d) ((32 ∷ 32 ∷ []) ++ (n ++ (q ++ (10 ∷ [])))),
      length-append (replicate (3 - length d) 32) d,
      length-replicate {A = ℕ} (3 - length d) 32,
      length-append n (q ++ (10 ∷ [])),
      length-append q (10 ∷ []),
      length-append n q,
    )

plain_most : (e : List ℕ) → AllBytes e → (k : ℕ) → k < 2 ^ 64 → length (plain_at e k) ≤ 57
unfolding plain_at
plain_most e low k h = elim (is_instruction e k) as (λ (b : Bool). length (cond b (named_at e k) []) ≤ 57) [ true ↦ named_most e low k h | false ↦ omega arith ]

-- no cell shown
stack_most : (s : List ℕ) → length s < 100 → length (stack_text s (length s)) ≤ 10
stack_most s h =
    let d = decimal (length s) in
    cases 0 (length s)
    (λ g. let z : length s ≡ 0 → ⊥ = λ q. omega arith in
    omega (
      arith,
      ap length (stack_some s (length s) z),
      length-append (more_text (length s)) (cells_text (drop (length s) s)),
      ap length (cells_end s (length s) (omega arith)),
      ap length (more_some (length s) z),
      length-append (bytes_of " (" ++ d) (bytes_of " more)"),
      length-append (bytes_of " (") d,
      decimal_most (length s) 1 (omega arith),
    ))
    (λ l. omega (arith, ap length (stack_none s (length s) (omega arith))))

module _ (n : ℕ) (e : List ℕ) (k : ℕ) (s : List ℕ) where
  none_shown : AllBytes e → n < 10 ^ 4 → k < 10 ^ 4 → length s < 100 → length (step_line n e k s (length s)) ≤ 101
  unfolding step_line place_text
  none_shown low hn hk hs =
      let p = bytes_of "  step " ++ decimal n ++ bytes_of ": offset " ++ decimal k ++ bytes_of ", " in
      let i = plain_at e k in
      let t = stack_text s (length s) in
      omega (
        arith,
        decimal_most n 3 hn,
        decimal_most k 3 hk,
        plain_most e low k (omega arith),
        stack_most s hs,
        length-append (bytes_of "  step " ++ decimal n ++ bytes_of ": offset " ++ decimal k) (bytes_of ", "),
        length-append (bytes_of "  step " ++ decimal n ++ bytes_of ": offset ") (decimal k),
        length-append (bytes_of "  step " ++ decimal n) (bytes_of ": offset "),
        length-append (bytes_of "  step ") (decimal n),
        length-append (p ++ i ++ bytes_of ", stack" ++ t) (bytes_of "\n"),
        length-append (p ++ i ++ bytes_of ", stack") t,
        length-append (p ++ i) (bytes_of ", stack"),
        length-append p i,
      )

  narrow_by_test : (i : ℕ) (b : Bool) → is_narrow n e k s (length s - suc i) ≡ b → length (step_line n e k s (hidden_of n e k s i)) ≤ 101 → length (step_line n e k s (hidden_of n e k s (suc i))) ≤ 101
  unfolding is_narrow
  narrow_by_test i true q h = rw (← (fits_by n e k s i q)) (leb-true _ _ q)
  narrow_by_test i false q h = rw (wide_by n e k s i q) h

  shown_narrow : length (step_line n e k s (length s)) ≤ 101 → (i : ℕ) → length (step_line n e k s (hidden_of n e k s i)) ≤ 101
  unfolding hidden_of
  shown_narrow h zero = h
  shown_narrow h (suc i) = narrow_by_test i (is_narrow n e k s (length s - suc i)) refl (shown_narrow h i)

  pub step_narrow : AllBytes e → n < 10 ^ 4 → k < 10 ^ 4 → length s < 100 → length (step_text n e k s) ≤ 101
  unfolding step_text
  step_narrow low hn hk hs = shown_narrow (none_shown low hn hk hs) (length s)
