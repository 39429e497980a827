-- What came of a run by what is tested of it. Assumes nothing.
use Prim.Native.Nat.{ℕ, ◌<◌}
use native.Mathlib.Omega.{arith}
use mathlib.Core.Bool.{true, false}
use mathlib.Core.List.{List, [], ◌++◌}
use mathlib.Core.Path.{◌≡◌, sym, ◌∙◌}
use lib.Dec.{leb}
use lib.ListN.{length}
use borrow.Author.Tests.{le-leb, lt-leb}
use Rattle.logic.proofs.Promises.{cases}
use Rattle.text_buffer.specs.Text.{bytes_of, Text}
use Rattle.instruction_text.specs.Text.{is_instruction, plain_at}
use Rattle.refusals.specs.Refusal.{Refusal}
use Rattle.machine.specs.Machine.{Answer}
use Rattle.run_lines.specs.Outcome.{completed_by, fits_line, is_narrow, completed_text, is_of_instruction, instruction_line, change_by, change_text}

-- ---- one line or two
-- as it is found by writing the line l: r bytes of it were written, into a buffer that has room for more than 101
pub narrow_by : (l b : List ℕ) (r : ℕ) → Text b r l → 101 < length b → leb r 101 ≡ fits_line l
unfolding fits_line
narrow_by l b r t room =
    cases 101 (length l)
    (λ g. lt-leb r 101 (cases r (length b) (λ h. omega (arith, g, t.all h)) (λ h. omega (arith, h, room))) ∙ sym (lt-leb (length l) 101 g))
    (λ h. le-leb r 101 (omega (arith, t.most, h)) ∙ sym (le-leb (length l) 101 h))

module _ (a : Answer) (n : ℕ) where
  pub completed_one : is_narrow a n ≡ true → completed_by (bytes_of ", beneath ") a n ≡ completed_text a n
  unfolding completed_text
  completed_one q = rw q

  pub completed_two : is_narrow a n ≡ false → completed_by (bytes_of ",\n  beneath ") a n ≡ completed_text a n
  unfolding completed_text
  completed_two q = rw q

module _ (j before after : ℕ) where
  pub change_one : fits_line (change_by (bytes_of " -> ") j before after) ≡ true → change_by (bytes_of " -> ") j before after ≡ change_text j before after
  unfolding change_text
  change_one q = rw q

  pub change_two : fits_line (change_by (bytes_of " -> ") j before after) ≡ false → change_by (bytes_of "\n    -> ") j before after ≡ change_text j before after
  unfolding change_text
  change_two q = rw q

-- ---- the instruction of a refused run
module _ (e : List ℕ) (r : Refusal) where
  pub line_of_none : is_of_instruction r.number ≡ false → [] ≡ instruction_line e r
  unfolding instruction_line
  line_of_none q = rw q

  pub line_no_whole : is_of_instruction r.number ≡ true → is_instruction e r.offset ≡ false → [] ≡ instruction_line e r
  unfolding instruction_line
  line_no_whole q p = rw (q, p)

  pub line_of_some : is_of_instruction r.number ≡ true → is_instruction e r.offset ≡ true
      → bytes_of "  instruction: " ++ plain_at e r.offset ++ bytes_of "\n" ≡ instruction_line e r
  unfolding instruction_line
  line_of_some q p = rw (q, p)
