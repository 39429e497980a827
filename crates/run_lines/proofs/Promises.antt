-- What users of `run_lines` may cite. The contracts of src/ are the rest: each function appends the text that specs/
-- defines.
use Prim.Native.Nat.{ℕ, ◌^◌, ◌≤◌, ◌<◌}
use mathlib.Core.Bool.{true, false}
use mathlib.Core.List.{List, ◌++◌}
use mathlib.Core.Path.{◌≡◌}
use lib.ListN.{length}
use Rattle.text_buffer.specs.Text.{bytes_of}
use Rattle.machine.specs.Machine.{Answer}
use Rattle.run_lines.specs.Outcome.{fits_line, is_narrow, completed_text, change_by, change_text, IsWords}
use Rattle.run_lines.proofs.Columns as columns

-- ---- the answer of a completed run, whose numbers are words of 64 bits and whose steps are at most 1,024, as every run's
-- are, is a line of at most 100 columns, or two
pub narrow_line : (a : Answer) (n : ℕ) → is_narrow a n ≡ true → (l : List ℕ) × (completed_text a n ≡ l ++ bytes_of "\n") × (length l ≤ 100)
narrow_line = columns.one_line

pub wide_lines : (a : Answer) (n : ℕ) → is_narrow a n ≡ false → IsWords a → n ≤ 1024
    → (l : List ℕ) × (m : List ℕ) × (completed_text a n ≡ l ++ bytes_of "\n" ++ m ++ bytes_of "\n") × (length l ≤ 100) × (length m ≤ 100)
wide_lines = columns.two_lines

-- ---- so is the line for a variable that has changed
pub narrow_change : (j before after : ℕ) → fits_line (change_by (bytes_of " -> ") j before after) ≡ true
    → (l : List ℕ) × (change_text j before after ≡ l ++ bytes_of "\n") × (length l ≤ 100)
narrow_change = columns.one_change

pub wide_change : (j before after : ℕ) → fits_line (change_by (bytes_of " -> ") j before after) ≡ false → j < 64 → before < 2 ^ 64 → after < 2 ^ 64
    → (l : List ℕ) × (m : List ℕ) × (change_text j before after ≡ l ++ bytes_of "\n" ++ m ++ bytes_of "\n") × (length l ≤ 100) × (length m ≤ 100)
wide_change = columns.two_changes
