-- What users of `step_lines` may cite, besides the contract of `append_step`.
use Prim.Native.Nat.{ℕ, ◌^◌, ◌≤◌, ◌<◌}
use mathlib.Core.List.{List}
use lib.ListN.{length}
use Rattle.encoding.specs.Ranges.{AllBytes}
use Rattle.step_lines.specs.Step.{step_text}
use Rattle.step_lines.proofs.Columns as columns

-- the line of a step has at most 100 columns, and a line feed
pub step_narrow : (n : ℕ) (e : List ℕ) (k : ℕ) (s : List ℕ) → AllBytes e → n < 10 ^ 4 → k < 10 ^ 4 → length s < 100 → length (step_text n e k s) ≤ 101
step_narrow = columns.step_narrow
