-- What a refusal says: "A refusal returns its number, the offset (0 for 1 and 12–15) and the steps done (0 where
-- nothing ran)" (document 01, "Running"). It is one value in every definition; the code's has the reason for the number.
use Rattle.std.specs.Prelude.{ℕ}
use Rattle.refusals.specs.declared.Refusal as code
use Rattle.refusals.specs.Numbers.{number_of}

-- number, offset, steps done
pub record Refusal : Type 0 where
  pub number : ℕ
  pub offset : ℕ
  pub steps : ℕ

abbrev pub refusal_after : ℕ → ℕ → ℕ → Refusal
refusal_after r k n = record { number = r; offset = k; steps = n }

-- number and offset, where nothing ran
abbrev pub refusal : ℕ → ℕ → Refusal
refusal r k = refusal_after r k 0

-- what a refusal of the code tells
abbrev pub told : code.Refusal → Refusal
told x = record { number = number_of x.reason; offset = x.offset; steps = x.steps }
