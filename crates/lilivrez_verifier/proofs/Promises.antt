-- What users of the library may cite. The contract of src/lib.rt says what `lilivrez_verify` returns and stores, of any
-- bytes e; the rest follows from it.
use mathlib.Core.List.{List}
use mathlib.Core.Path.{◌≡◌}
use Prim.Native.Nat.{ℕ, ◌≤◌}
use Rattle.refusals.specs.Numbers.{runs_off}
use Rattle.verdict.specs.Verdict.{accepted, verdict}
use Rattle.lilivrez_verifier.specs.VerdictNumbers.{verdict_number}
use Rattle.lilivrez_verifier.proofs.Numbers as numbers

module _ (e : List ℕ) where
  -- a number returned is one of 0 to 11
  pub number_most : verdict_number (verdict e) ≤ runs_off
  number_most = numbers.number_most e

  -- and 0 is returned only where the expression is accepted
  pub number_0 : verdict_number (verdict e) ≡ 0 → (n : ℕ) × (g : ℕ) × (l : ℕ) × (verdict e ≡ accepted n g l)
  number_0 = numbers.number_0 e
