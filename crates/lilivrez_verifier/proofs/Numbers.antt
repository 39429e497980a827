-- What the number says by itself.
use mathlib.Core.List.{List}
use mathlib.Core.Path.{◌≡◌, refl}
use Prim.Native.Nat.{ℕ, ◌≤◌}
use native.Mathlib.Omega.{arith}
use Rattle.refusals.specs.Numbers.{runs_off}
use Rattle.verdict.specs.Verdict.{Verdict, accepted, refused, verdict}
use Rattle.verdict.proofs.Promises.{refused_number}
use Rattle.lilivrez_verifier.specs.VerdictNumbers.{verdict_number}

module _ (e : List ℕ) where
  low : (v : Verdict) → verdict e ≡ v → verdict_number v ≤ runs_off
  unfolding verdict_number
  low (accepted n g l) p = omega arith
  low (refused x) p = (refused_number e p).1

  pub number_most : verdict_number (verdict e) ≤ runs_off
  number_most = low (verdict e) refl

  zero : (v : Verdict) → verdict e ≡ v → verdict_number v ≡ 0 → (n : ℕ) × (g : ℕ) × (l : ℕ) × (verdict e ≡ accepted n g l)
  unfolding verdict_number
  zero (accepted n g l) p z = (n, g, l, p)
  zero (refused x) p z = absurd (omega (arith, refused_number e p))

  pub number_0 : verdict_number (verdict e) ≡ 0 → (n : ℕ) × (g : ℕ) × (l : ℕ) × (verdict e ≡ accepted n g l)
  number_0 = zero (verdict e) refl
