-- Choices by a test.
use Rattle.std.proofs.Common.{◌≡◌, ℕ, zero, suc, Bool, true, false, cond, ◌≢◌, refl, arith}

pub cond_elim : {A : Type 0} (P : A → Type 0) (t : Bool) (x y : A) → (t ≡ true → P x) → (t ≡ false → P y) → P (cond t x y)
cond_elim P true x y f g = f refl
cond_elim P false x y f g = g refl

-- a number is 0, or it is not
pub zero_cases : {X : Type 0} (n : ℕ) → (n ≡ 0 → X) → (n ≢ 0 → X) → X
zero_cases zero f g = f refl
zero_cases (suc n) f g = g (λ e. omega arith)
