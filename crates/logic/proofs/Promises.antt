-- What users of `logic` may cite.
use mathlib.Core.Bool.{Bool, true, false, not, ◌&&◌}
use mathlib.Core.List.{List, ◌∷◌}
use mathlib.Core.Logic.{◌⊎◌, inl, inr}
use mathlib.Core.Path.{◌≡◌}
use Prim.Native.Nat.{ℕ, zero, suc, ◌≤◌, ◌<◌}
use native.Mathlib.Omega.{arith}
use native.Mathlib.Decide.{dec_lt, ℕ_discrete}
use lib.Dec.{T}
use borrow.Author.Tests.{eq-eqb, ne_eqb, not-true, not-false}
use Rattle.logic.specs.Tests.{member, up_to, Decides}

-- ---- numbers and truth values
-- a number is below another, or it is not
pub cases {ℓ} : {X : Type ℓ} (a b : ℕ) → (a < b → X) → (b ≤ a → X) → X
cases a b f g = elim (dec_lt a b) [ yes h ↦ f h | no h ↦ g (omega arith) ]

-- false is not true
pub no_true {ℓ} : {X : Type ℓ} → ◌≡◌ {A = Bool} false true → X
no_true p = absurd (let z : ◌≡◌ {A = ℕ} 0 1 = cc in omega arith)

pub and_left : (a b : Bool) → T (a && b) → T a
and_left true b t = tt
and_left false b t = t

pub and_right : (a b : Bool) → T (a && b) → T b
and_right true b t = t
and_right false b t = absurd t

-- a test that holds of every number below n holds of k
pub up_to_lem : (n : ℕ) (f : ℕ → Bool) → T (up_to n f) → (k : ℕ) → k < n → T (f k)
up_to_lem zero f t k h = absurd (omega arith)
up_to_lem (suc n) f t k h =
    elim (ℕ_discrete k n) [
      | yes e ↦ rw e (and_left (f n) (up_to n f) t)
      | no e ↦ up_to_lem n f (and_right (f n) (up_to n f) t) k (omega arith)
    ]

-- ---- the code's answer to `a ≤ b`, negated
pub not_fails : {r : Bool} {a b : ℕ} → Decides r a b → not r ≡ true → b < a
not_fails {r} d p = d.no (not-true r p)

pub not_holds : {r : Bool} {a b : ℕ} → Decides r a b → not r ≡ false → a ≤ b
not_holds {r} d p = d.yes (not-false r p)

-- ---- members of a list
pub member_cons : (k x : ℕ) (xs : List ℕ) → member k (x ∷ xs) ≡ true → (k ≡ x) ⊎ (member k xs ≡ true)
member_cons k x xs h = elim (ℕ_discrete k x) [ yes p ↦ inl p | no p ↦ inr (rw (ne_eqb k x p) at h) ]

pub member_here : (k x : ℕ) (xs : List ℕ) → k ≡ x → member k (x ∷ xs) ≡ true
member_here k x xs p = rw (eq-eqb k x p)

pub member_there : (k x : ℕ) (xs : List ℕ) → member k xs ≡ true → member k (x ∷ xs) ≡ true
member_there k x xs h = elim (ℕ_discrete k x) [ yes p ↦ member_here k x xs p | no p ↦ rw (ne_eqb k x p) h ]
