-- Texts are the same, or they are not. Assumes nothing.
use Prim.Native.Nat.{ℕ}
use mathlib.Core.Bool.{Bool, true, false}
use mathlib.Core.List.{List, [], ◌∷◌}
use mathlib.Core.Path.{◌≡◌, refl, ap, subst, ◌∙◌}
use lib.Dec.{T, eqb, eqb→eq, eqb_refl}
use Rattle.logic.proofs.Promises.{and_left, and_right}
use Rattle.line_words.specs.Words.{same_bytes}
use Rattle.line_words.proofs.Leading.{both}

pub same_sound : (xs ys : List ℕ) → T (same_bytes xs ys) → xs ≡ ys
same_sound [] [] t = refl
same_sound [] (y ∷ ys) t = absurd t
same_sound (x ∷ xs) [] t = absurd t
same_sound (x ∷ xs) (y ∷ ys) t =
    let e : x ≡ y = eqb→eq x y (and_left (eqb x y) (same_bytes xs ys) t) in
    let f = same_sound xs ys (and_right (eqb x y) (same_bytes xs ys) t) in
    ap (λ (z : ℕ). z ∷ xs) e ∙ ap (λ (l : List ℕ). y ∷ l) f

same_refl : (xs : List ℕ) → T (same_bytes xs xs)
same_refl [] = tt
same_refl (x ∷ xs) = both (eqb x x) (same_bytes xs xs) (eqb_refl x) (same_refl xs)

agree : (r b : Bool) → (r ≡ true → T b) → (T b → r ≡ true) → r ≡ b
agree true true f g = refl
agree true false f g = absurd (f refl)
agree false true f g = g tt
agree false false f g = refl

-- the answer of the library's comparison
pub same_decides : (r : Bool) (xs ys : List ℕ) → (r ≡ true → xs ≡ ys) × (xs ≡ ys → r ≡ true) → r ≡ same_bytes xs ys
same_decides r xs ys d = agree r (same_bytes xs ys) (λ e. subst (λ (l : List ℕ). T (same_bytes xs l)) (d.0 e) (same_refl xs)) (λ t. d.1 (same_sound xs ys t))
