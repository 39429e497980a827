-- Laws of the stack that an array and a height stand for.
use mathlib.Core.List.{List, ◌∷◌}
use mathlib.Core.Path.{◌≡◌, refl, ap, ◌∙◌}
use Prim.Native.Nat.{ℕ, zero, suc, ◌+◌, ◌-◌, ◌≤◌, ◌<◌}
use native.Mathlib.Nat.{sub-zero, not-suc-le-zero}
use native.Mathlib.Numerals.{add-one}
use native.Mathlib.Omega.{arith}
use lib.ListN.{length, drop, get_or, set}
use lib.Seq.{get_or-set_same, get_or-set_other}
use Rattle.isa.specs.Joining.Held.{held}

pub length_held : (a : List ℕ) (h : ℕ) → length (held a h) ≡ h
unfolding held
length_held a zero = refl
length_held a (suc h) = ap suc (length_held a h)

-- a stack with a cell is that cell and the rest
pub held_top : (a : List ℕ) (h : ℕ) → 1 ≤ h → held a h ≡ get_or (held a h) 0 0 ∷ drop 1 (held a h)
unfolding held
held_top a zero l = absurd (not-suc-le-zero l)
held_top a (suc h) l = refl

-- a store at or above the height does not show
held_set : (a : List ℕ) (h i v : ℕ) → h ≤ i → held (set a i v) h ≡ held a h
unfolding held
held_set a zero i v le = refl
held_set a (suc h) i v le = rw (get_or-set_other a i h v 0 (omega arith), held_set a h i v (omega arith))

held_push : (a : List ℕ) (h v : ℕ) → h < length a → held (set a h v) (h + 1) ≡ v ∷ held a h
unfolding held
held_push a h v lt = rw (add-one, get_or-set_same a h v 0 lt, held_set a h h v (omega arith))

-- a lower height takes cells off the top
pub held_drop : (a : List ℕ) (h n : ℕ) → n ≤ h → held a (h - n) ≡ drop n (held a h)
unfolding held
held_drop a h zero le = rw sub-zero
held_drop a zero (suc n) le = absurd (not-suc-le-zero le)
held_drop a (suc h) (suc n) le = let e : suc h - suc n ≡ h - n = omega arith in rw e (held_drop a h n (omega arith))

-- the cell n below the top
pub held_at : (a : List ℕ) (h n : ℕ) → n < h → get_or a (h - 1 - n) 0 ≡ get_or (held a h) n 0
unfolding held
held_at a zero n lt = absurd (not-suc-le-zero lt)
held_at a (suc h) zero lt = let e : suc h - 1 - 0 ≡ h = omega arith in rw e
held_at a (suc h) (suc n) lt = let e : suc h - 1 - suc n ≡ h - 1 - n = omega arith in rw e (held_at a h n (omega arith))

-- a cell in the place of the n topmost ones
pub held_replace : (a : List ℕ) (h n v : ℕ) → n ≤ h → h - n < length a → held (set a (h - n) v) (h - n + 1) ≡ v ∷ drop n (held a h)
held_replace a h n v le lt = held_push a (h - n) v lt ∙ ap (λ (t : List ℕ). v ∷ t) (held_drop a h n le)
