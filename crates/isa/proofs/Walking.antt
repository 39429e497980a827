-- Laws of walks.
use mathlib.Core.Bool.{true}
use mathlib.Core.List.{List, [], ◌∷◌, ◌++◌}
use mathlib.Core.Path.{◌≡◌, refl, ap, ◌∙◌}
use Prim.Native.Nat.{ℕ, ◌+◌}
use native.Mathlib.Nat.{add-zero}
use native.Mathlib.Omega.{arith}
use lib.ListN.{length}
use Rattle.isa.specs.Decode.{height_after}
use Rattle.isa.specs.Starts.{is_start}
use Rattle.isa.specs.Walk.{After, Walk, stop, step, weigh, one}

-- a walk ends at a start
pub walk_last : {e : List ℕ} {k h j u : ℕ} {w : List ℕ} → Walk e k h w j u → is_start e j ≡ true
walk_last (stop s) = s
walk_last (step s a w) = walk_last w

-- a walk may go on
pub walk_on : {e : List ℕ} {k h j u m : ℕ} {w : List ℕ} → Walk e k h w j u → After e j m → is_start e m ≡ true
    → Walk e k h (w ++ (m ∷ [])) m (height_after e j u)
walk_on (stop s) a t = step s a (stop t)
walk_on (step s b w) a t = step s b (walk_on w a t)

-- a walk to j and a walk from j make one, in which j stands once
pub record Joined (e : List ℕ) (k h i t : ℕ) (v w : List ℕ) : Type 0 where
  pub list : List ℕ
  pub walk : Walk e k h list i t
  pub long : length list + 1 ≡ length v + length w

pub walk_join : {e : List ℕ} {k h j u i t : ℕ} {v w : List ℕ} → Walk e k h v j u → Walk e j u w i t → Joined e k h i t v w
walk_join {w = w} (stop s) x = record { list = w; walk = x; long = omega arith }
walk_join (step {k = k} s a v) x =
    let r = walk_join v x in
    record { list = k ∷ r.list; walk = step s a r.walk; long = omega (arith, r.long) }

-- ---- weights
weigh_append : (f : ℕ → ℕ) (v w : List ℕ) → weigh f (v ++ w) ≡ weigh f v + weigh f w
unfolding weigh
weigh_append f [] w = omega arith
weigh_append f (k ∷ v) w = let r = weigh_append f v w in omega arith

pub weigh_on : (f : ℕ → ℕ) (w : List ℕ) (m : ℕ) → weigh f (w ++ (m ∷ [])) ≡ weigh f w + f m
unfolding weigh
weigh_on f w m = weigh_append f w (m ∷ []) ∙ ap (λ (x : ℕ). weigh f w + x) (add-zero (f m))

-- with weight 1 it is the length
pub weigh_one : (w : List ℕ) → weigh one w ≡ length w
unfolding weigh
weigh_one [] = refl
weigh_one (k ∷ w) = let r = weigh_one w in omega arith
