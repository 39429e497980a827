-- Lists of numbers below b, which are bytes or words.
use mathlib.Core.List.{List, [], ◌∷◌, ◌++◌}
use Prim.Native.Nat.{ℕ, zero, suc, ◌+◌, ◌<◌}
use native.Mathlib.Omega.{arith}
use lib.ListN.{take, drop, set}
use lib.Seq.{get_or-drop}
use Rattle.encoding.specs.Ranges.{Below}

module _ (b : ℕ) where
  pub below_cons : (x : ℕ) (l : List ℕ) → x < b → Below b l → Below b (x ∷ l)
  below_cons x l h t zero = h
  below_cons x l h t (suc i) = t i

  pub below_append : (k l : List ℕ) → Below b k → Below b l → Below b (k ++ l)
  below_append [] l h t = t
  below_append (x ∷ k) l h t = below_cons x (k ++ l) (h 0) (below_append k l (λ i. h (suc i)) t)

  pub below_take : (n : ℕ) (l : List ℕ) → Below b l → Below b (take n l)
  below_take zero l h = λ _. omega (arith, h 0)
  below_take (suc n) [] h = h
  below_take (suc n) (x ∷ l) h = below_cons x (take n l) (h 0) (below_take n l (λ i. h (suc i)))

  pub below_drop : (n : ℕ) (l : List ℕ) → Below b l → Below b (drop n l)
  below_drop n l h i = rw get_or-drop (h (n + i))

  pub below_set : (l : List ℕ) (i x : ℕ) → x < b → Below b l → Below b (set l i x)
  below_set [] i x t h = h
  below_set (y ∷ l) zero x t h = below_cons x l t (λ j. h (suc j))
  below_set (y ∷ l) (suc i) x t h = below_cons y (set l i x) (h 0) (below_set l i x t (λ j. h (suc j)))
