-- A buffer that fits, and one that does not.
use mathlib.Core.Bool.{Bool, true, false, ◌||◌}
use mathlib.Core.List.{List}
use mathlib.Core.Path.{◌≡◌, refl, sym, ◌∙◌}
use Prim.Native.Nat.{ℕ, ◌≤◌, ◌<◌}
use lib.ListN.{length}
use lib.Dec.{ltb}
use borrow.Author.Tests.{lt-ltb, le-ltb}
use Rattle.sizes.specs.Sizes.{buffer_most}
use Rattle.logic.proofs.Promises.{cases, no_true}
use Rattle.frames.specs.Buffer.{unfit}

module _ (l : List ℕ) (u : ℕ) where
  pub is_fit : length l ≤ buffer_most → u ≤ length l → unfit l u ≡ false
  is_fit h k = rw (le-ltb buffer_most (length l) h, le-ltb (length l) u k)

  pub too_large : buffer_most < length l → unfit l u ≡ true
  too_large h = rw (lt-ltb buffer_most (length l) h)

  too_far_by : (b : Bool) → length l < u → b || ltb (length l) u ≡ true
  too_far_by true h = refl
  too_far_by false h = lt-ltb (length l) u h

  pub too_far : length l < u → unfit l u ≡ true
  too_far h = too_far_by (ltb buffer_most (length l)) h

  pub fit_lengths : unfit l u ≡ false → (length l ≤ buffer_most) × (u ≤ length l)
  fit_lengths e =
      cases buffer_most (length l) (λ h. no_true (sym e ∙ too_large h)) λ h.
      cases (length l) u (λ k. no_true (sym e ∙ too_far k)) (λ k. (h, k))
