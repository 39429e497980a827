-- Bytes moved to the end: the bytes before are as they were. Assumes nothing.
use Prim.Native.Nat.{ℕ, ◌+◌, ◌-◌, ◌≤◌, ◌<◌}
use native.Mathlib.Omega.{arith}
use mathlib.Core.List.{List, ◌++◌, append-nil}
use mathlib.Core.Path.{◌≡◌, sym, ap, ◌∙◌}
use lib.ListN.{length, take, drop, length-append, length-take, length-drop, drop_of_length-le}
use lib.Seq.{take-append-le, take-take, take_all, drop_at}
use Rattle.std.specs.List.{copy_within}
use borrow.Author.Tests.{le-leb, lt-leb}
use Rattle.logic.proofs.Promises.{cases}
use Rattle.span_room.specs.Room.{last_of, moved_to_end}

-- n bytes go from `from` up to `to`, at the end of l
record Rises (l : List ℕ) (from to n : ℕ) : Type 0 where
  up : from ≤ to
  end : to + n ≡ length l

raised : List ℕ → ℕ → ℕ → ℕ → List ℕ
raised l from to n = take to l ++ take n (drop from l)

module _ (l : List ℕ) (from to n : ℕ) (r : Rises l from to n) where
  raised_length : length (raised l from to n) ≡ length l
  unfolding raised
  raised_length =
      omega (arith, length-append (take to l) (take n (drop from l)), length-take to l, length-take n (drop from l), length-drop from l, r.end, r.up)

  front_length : length (take to l) ≡ to
  front_length = omega (arith, length-take to l, r.end)

-- ---- the last bytes, and the part of a slice that they are
module _ (l : List ℕ) (n : ℕ) where
  pub last_part : take (length l - (length l - n)) (drop (length l - n) l) ≡ last_of n l
  unfolding last_of
  last_part = take_all (length l - (length l - n)) (drop (length l - n) l) (omega (arith, length-drop (length l - n) l))

-- ---- the whole
module _ (l : List ℕ) (from n : ℕ) where
  pub moves_none : length l < from + n → l ≡ moved_to_end l from n
  unfolding moved_to_end
  moves_none h = rw (lt-leb (from + n) (length l) h)

  moves_all : from + n ≤ length l → raised l from (length l - n) n ≡ moved_to_end l from n
  unfolding moved_to_end raised
  moves_all h = rw (le-leb (from + n) (length l) h)

  -- what the library's copy leaves
  pub moves_copied : from + n ≤ length l → copy_within l from (from + n) (length l - n) ≡ moved_to_end l from n
  unfolding raised
  moves_copied h =
      let t = length l - n in
      let e : from + n - from ≡ n = omega arith in
      ap (λ (m : ℕ). take t l ++ take m (drop from l) ++ drop (t + m) l) e
      ∙ ap (λ (r : List ℕ). take t l ++ take n (drop from l) ++ r) (drop_of_length-le l (omega (arith, h)))
      ∙ append-nil (take t l ++ take n (drop from l))
      ∙ moves_all h

  rises : from + n ≤ length l → Rises l from (length l - n) n
  rises h = record { up = omega (arith, h); end = omega (arith, h) }

  pub last_moved : from + n ≤ length l → last_of n (moved_to_end l from n) ≡ take n (drop from l)
  unfolding last_of raised
  last_moved h =
      let t = length l - n in
      let z = raised_length l from t n (rises h) in
      ap (last_of n) (sym (moves_all h))
      ∙ ap (λ (k : ℕ). drop (k - n) (take t l ++ take n (drop from l))) z
      ∙ drop_at (take t l) (take n (drop from l)) t (front_length l from t n (rises h))

  pub front_kept : (k : ℕ) → k ≤ from → take k (moved_to_end l from n) ≡ take k l
  unfolding raised
  front_kept k h = cases (length l) (from + n)
      (λ g. ap (take k) (sym (moves_none g)))
      (λ g.
      let t = length l - n in
      ap (take k) (sym (moves_all g))
      ∙ take-append-le k (take t l) (take n (drop from l)) (omega (arith, front_length l from t n (rises g), h, g))
      ∙ take-take k t l (omega (arith, h, g)))
