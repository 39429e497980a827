-- The loop of `little_endian`, which reads from the last byte to the first, over every byte count.
use mathlib.Core.Path.{◌≡◌}
use mathlib.Core.List.{List, ◌∷◌}
use Prim.Native.Nat.{ℕ, suc, ◌<◌, ◌≤◌, ◌+◌, ◌-◌, ◌*◌, ◌^◌}
use native.Mathlib.Nat.{pow-suc, pow-le-pow_right, sub_self, sub-zero}
use native.Mathlib.Omega.{arith}
use lib.ListN.{length, drop, get_or}
use lib.Seq.{drop-cons, drop-length}
use lib.Dec.{lit<}
use Rattle.encoding.specs.LittleEndian.{little_endian}

-- ---- the bytes from index i on are read, and their number is v
pub record Ahead (l : List ℕ) (v i : ℕ) : Type 0 where
  pub within : i ≤ length l
  pub same : v ≡ little_endian (drop i l)
  pub low : v < 256 ^ (length l - i)

pub ahead_start : (l : List ℕ) → Ahead l 0 (length l)
unfolding little_endian
ahead_start l = record { within = omega arith; same = rw drop-length; low = rw sub_self (lit< tt) }

module _ {l : List ℕ} {v i : ℕ} (r : Ahead l v i) where
  -- one more byte fits a 64-bit number
  pub ahead_room : length l ≤ 8 → 0 < i → v * 256 + 255 < 2 ^ 64
  ahead_room h z =
      let q : length l - i ≤ 7 = omega arith in
      let p : 256 ^ (length l - i) ≤ 256 ^ 7 = pow-le-pow_right (lit< tt) q in
      omega (arith, r.low)

  pub ahead_turn : 0 < i → {x : ℕ} → x ≡ get_or l (i - 1) 0 → x < 256 → Ahead l (v * 256 + x) (i - 1)
  unfolding little_endian
  ahead_turn z {x} p s =
      let e : length l - (i - 1) ≡ suc (length l - i) = omega (arith, r.within) in
      let j : suc (i - 1) ≡ i = omega arith in
      let d : drop (i - 1) l ≡ get_or l (i - 1) 0 ∷ drop i l = rw j at (drop-cons l (i - 1) 0 (omega (arith, r.within))) in
      record { within = omega (arith, r.within); same = rw d (omega (arith, r.same)); low = rw (e, pow-suc) (omega (arith, r.low)) }

  pub ahead_end : i ≤ 0 → (v ≡ little_endian l) × (v < 256 ^ length l)
  ahead_end z = let q : i ≡ 0 = omega arith in (rw q at r.same, rw (q, sub-zero) at r.low)
