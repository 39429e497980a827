-- The loop of `big_endian`: so many bytes are read, over every byte count.
use mathlib.Core.Path.{◌≡◌, refl}
use mathlib.Core.List.{List}
use Prim.Native.Nat.{ℕ, zero, suc, ◌<◌, ◌≤◌, ◌+◌, ◌*◌, ◌^◌}
use native.Mathlib.Nat.{pow-zero, pow-suc, pow-le-pow_right}
use native.Mathlib.Numerals.{add-one}
use native.Mathlib.Omega.{arith}
use lib.ListN.{get_or}
use lib.Dec.{lit<}
use Rattle.encoding.specs.BigEndian.{big_endian}
use Rattle.encoding.specs.Ranges.{AllBytes}

-- k of the n bytes from i on are read, and their number is v
pub record Reading (e : List ℕ) (i n v k : ℕ) : Type 0 where
  pub within : k ≤ n
  pub same : v ≡ big_endian e i k
  pub low : v < 256 ^ k

pub reading_start : (e : List ℕ) (i n : ℕ) → Reading e i n 0 0
unfolding big_endian
reading_start e i n = record { within = omega arith; same = refl; low = lit< tt }

module _ {e : List ℕ} {i n v k : ℕ} (r : Reading e i n v k) where
  -- one more byte fits a 64-bit number
  pub reading_room : n ≤ 8 → k < n → v * 256 + 255 < 2 ^ 64
  reading_room h l =
      let q : k ≤ 7 = omega arith in
      let p : 256 ^ k ≤ 256 ^ 7 = pow-le-pow_right (lit< tt) q in
      omega (arith, r.low)

  pub reading_turn : k < n → {x : ℕ} → x ≡ get_or e (i + k) 0 → x < 256 → Reading e i n (v * 256 + x) (k + 1)
  unfolding big_endian
  reading_turn l {x} p s = record {
    within = omega arith;
    same = rw (add-one, r.same, p) refl;
    low = rw (add-one, pow-suc) (omega (arith, r.low));
  }

  pub reading_end : n ≤ k → (v ≡ big_endian e i n) × (v < 256 ^ n)
  reading_end g = let q : k ≡ n = omega (arith, r.within) in (rw q at r.same, rw q at r.low)

-- of bytes, the number fits them
pub big_below : (e : List ℕ) (i n : ℕ) → AllBytes e → big_endian e i n < 256 ^ n
unfolding big_endian
big_below e i zero h = rw pow-zero (omega arith)
big_below e i (suc n) h = rw pow-suc (omega (arith, h (i + n), big_below e i n h))
