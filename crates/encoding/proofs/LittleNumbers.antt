-- Numbers and their bytes, least significant byte first.
use mathlib.Core.List.{List, [], ◌∷◌, ◌++◌}
use mathlib.Core.Path.{◌≡◌, refl, ap}
use Prim.Native.Nat.{ℕ, zero, suc, ◌+◌, ◌*◌, ◌/◌, ◌%◌, ◌^◌, ◌<◌}
use native.Mathlib.Nat.{suc-add, pow-zero, pow-suc, div-div-eq-div-mul, mul_comm, div-one}
use native.Mathlib.Omega.{arith}
use lib.ListN.{length}
use Rattle.encoding.specs.LittleEndian.{little_endian, little_bytes}
use Rattle.encoding.specs.Ranges.{AllBytes}

pub length_little : (n v : ℕ) → length (little_bytes n v) ≡ n
unfolding little_bytes
length_little zero v = refl
length_little (suc n) v = ap suc (length_little n (v / 256))

-- the number of a number's bytes is that number
pub little_of_bytes : (n v : ℕ) → v < 256 ^ n → little_endian (little_bytes n v) ≡ v
unfolding little_endian little_bytes
little_of_bytes zero v h = let k = rw pow-zero at h in omega arith
little_of_bytes (suc n) v h =
    let k : v < 256 ^ n * 256 = rw pow-suc at h in
    let q : v / 256 < 256 ^ n = omega arith in
    omega (arith, little_of_bytes n (v / 256) q)

-- one byte more, as a loop writes it
pub little_snoc : (n v : ℕ) → little_bytes (n + 1) v ≡ little_bytes n v ++ (v / 256 ^ n % 256 ∷ [])
unfolding little_bytes
little_snoc zero v = simp (pow-zero, div-one)
little_snoc (suc n) v = rw (suc-add, little_bytes, little_snoc n (v / 256), div-div-eq-div-mul, pow-suc, mul_comm 256)

-- ---- of bytes
pub little_below : (bs : List ℕ) → AllBytes bs → little_endian bs < 256 ^ length bs
unfolding little_endian
little_below [] h = rw pow-zero (omega arith)
little_below (b ∷ bs) h = rw pow-suc (omega (arith, h 0, little_below bs (λ i. h (suc i))))

pub bytes_of_little : (bs : List ℕ) → AllBytes bs → little_bytes (length bs) (little_endian bs) ≡ bs
unfolding little_endian little_bytes
bytes_of_little [] h = refl
bytes_of_little (b ∷ bs) h =
    let low : (b + 256 * little_endian bs) % 256 ≡ b = omega (arith, h 0) in
    let rest : (b + 256 * little_endian bs) / 256 ≡ little_endian bs = omega (arith, h 0) in
    rw (low, rest, bytes_of_little bs (λ i. h (suc i)))
