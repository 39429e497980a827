-- The bits of a word, and of one that is shifted.
use Rattle.std.proofs.Common.{◌≡◌, ℕ, zero, suc, ◌+◌, ◌-◌, ◌*◌, ◌/◌, ◌%◌, ◌^◌, ◌<◌, ◌≤◌, cond, ltb, sym, refl, ap, ◌∙◌, subst, le_refl, lt_of_le_of_lt, mod-lt, mul_assoc, add-mul, pow-suc, div-le_self, arith, pow_pos, pow-add, shr-shr, shr_lt, le-ltb, lt-ltb}
use native.Mathlib.Decide.{dec_lt}
use lib.Arith.{digits_div}
use lib.Bits.{shifted_even}
use lib.Pow.{field, mod-mod-pow, shl-shr, ones_split, split}
use Rattle.arithmetic.specs.Words.{lsh, rsh_signed, rsh_unsigned, bit_not, bit}
use Rattle.arithmetic.proofs.Shifts.{none_right, lsh_any, unsigned_any, signed_any, copying_low, copying_high}

-- two numbers of n bits, each bit of one as that of the other, are equal
same_of : (n a b : ℕ) → a < 2 ^ n → b < 2 ^ n → ((i : ℕ) → i < n → bit i a ≡ bit i b) → a ≡ b
same_of zero a b h k e = omega arith
same_of (suc n) a b h k e =
    let half : (x : ℕ) → x < 2 ^ suc n → x / 2 < 2 ^ n = λ x l. shr_lt n 1 (subst (λ (m : ℕ). x < 2 ^ m) (omega arith) l) in
    let next : (x i : ℕ) → bit i (x / 2) ≡ bit (suc i) x = λ x i. ap (λ (y : ℕ). y % 2) (shr-shr x 1 i ∙ ap (λ (m : ℕ). x / 2 ^ m) (omega arith)) in
    let high : a / 2 ≡ b / 2 = same_of n (a / 2) (b / 2) (half a h) (half b k) (λ i l. next a i ∙ e (suc i) (omega arith) ∙ sym (next b i)) in
    let low : a / 1 % 2 ≡ b / 1 % 2 = e 0 (omega arith) in
    omega (arith, high, low)

pub same_bits : (a b : ℕ) → a < 2 ^ 64 → b < 2 ^ 64 → ((i : ℕ) → i < 64 → bit i a ≡ bit i b) → a ≡ b
same_bits = same_of 64

-- no bit is set from the n-th on in a number of n bits
bit_above : (a n i : ℕ) → a < 2 ^ n → n ≤ i → bit i a ≡ 0
bit_above a n i l h = ap (λ (x : ℕ). x % 2) (none_right a n i l h)

-- the bits below 64 are those of the number modulo 2 ^ 64
bit_below : (a i : ℕ) → i < 64 → bit i (a % 2 ^ 64) ≡ bit i a
bit_below a i h =
    let e : 64 ≡ 64 - i + i = omega arith in
    let f : 64 - i ≡ 63 - i + 1 = omega arith in
    ap (λ (k : ℕ). a % 2 ^ k / 2 ^ i % 2) e ∙ ap (λ (x : ℕ). x % 2) (field a (64 - i) i)
    ∙ ap (λ (k : ℕ). a / 2 ^ i % 2 ^ k % 2) f ∙ mod-mod-pow (a / 2 ^ i) (63 - i) 1

pub lsh_bit : (a b i : ℕ) → i < 64 → bit i (lsh a b) ≡ cond (ltb i b) 0 (bit (i - b) a)
lsh_bit a b i h =
    ap (bit i) (sym (lsh_any a b)) ∙ bit_below (a * 2 ^ b) i h
    ∙ elim (dec_lt i b) [
      | yes l ↦
          let e : b ≡ suc (b - suc i) + i = omega arith in
          rw (lt-ltb i b l)
          (ap (λ (k : ℕ). bit i (a * 2 ^ k)) e
          ∙ ap (λ (x : ℕ). bit i (a * x)) (pow-add 2 (suc (b - suc i)) i)
          ∙ ap (bit i) (sym (mul_assoc a (2 ^ suc (b - suc i)) (2 ^ i)))
          ∙ ap (λ (x : ℕ). x % 2) (shl-shr (a * 2 ^ suc (b - suc i)) i) ∙ shifted_even a (b - suc i))
      | no l ↦
          let m : b ≤ i = omega arith in
          let e : i ≡ b + (i - b) = omega arith in
          rw (le-ltb i b m)
          (ap (λ (k : ℕ). bit k (a * 2 ^ b)) e ∙ ap (λ (x : ℕ). x % 2) (sym (shr-shr (a * 2 ^ b) b (i - b)))
          ∙ ap (bit (i - b)) (shl-shr a b))
    ]

pub unsigned_bit : (a b i : ℕ) → a < 2 ^ 64 → bit i (rsh_unsigned a b) ≡ cond (ltb (b + i) 64) (bit (b + i) a) 0
unsigned_bit a b i h =
    ap (bit i) (sym (unsigned_any a b h)) ∙ ap (λ (x : ℕ). x % 2) (shr-shr a b i)
    ∙ elim (dec_lt (b + i) 64) [
      | yes l ↦ rw (lt-ltb (b + i) 64 l)
      | no l ↦ let m : 64 ≤ b + i = omega arith in rw (le-ltb (b + i) 64 m) (bit_above a 64 (b + i) h m)
    ]

-- ---- the top bit copied: a word whose top bit is 1 is shifted as its complement
complement_bit : (a i : ℕ) → a < 2 ^ 64 → i < 64 → bit i (bit_not a) ≡ 1 - bit i a
complement_bit a i h l =
    let q = a / 2 ^ i in
    let r = a % 2 ^ i in
    let j = 63 - i in
    let e : suc j + i ≡ 64 = omega arith in
    let m : q < 2 ^ suc j = shr_lt (suc j) i (subst (λ (k : ℕ). a < 2 ^ k) (sym e) h) in
    let d : 2 ^ suc j ≡ 2 ^ j * 2 = pow-suc 2 j in
    let w = 2 ^ suc j - 1 - q in
    let s : r < 2 ^ i = mod-lt a (pow_pos i) in
    let u : 2 ^ suc j - 1 ≡ q + w = omega arith in
    let t : 2 ^ (suc j + i) - 1 ≡ (q + w) * 2 ^ i + (2 ^ i - 1) = ones_split (suc j) i ∙ ap (λ (x : ℕ). x * 2 ^ i + (2 ^ i - 1)) u in
    let f : bit_not a ≡ w * 2 ^ i + (2 ^ i - 1 - r)
    = omega (arith, ap (λ (k : ℕ). 2 ^ k) e, t, add-mul q w (2 ^ i), split a i, s) in
    let g : bit_not a / 2 ^ i ≡ w = ap (λ (x : ℕ). x / 2 ^ i) f ∙ digits_div w (omega (arith, s)) in
    ap (λ (x : ℕ). x % 2) g ∙ omega (arith, d, m)

-- bit i of the shifted word is bit j of the word, where every number of 63 bits has equal bits b + i and j
copied_bit : (a b i j : ℕ) → a < 2 ^ 64 → i < 64 → j < 64 → ((n : ℕ) → n < 2 ^ 63 → bit (b + i) n ≡ bit j n) → bit i (rsh_signed a b) ≡ bit j a
copied_bit a b i j h k l same =
    ap (bit i) (sym (signed_any a b))
    ∙ elim (dec_lt a (2 ^ 63)) [
      | yes m ↦ ap (bit i) (sym (copying_low a b m)) ∙ moved a m
      | no m ↦
          let n = bit_not a in
          let p : n / 2 ^ b < 2 ^ 64 = lt_of_le_of_lt (div-le_self n (2 ^ b)) (omega arith) in
          ap (bit i) (sym (copying_high a b (omega arith))) ∙ complement_bit (n / 2 ^ b) i p k
          ∙ ap (λ (x : ℕ). 1 - x) (moved n (omega arith)) ∙ sym (complement_bit n j (omega arith) l)
          ∙ ap (bit j) (omega arith)
    ]
  where
    moved : (n : ℕ) → n < 2 ^ 63 → bit i (n / 2 ^ b) ≡ bit j n
    moved n m = ap (λ (x : ℕ). x % 2) (shr-shr n b i) ∙ same n m

pub signed_bit : (a b i : ℕ) → a < 2 ^ 64 → i < 64 → bit i (rsh_signed a b) ≡ cond (ltb (b + i) 64) (bit (b + i) a) (bit 63 a)
signed_bit a b i h k =
    elim (dec_lt (b + i) 64) [
      | yes l ↦ rw (lt-ltb (b + i) 64 l) (copied_bit a b i (b + i) h k l (λ n m. refl))
      | no l ↦
          let e : 64 ≤ b + i = omega arith in
          rw (le-ltb (b + i) 64 e)
          (copied_bit a b i 63 h k (le_refl 64) (λ n m. bit_above n 63 (b + i) m (omega arith) ∙ sym (bit_above n 63 63 m (le_refl 63))))
    ]
