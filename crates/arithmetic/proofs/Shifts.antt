-- Shifts by any count, and the extensions.
use Rattle.std.proofs.Common.{◌≡◌, ℕ, suc, ◌+◌, ◌-◌, ◌*◌, ◌/◌, ◌%◌, ◌^◌, ◌<◌, ◌≤◌, Bool, cond, min, sym, ap, ◌∙◌, le_refl, lt_of_lt_of_le, mul-le-mul_right, mod-lt, mod-eq_of_lt, mul_assoc, suc-mul, add-mul, mul-lt-mul_of_pos_right, one-mul, arith, pow_pos, pow_mono, pow-add, le-ltb, lt-ltb, le-leb}
use native.Mathlib.Nat.{mul-mod_left, div-eq_of_lt, min-eq_left, min-eq_right}
use native.Mathlib.Decide.{dec_lt}
use lib.Arith.{digits_div, mod-mul}
use lib.Pow.{pow-lt, shl-shr, ones_lt}
use lib.Signed.{shr_z}
use borrow.Author.Tests.{lt-leb}
use Rattle.arithmetic.specs.Words.{signed, word, inserted, lsh, rsh_signed, rsh_unsigned, copies_of_top, bit_not, signed_of, ext, zero_ext}
use Rattle.arithmetic.proofs.Signs.{low, high}

-- ---- a count of 64 or more shifts every bit out
none_left : (a k : ℕ) → 64 ≤ k → a * 2 ^ k % 2 ^ 64 ≡ 0
none_left a k h =
    let e : k ≡ k - 64 + 64 = omega arith in
    rw e (rw (pow-add 2 (k - 64) 64, ← mul_assoc) (mul-mod_left (a * 2 ^ (k - 64)) (2 ^ 64)))

pub none_right : (a n k : ℕ) → a < 2 ^ n → n ≤ k → a / 2 ^ k ≡ 0
none_right a n k l h = div-eq_of_lt (lt_of_lt_of_le l (pow_mono h))

-- ---- a shift to the right that copies the top bit, by the top bit
pub copying_low : (a k : ℕ) → a < 2 ^ 63 → a / 2 ^ k ≡ word (shr_z (signed a) (2 ^ k))
copying_low a k h = rw (low a h)

pub copying_high : (a k : ℕ) → 2 ^ 63 ≤ a → bit_not (bit_not a / 2 ^ k) ≡ word (shr_z (signed a) (2 ^ k))
copying_high a k h = let e : bit_not a ≡ 2 ^ 64 - suc a = omega arith in rw (high a h, e) (omega arith)

-- from 63 on, no other bit is left
copies : (a k : ℕ) → 63 ≤ k → word (shr_z (signed a) (2 ^ k)) ≡ copies_of_top a
copies a k h =
    elim (dec_lt a (2 ^ 63)) [
      | yes l ↦ sym (copying_low a k l) ∙ none_right a 63 k l h ∙ ap of_top (sym (lt-ltb a (2 ^ 63) l))
      | no l ↦
          let m : 2 ^ 63 ≤ a = omega arith in
          sym (copying_high a k m) ∙ ap bit_not (none_right (bit_not a) 63 k (omega arith) h) ∙ ap of_top (sym (le-ltb a (2 ^ 63) m))
    ]
  where
    of_top : Bool → ℕ
    of_top t = cond t 0 (2 ^ 64 - 1)

-- ---- the shifts by any count
-- what is the same for every count from 64 on has the value at the bits inserted that it has at the count
by_inserted : (f : ℕ → ℕ) (b : ℕ) → (64 ≤ b → f b ≡ f 64) → f b ≡ f (inserted b)
unfolding inserted
by_inserted f b e =
    elim (dec_lt b 64) [
      | yes l ↦ ap f (sym (min-eq_left (omega arith)))
      | no l ↦ let h : 64 ≤ b = omega arith in e h ∙ ap f (sym (min-eq_right h))
    ]

module _ (a b : ℕ) where
  pub lsh_any : a * 2 ^ b % 2 ^ 64 ≡ lsh a b
  unfolding lsh
  lsh_any = by_inserted (λ k. a * 2 ^ k % 2 ^ 64) b (λ h. none_left a b h ∙ sym (none_left a 64 (le_refl 64)))

  pub lsh_out : 64 ≤ b → 0 ≡ lsh a b
  lsh_out h = sym (none_left a b h) ∙ lsh_any

  pub unsigned_any : a < 2 ^ 64 → a / 2 ^ b ≡ rsh_unsigned a b
  unfolding rsh_unsigned
  unsigned_any l = by_inserted (λ k. a / 2 ^ k) b (λ h. none_right a 64 b l h ∙ sym (none_right a 64 64 l (le_refl 64)))

  pub unsigned_out : a < 2 ^ 64 → 64 ≤ b → 0 ≡ rsh_unsigned a b
  unsigned_out l h = sym (none_right a 64 b l h) ∙ unsigned_any l

  pub signed_any : word (shr_z (signed a) (2 ^ b)) ≡ rsh_signed a b
  unfolding rsh_signed
  signed_any = by_inserted (λ k. word (shr_z (signed a) (2 ^ k))) b (λ h. copies a b (omega arith) ∙ sym (copies a 64 (omega arith)))

  pub signed_out : 64 ≤ b → copies_of_top a ≡ rsh_signed a b
  signed_out h = sym (copies a b (omega arith)) ∙ signed_any

  -- the greatest count that the code shifts by serves for every greater one
  pub signed_63 : {k : ℕ} → k ≡ min b 63 → word (shr_z (signed a) (2 ^ k)) ≡ rsh_signed a b
  signed_63 e =
      elim (dec_lt b 64) [
        | yes l ↦ ap copied (e ∙ min-eq_left (omega arith)) ∙ signed_any
        | no l ↦ let h : 63 ≤ b = omega arith in ap copied (e ∙ min-eq_right h) ∙ copies a 63 (le_refl 63) ∙ signed_out (omega arith)
      ]
    where
      copied : ℕ → ℕ
      copied m = word (shr_z (signed a) (2 ^ m))

-- ---- extension from n bits: k bits are above them
module _ (n k : ℕ) (s : n + k ≡ 64) where
  parts : 2 ^ 64 ≡ 2 ^ n * 2 ^ k
  parts = ap (λ (m : ℕ). 2 ^ m) (sym s) ∙ pow-add 2 n k

  -- the n low bits at the top
  lifted : (a : ℕ) → a * 2 ^ k % 2 ^ 64 ≡ a % 2 ^ n * 2 ^ k
  lifted a = rw (parts, mod-mul (a * 2 ^ k) (pow_pos n) (pow_pos k), mul-mod_left, shl-shr) (omega arith)

  -- and back with copies of the topmost
  back : (x : ℕ) → 0 < n → x < 2 ^ n → shr_z (signed (x * 2 ^ k)) (2 ^ k) ≡ signed_of n x
  back x g h =
      let e : n - 1 + k ≡ 63 = omega arith in
      let f : 2 ^ 63 ≡ 2 ^ (n - 1) * 2 ^ k = ap (λ (m : ℕ). 2 ^ m) (sym e) ∙ pow-add 2 (n - 1) k in
      elim (dec_lt x (2 ^ (n - 1))) [
        | yes l ↦
            let t : x * 2 ^ k < 2 ^ 63 = rw f (mul-lt-mul_of_pos_right l (pow_pos k)) in
            rw (low (x * 2 ^ k) t, lt-ltb x (2 ^ (n - 1)) l, shl-shr)
        | no l ↦
            let m : 2 ^ (n - 1) ≤ x = omega arith in
            let t : 2 ^ 63 ≤ x * 2 ^ k = rw f (mul-le-mul_right (2 ^ k) m) in
            let q : 2 ^ n ≡ 2 ^ n - suc x + suc x = omega arith in
            let d : 2 ^ 64 - suc (x * 2 ^ k) ≡ (2 ^ n - suc x) * 2 ^ k + (2 ^ k - 1)
            = omega (arith, parts, ap (λ (y : ℕ). y * 2 ^ k) q, add-mul (2 ^ n - suc x) (suc x) (2 ^ k), suc-mul x (2 ^ k), pow_pos k) in
            rw (high (x * 2 ^ k) t, le-ltb x (2 ^ (n - 1)) m, lt-ltb x (2 ^ n) h, d, digits_div (2 ^ n - suc x) (ones_lt k))
      ]

pub ext_by : (a n : ℕ) {k : ℕ} → n + k ≡ 64 → 0 < n → 0 < k → word (shr_z (signed (a * 2 ^ k % 2 ^ 64)) (2 ^ k)) ≡ ext a n
unfolding ext
ext_by a n {k} s g h = rw (lifted n k s a, back n k s (a % 2 ^ n) g (mod-lt a (pow_pos n)), lt-leb 64 n (omega arith))

pub ext_same : (a n : ℕ) → 64 ≤ n → a ≡ ext a n
unfolding ext
ext_same a n h = rw (le-leb 64 n h)

pub zero_ext_same : (a n : ℕ) → 64 ≤ n → a ≡ zero_ext a n
unfolding zero_ext
zero_ext_same a n h = rw (le-leb 64 n h)

-- a one shifted by less than 64 bits
pub one_shifted : (n : ℕ) → n < 64 → 1 * 2 ^ n % 2 ^ 64 ≡ 2 ^ n
one_shifted n h = simp one-mul (mod-eq_of_lt (pow-lt h))

pub zero_ext_by : (a n : ℕ) {m : ℕ} → m ≡ 2 ^ n → n < 64 → a % m ≡ zero_ext a n
unfolding zero_ext
zero_ext_by a n e h = rw (e, lt-leb 64 n h)
