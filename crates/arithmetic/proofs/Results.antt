-- Results are words, and what follows from the definitions alone.
use Rattle.std.proofs.Common.{◌≡◌, ℕ, ◌-◌, ◌*◌, ◌%◌, ◌^◌, ◌<◌, ◌≤◌, Bool, true, false, eqb, ltb, refl, lt_of_le_of_lt, div-le_self, arith, le-ltb, lt-ltb, le-leb}
use native.Mathlib.Nat.{mod-le}
use native.Mathlib.Decide.{dec_lt}
use lib.Bits.{and_le_l, or_lt, xor_lt}
use lib.Signed.{mag_shr, shr_z, lt_z}
use borrow.Author.Tests.{lt-leb}
use Rattle.arithmetic.specs.Words.{signed, word, add, sub, div_signed, rem_signed, inserted, lsh, rsh_signed, rsh_unsigned, bit_and, bit_or, bit_xor, truth, log_not, equal, less_signed, less_unsigned, signed_of, ext, zero_ext}
pub use Rattle.arithmetic.proofs.Signs.{div_signed_below, rem_signed_below}
use Rattle.arithmetic.proofs.Signs.{by_sign, word_below, mag_below}
use Rattle.arithmetic.proofs.Shifts.{ext_by, ext_same}

module _ (a b : ℕ) (h : a < 2 ^ 64) where
  pub rsh_signed_below : rsh_signed a b < 2 ^ 64
  unfolding rsh_signed
  rsh_signed_below = word_below (shr_z (signed a) (2 ^ inserted b)) (omega (arith, mag_shr (signed a) (2 ^ inserted b), mag_below a h))

  pub rsh_unsigned_below : rsh_unsigned a b < 2 ^ 64
  unfolding rsh_unsigned
  rsh_unsigned_below = lt_of_le_of_lt (div-le_self a (2 ^ inserted b)) h

  pub bit_and_below : bit_and a b < 2 ^ 64
  unfolding bit_and
  bit_and_below = lt_of_le_of_lt (and_le_l a b) h

  pub bit_or_below : b < 2 ^ 64 → bit_or a b < 2 ^ 64
  unfolding bit_or
  bit_or_below = or_lt 64 a b h

  pub bit_xor_below : b < 2 ^ 64 → bit_xor a b < 2 ^ 64
  unfolding bit_xor
  bit_xor_below = xor_lt 64 a b h

  pub zero_ext_below : zero_ext a b < 2 ^ 64
  unfolding zero_ext
  zero_ext_below =
      elim (dec_lt b 64) [
        | yes l ↦ rw (lt-leb 64 b l) (lt_of_le_of_lt (mod-le a (2 ^ b)) h)
        | no l ↦ rw (le-leb 64 b (omega arith)) h
      ]

pub lsh_below : (a b : ℕ) → lsh a b < 2 ^ 64
unfolding lsh
lsh_below a b = omega arith

pub ext_below : (a n : ℕ) → a < 2 ^ 64 → 0 < n → ext a n < 2 ^ 64
ext_below a n h g =
    elim (dec_lt n 64) [
      | yes l ↦
          let k = 64 - n in
          let x = a * 2 ^ k % 2 ^ 64 in
          rw (← ext_by a n {k = k} (omega arith) g (omega arith)) (word_below (shr_z (signed x) (2 ^ k)) (omega (arith, mag_shr (signed x) (2 ^ k), mag_below x (omega arith))))
      | no l ↦ rw (← ext_same a n (omega arith)) h
    ]

truth_most : (t : Bool) → truth t ≤ 1
truth_most true = omega arith
truth_most false = omega arith

pub log_not_most : (a : ℕ) → log_not a ≤ 1
unfolding log_not
log_not_most a = truth_most (eqb a 0)

module _ (a b : ℕ) where
  pub equal_most : equal a b ≤ 1
  unfolding equal
  equal_most = truth_most (eqb a b)

  pub less_signed_most : less_signed a b ≤ 1
  unfolding less_signed
  less_signed_most = truth_most (lt_z (signed a) (signed b))

  pub less_unsigned_most : less_unsigned a b ≤ 1
  unfolding less_unsigned
  less_unsigned_most = truth_most (ltb a b)

-- ---- two's complement
pub word_signed : (a : ℕ) → a < 2 ^ 64 → word (signed a) ≡ a
word_signed a h = by_sign a (λ z. word z ≡ a) (λ l. refl) (λ l. omega arith)

pub signed_of_64 : (a : ℕ) → a < 2 ^ 64 → signed_of 64 a ≡ signed a
signed_of_64 a h =
    by_sign a (λ z. signed_of 64 a ≡ z) (λ l. rw (lt-ltb a (2 ^ 63) l))
    (λ l. rw (le-ltb a (2 ^ 63) l, lt-ltb a (2 ^ 64) h))

-- ---- single operators
pub sub_add : (a b : ℕ) → a < 2 ^ 64 → b < 2 ^ 64 → add (sub a b) b ≡ a
sub_add a b h k = omega arith

pub least_quotient : div_signed (2 ^ 63) (2 ^ 64 - 1) ≡ 2 ^ 63
unfolding div_signed
least_quotient = refl

pub least_remainder : rem_signed (2 ^ 63) (2 ^ 64 - 1) ≡ 0
unfolding rem_signed
least_remainder = refl

pub zero_ext_none : (a : ℕ) → zero_ext a 0 ≡ 0
unfolding zero_ext
zero_ext_none a = omega arith
