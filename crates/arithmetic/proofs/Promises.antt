-- What users of `arithmetic` may cite, each law stated in full and proved where it is named. The contracts of
-- src/lib.rt are the rest.
use Rattle.std.proofs.Common.{◌≡◌, ℕ, ◌+◌, ◌-◌, ◌*◌, ◌/◌, ◌%◌, ◌^◌, ◌<◌, ◌≤◌, cond, ltb, sym, lt_of_le_of_lt, div-le_self, arith}
use native.Mathlib.Nat.{mod-le}
use lib.Signed.{shr_z}
use Rattle.arithmetic.specs.Words.{signed, word, add, sub, mul, div_signed, div_unsigned, rem_signed, rem_unsigned, lsh, rsh_signed, rsh_unsigned, copies_of_top, bit, bit_and, bit_or, bit_xor, bit_not, log_not, equal, less_signed, less_unsigned, signed_of, ext, zero_ext}
use Rattle.arithmetic.proofs.Results as results
use Rattle.arithmetic.proofs.Shifts as shifts
use Rattle.arithmetic.proofs.ShiftedBits as bits

-- ---- every result is a word
module _ (a b : ℕ) where
  pub add_below : add a b < 2 ^ 64
  add_below = omega arith

  pub sub_below : sub a b < 2 ^ 64
  sub_below = omega arith

  pub mul_below : mul a b < 2 ^ 64
  mul_below = omega arith

  pub lsh_below : lsh a b < 2 ^ 64
  lsh_below = results.lsh_below a b

module _ (a b : ℕ) (h : a < 2 ^ 64) where
  pub div_signed_below : div_signed a b < 2 ^ 64
  div_signed_below = results.div_signed_below a b h

  pub div_unsigned_below : div_unsigned a b < 2 ^ 64
  div_unsigned_below = lt_of_le_of_lt (div-le_self a b) h

  pub rem_signed_below : rem_signed a b < 2 ^ 64
  rem_signed_below = results.rem_signed_below a b h

  pub rem_unsigned_below : rem_unsigned a b < 2 ^ 64
  rem_unsigned_below = lt_of_le_of_lt (mod-le a b) h

  pub rsh_signed_below : rsh_signed a b < 2 ^ 64
  rsh_signed_below = results.rsh_signed_below a b h

  pub rsh_unsigned_below : rsh_unsigned a b < 2 ^ 64
  rsh_unsigned_below = results.rsh_unsigned_below a b h

  pub bit_and_below : bit_and a b < 2 ^ 64
  bit_and_below = results.bit_and_below a b h

  pub bit_or_below : b < 2 ^ 64 → bit_or a b < 2 ^ 64
  bit_or_below = results.bit_or_below a b h

  pub bit_xor_below : b < 2 ^ 64 → bit_xor a b < 2 ^ 64
  bit_xor_below = results.bit_xor_below a b h

  -- b bits: none is an operand fault for ext
  pub ext_below : 0 < b → ext a b < 2 ^ 64
  ext_below = results.ext_below a b h

  pub zero_ext_below : zero_ext a b < 2 ^ 64
  zero_ext_below = results.zero_ext_below a b h

pub bit_not_below : (a : ℕ) → bit_not a < 2 ^ 64
bit_not_below a = omega arith

-- ---- comparisons and log_not answer 0 or 1
module _ (a b : ℕ) where
  pub equal_most : equal a b ≤ 1
  equal_most = results.equal_most a b

  pub less_signed_most : less_signed a b ≤ 1
  less_signed_most = results.less_signed_most a b

  pub less_unsigned_most : less_unsigned a b ≤ 1
  less_unsigned_most = results.less_unsigned_most a b

pub log_not_most : (a : ℕ) → log_not a ≤ 1
log_not_most = results.log_not_most

-- ---- two's complement: the word of a word's signed number is that word; a word is 64 bits that stand for a signed
-- number
pub word_signed : (a : ℕ) → a < 2 ^ 64 → word (signed a) ≡ a
word_signed = results.word_signed

pub signed_of_64 : (a : ℕ) → a < 2 ^ 64 → signed_of 64 a ≡ signed a
signed_of_64 = results.signed_of_64

-- ---- subtraction undoes addition
pub sub_add : (a b : ℕ) → a < 2 ^ 64 → b < 2 ^ 64 → add (sub a b) b ≡ a
sub_add = results.sub_add

-- ---- "The least signed number divided by −1 gives itself, remainder 0."
pub least_quotient : div_signed (2 ^ 63) (2 ^ 64 - 1) ≡ 2 ^ 63
least_quotient = results.least_quotient

pub least_remainder : rem_signed (2 ^ 63) (2 ^ 64 - 1) ≡ 0
least_remainder = results.least_remainder

-- ---- shifts. M-100: "the manual inserts zero bits, or copies of the top bit, and names no limit": each count
-- multiplies or divides by its power of 2
module _ (a b : ℕ) where
  pub lsh_any : lsh a b ≡ a * 2 ^ b % 2 ^ 64
  lsh_any = sym (shifts.lsh_any a b)

  pub rsh_signed_any : rsh_signed a b ≡ word (shr_z (signed a) (2 ^ b))
  rsh_signed_any = sym (shifts.signed_any a b)

  pub rsh_unsigned_any : a < 2 ^ 64 → rsh_unsigned a b ≡ a / 2 ^ b
  rsh_unsigned_any h = sym (shifts.unsigned_any a b h)

  -- M-100: "a count of 64 or more gives 0 for lsh and rsh_unsigned, and all copies of the top bit for rsh_signed"
  pub lsh_out : 64 ≤ b → lsh a b ≡ 0
  lsh_out k = sym (shifts.lsh_out a b k)

  pub rsh_unsigned_out : a < 2 ^ 64 → 64 ≤ b → rsh_unsigned a b ≡ 0
  rsh_unsigned_out h k = sym (shifts.unsigned_out a b h k)

  pub rsh_signed_out : 64 ≤ b → rsh_signed a b ≡ copies_of_top a
  rsh_signed_out k = sym (shifts.signed_out a b k)

-- ---- the same, bit by bit, by which a word is determined: each bit that is left comes from b places away
pub same_bits : (a b : ℕ) → a < 2 ^ 64 → b < 2 ^ 64 → ((i : ℕ) → i < 64 → bit i a ≡ bit i b) → a ≡ b
same_bits = bits.same_bits

module _ (a b i : ℕ) (h : a < 2 ^ 64) (k : i < 64) where
  -- "Shift a left by b bits": the b lowest bits are 0
  pub lsh_bit : bit i (lsh a b) ≡ cond (ltb i b) 0 (bit (i - b) a)
  lsh_bit = bits.lsh_bit a b i k

  -- "inserting copies of the top bit at the high end"
  pub rsh_signed_bit : bit i (rsh_signed a b) ≡ cond (ltb (b + i) 64) (bit (b + i) a) (bit 63 a)
  rsh_signed_bit = bits.signed_bit a b i h k

  -- "inserting zero bits at the high end"
  pub rsh_unsigned_bit : bit i (rsh_unsigned a b) ≡ cond (ltb (b + i) 64) (bit (b + i) a) 0
  rsh_unsigned_bit = bits.unsigned_bit a b i h

-- ---- "from 64 up, no change"; "zero_ext 0 gives 0"
pub ext_same : (a n : ℕ) → 64 ≤ n → ext a n ≡ a
ext_same a n h = sym (shifts.ext_same a n h)

pub zero_ext_same : (a n : ℕ) → 64 ≤ n → zero_ext a n ≡ a
zero_ext_same a n h = sym (shifts.zero_ext_same a n h)

pub zero_ext_none : (a : ℕ) → zero_ext a 0 ≡ 0
zero_ext_none = results.zero_ext_none
