-- What users of `phrases` may cite. The contracts of src/ are the rest: each function appends the text that specs/
-- defines.
use Prim.Native.Nat.{ℕ, suc, ◌+◌, ◌-◌, ◌^◌, ◌≤◌, ◌<◌}
use native.Mathlib.Omega.{arith}
use mathlib.Core.List.{List, [], ◌∷◌, ◌++◌}
use mathlib.Core.Path.{◌≡◌}
use lib.ListN.{length}
use Rattle.io.specs.Digits.{last_digits}
use Rattle.text_buffer.specs.Decimal.{decimal}
use Rattle.phrases.specs.Numbers.{count_text, hex_text, signed_text, value_text}
use Rattle.phrases.proofs.Numbering as numbering

-- k digits are k characters
pub digits_length : (b k v : ℕ) → length (last_digits b k v) ≡ k
digits_length = numbering.digits_length

-- an address has 16 characters
pub address_length : (v : ℕ) → length (hex_text v) ≡ 16
unfolding hex_text
address_length v = numbering.digits_length 16 16 v

-- a count whose number has at most k + 1 digits; a count and a value that are words of 64 bits
pub count_most : (n : ℕ) (word : List ℕ) (k : ℕ) → n < 10 ^ suc k → length (count_text n word) ≤ 3 + k + length word
count_most = numbering.count_most

pub count_length : (n : ℕ) (word : List ℕ) → n < 2 ^ 64 → length (count_text n word) ≤ 22 + length word
count_length n word h = numbering.count_most n word 19 (omega (arith, h))

pub value_length : (v : ℕ) → v < 2 ^ 64 → length (value_text v) ≤ 64
value_length = numbering.value_length

-- a signed number: as it is, or a minus and its distance from 2^64
pub signed_low : (v : ℕ) → v < 2 ^ 63 → decimal v ≡ signed_text v
signed_low = numbering.signed_low

pub signed_high : (v : ℕ) → 2 ^ 63 ≤ v → v < 2 ^ 64 → (45 ∷ []) ++ decimal (18446744073709551615 - v + 1) ≡ signed_text v
signed_high = numbering.signed_high

pub signed_length : (v : ℕ) → v < 2 ^ 64 → length (signed_text v) ≤ 21
signed_length = numbering.signed_length
