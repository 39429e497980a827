-- What each operator computes on words of 64 bits, the natural numbers below 2 ^ 64: the GDB manual, "Bytecode
-- Descriptions" (source document 003), document 01, "Meanings the manual leaves open", and document 02, M-100. An
-- operator has its opcode's name; of two operands a is the next-to-top value and b the top.
use Rattle.std.specs.Prelude.{ℕ, ◌+◌, ◌-◌, ◌*◌, ◌/◌, ◌%◌, ◌^◌, min, Bool, cond, ℤ, pos, ◌==◌, int_div, int_lt, int_rem, nat_le, nat_lt}
use Rattle.std.specs.Int.Bits as Bits
use Rattle.std.proofs.Math.IntN.{sub_ℕ}
use Rattle.std.specs.Int.Signed.{shr_z}
use Rattle.std.specs.Int.{w64}
use Rattle.std.proofs.Common.{to_z, of_z}

-- ---- two's complement
-- the signed number that a word stands for: itself below 2 ^ 63, and 2 ^ 64 less from there on
abbrev pub signed : ℕ → ℤ
signed a = to_z w64 a

-- the word that stands for a signed number: itself, and 2 ^ 64 more for a negative one
abbrev pub word : ℤ → ℕ
word z = of_z w64 z

-- ---- "Add, subtract, multiply: modulo 2^64."
abbrev pub add : ℕ → ℕ → ℕ
add a b = (a + b) % 2 ^ 64

abbrev pub sub : ℕ → ℕ → ℕ
sub a b = (a + (2 ^ 64 - b)) % 2 ^ 64

abbrev pub mul : ℕ → ℕ → ℕ
mul a b = a * b % 2 ^ 64

-- ---- "Signed division rounds toward zero; the remainder has the dividend's sign. The least signed number divided by
-- −1 gives itself, remainder 0": its
-- quotient 2 ^ 63 is the word that stands for the least number. A divisor of 0 is refused before (17).
unfoldable pub div_signed : ℕ → ℕ → ℕ
div_signed a b = word (int_div (signed a) (signed b))

abbrev pub div_unsigned : ℕ → ℕ → ℕ
div_unsigned a b = a / b

unfoldable pub rem_signed : ℕ → ℕ → ℕ
rem_signed a b = word (int_rem (signed a) (signed b))

abbrev pub rem_unsigned : ℕ → ℕ → ℕ
rem_unsigned a b = a % b

-- ---- shifts by b bits. M-100: "For right shifts the manual inserts zero bits, or copies of the top bit, and names no
-- limit. From now on a count of 64 or more gives 0 for lsh and rsh_unsigned, and all copies of the top bit for
-- rsh_signed."
-- so many bits are inserted: a word has 64, and with all of them replaced a greater count changes no more
unfoldable pub inserted : ℕ → ℕ
inserted b = min b 64

-- "Shift a left by b bits": the word times the power, modulo 2 ^ 64
unfoldable pub lsh : ℕ → ℕ → ℕ
lsh a b = a * 2 ^ inserted b % 2 ^ 64

-- "inserting copies of the top bit at the high end": the signed number divided by the power, rounded down
unfoldable pub rsh_signed : ℕ → ℕ → ℕ
rsh_signed a b = word (shr_z (signed a) (2 ^ inserted b))

-- "inserting zero bits at the high end": the word divided by the power, rounded down
unfoldable pub rsh_unsigned : ℕ → ℕ → ℕ
rsh_unsigned a b = a / 2 ^ inserted b

-- what the page says of shifts by 64 bits and more: "all copies of the top bit"
abbrev pub copies_of_top : ℕ → ℕ
copies_of_top a = cond (nat_lt a (2 ^ 63)) 0 (2 ^ 64 - 1)

-- and of all shifts, bit by bit: bit i of a word; 0 is the lowest, 63 the top bit
abbrev pub bit : ℕ → ℕ → ℕ
bit i a = a / 2 ^ i % 2

-- ---- bit by bit
unfoldable pub bit_and : ℕ → ℕ → ℕ
bit_and a b = Bits.bit_and a b

unfoldable pub bit_or : ℕ → ℕ → ℕ
bit_or a b = Bits.bit_or a b

unfoldable pub bit_xor : ℕ → ℕ → ℕ
bit_xor a b = Bits.bit_xor a b

abbrev pub bit_not : ℕ → ℕ
bit_not a = 2 ^ 64 - 1 - a

-- ---- comparisons: "push the value one; otherwise, push the value zero"
abbrev pub truth : Bool → ℕ
truth t = cond t 1 0

unfoldable pub log_not : ℕ → ℕ
log_not a = truth (a == 0)

unfoldable pub equal : ℕ → ℕ → ℕ
equal a b = truth (a == b)

unfoldable pub less_signed : ℕ → ℕ → ℕ
less_signed a b = truth (int_lt (signed a) (signed b))

unfoldable pub less_unsigned : ℕ → ℕ → ℕ
less_unsigned a b = truth (nat_lt a b)

-- ---- extension from n bits; "from 64 up, no change"
-- the signed number that n bits stand for: itself below 2 ^ (n - 1), and 2 ^ n less from there on
abbrev pub signed_of : ℕ → ℕ → ℤ
signed_of n x = cond (nat_lt x (2 ^ (n - 1))) (pos x) (sub_ℕ x (2 ^ n))

-- n = 0 is an operand fault, and no expression that is accepted has it
unfoldable pub ext : ℕ → ℕ → ℕ
ext a n = cond (nat_le 64 n) a (word (signed_of n (a % 2 ^ n)))

-- "zero all but the bottom n bits"
unfoldable pub zero_ext : ℕ → ℕ → ℕ
zero_ext a n = cond (nat_le 64 n) a (a % 2 ^ n)
