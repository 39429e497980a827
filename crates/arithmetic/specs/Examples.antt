-- Examples of the operators: one statement over one list of results and what they must be.
use Rattle.std.specs.Prelude.{ℕ, ◌-◌, ◌^◌, Bool, true, ◌&&◌, T, List, [], ◌∷◌, ◌==◌}
use Rattle.arithmetic.specs.Words.{add, sub, mul, div_signed, div_unsigned, rem_signed, rem_unsigned, inserted, lsh, rsh_signed, rsh_unsigned, bit_and, bit_or, bit_xor, bit_not, log_not, equal, less_signed, less_unsigned, ext, zero_ext}

-- the word of −n
abbrev minus : ℕ → ℕ
minus n = 2 ^ 64 - n

abbrev agree : List (ℕ × ℕ) → Bool
agree [] = true
agree (c ∷ cs) = c.0 == c.1 && agree cs

unfoldable pub results : List (ℕ × ℕ)
results =
    -- document 01: `22 80 16 08 27`, and `25 80 00 00 00 00 00 00 00 22 01 16 01 05 27`
    (ext 0x80 8, 2 ^ 64 - 128)
    ∷ (div_signed (2 ^ 63) (ext 1 1), 2 ^ 63)
    ∷ (rem_signed (2 ^ 63) (minus 1), 0)
    -- modulo 2^64
    ∷ (add (minus 1) 1, 0) ∷ (sub 0 1, minus 1) ∷ (sub 5 5, 0) ∷ (mul (minus 1) (minus 1), 1) ∷ (mul (2 ^ 32) (2 ^ 32), 0)
    -- toward zero, and the dividend's sign
    ∷ (div_signed (minus 7) 2, minus 3) ∷ (div_signed 7 (minus 2), minus 3) ∷ (div_signed (minus 7) (minus 2), 3)
    ∷ (rem_signed (minus 7) 2, minus 1) ∷ (rem_signed 7 (minus 2), 1) ∷ (rem_signed (minus 6) 2, 0)
    ∷ (div_unsigned (minus 7) 2, 2 ^ 63 - 4) ∷ (rem_unsigned (minus 7) 2, 1)
    -- counts 0, 1, and M-100: 63, 64, 65, 2^64 - 1; the top bit 0 and 1
    ∷ (lsh 3 0, 3) ∷ (lsh 3 1, 6) ∷ (lsh 3 63, 2 ^ 63) ∷ (lsh 3 64, 0) ∷ (lsh 3 65, 0) ∷ (lsh 3 (2 ^ 32), 0) ∷ (lsh 3 (minus 1), 0)
    ∷ (lsh (minus 3) 0, minus 3) ∷ (lsh (minus 3) 1, minus 6) ∷ (lsh (minus 3) 63, 2 ^ 63) ∷ (lsh (minus 3) 64, 0)
    ∷ (lsh (minus 3) 65, 0) ∷ (lsh (minus 3) (2 ^ 32), 0) ∷ (lsh (minus 3) (minus 1), 0)
    ∷ (rsh_signed 3 0, 3) ∷ (rsh_signed 3 1, 1) ∷ (rsh_signed 3 63, 0) ∷ (rsh_signed 3 64, 0) ∷ (rsh_signed 3 65, 0)
    ∷ (rsh_signed 3 (2 ^ 32), 0) ∷ (rsh_signed 3 (minus 1), 0)
    ∷ (rsh_signed (minus 3) 0, minus 3) ∷ (rsh_signed (minus 3) 1, minus 2) ∷ (rsh_signed (minus 3) 63, minus 1)
    ∷ (rsh_signed (minus 3) 64, minus 1) ∷ (rsh_signed (minus 3) 65, minus 1) ∷ (rsh_signed (minus 3) (2 ^ 32), minus 1)
    ∷ (rsh_signed (minus 3) (minus 1), minus 1)
    ∷ (rsh_unsigned 3 0, 3) ∷ (rsh_unsigned 3 1, 1) ∷ (rsh_unsigned 3 63, 0) ∷ (rsh_unsigned 3 64, 0)
    ∷ (rsh_unsigned 3 65, 0) ∷ (rsh_unsigned 3 (2 ^ 32), 0) ∷ (rsh_unsigned 3 (minus 1), 0)
    ∷ (rsh_unsigned (minus 3) 0, minus 3) ∷ (rsh_unsigned (minus 3) 1, 2 ^ 63 - 2) ∷ (rsh_unsigned (minus 3) 63, 1)
    ∷ (rsh_unsigned (minus 3) 64, 0) ∷ (rsh_unsigned (minus 3) 65, 0) ∷ (rsh_unsigned (minus 3) (2 ^ 32), 0)
    ∷ (rsh_unsigned (minus 3) (minus 1), 0)
    -- bits and comparisons
    ∷ (bit_and 12 10, 8) ∷ (bit_or 12 10, 14) ∷ (bit_xor 12 10, 6) ∷ (bit_not 0, minus 1) ∷ (log_not 0, 1) ∷ (log_not 2, 0)
    ∷ (equal 7 7, 1) ∷ (equal 7 8, 0) ∷ (less_signed (minus 1) 1, 1) ∷ (less_signed 1 (minus 1), 0) ∷ (less_signed (minus 2) (minus 1), 1)
    ∷ (less_unsigned (minus 1) 1, 0) ∷ (less_unsigned 1 1, 0)
    -- ext 1, 63, 64, 255, and zero_ext 0, 1, 63, 64, 255
    ∷ (ext 1 1, minus 1) ∷ (ext 2 1, 0) ∷ (ext (2 ^ 62) 63, minus (2 ^ 62)) ∷ (ext (2 ^ 63) 63, 0) ∷ (ext (2 ^ 63) 64, 2 ^ 63) ∷ (ext 0x80 255, 0x80)
    ∷ (zero_ext (minus 1) 0, 0) ∷ (zero_ext (minus 1) 1, 1) ∷ (zero_ext (minus 1) 63, 2 ^ 63 - 1) ∷ (zero_ext (minus 1) 64, minus 1) ∷ (zero_ext 5 255, 5)
    ∷ []

pub examples : T (agree results)
unfolding results div_signed rem_signed inserted lsh rsh_signed rsh_unsigned bit_and bit_or bit_xor log_not equal less_signed less_unsigned ext zero_ext
examples = tt
