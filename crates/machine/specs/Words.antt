-- The operators by opcode: the GDB manual, "Bytecode Descriptions". Of two operands a is the next-to-top cell and b the
-- top.
use Rattle.std.specs.Prelude.{Bool, cond, ◌&&◌, ℕ, eqb, leb}
use Rattle.arithmetic.specs.Words.{add, sub, mul, div_signed, div_unsigned, rem_signed, rem_unsigned, lsh, rsh_signed, rsh_unsigned, bit_and, bit_or, bit_xor, bit_not, log_not, equal, less_signed, less_unsigned}

unfoldable pub binary_word : ℕ → ℕ → ℕ → ℕ
binary_word op a b =
    cond (eqb op 0x02) (add a b)
    (cond (eqb op 0x03) (sub a b)
    (cond (eqb op 0x04) (mul a b)
    (cond (eqb op 0x05) (div_signed a b)
    (cond (eqb op 0x06) (div_unsigned a b)
    (cond (eqb op 0x07) (rem_signed a b)
    (cond (eqb op 0x08) (rem_unsigned a b)
    (cond (eqb op 0x09) (lsh a b)
    (cond (eqb op 0x0a) (rsh_signed a b)
    (cond (eqb op 0x0b) (rsh_unsigned a b)
    (cond (eqb op 0x0f) (bit_and a b)
    (cond (eqb op 0x10) (bit_or a b)
    (cond (eqb op 0x11) (bit_xor a b)
    (cond (eqb op 0x13) (equal a b)
    (cond (eqb op 0x14) (less_signed a b)
    (less_unsigned a b)))))))))))))))

-- div_signed, div_unsigned, rem_signed, rem_unsigned
abbrev pub divides : ℕ → Bool
divides op = leb 0x05 op && leb op 0x08

-- 17: "divisor zero"
unfoldable pub zero_divisor : ℕ → ℕ → Bool
zero_divisor op b = eqb b 0 && divides op

unfoldable pub unary_word : ℕ → ℕ → ℕ
unary_word op a = cond (eqb op 0x0e) (log_not a) (bit_not a)
