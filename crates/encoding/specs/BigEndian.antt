-- Numbers in bytes, most significant byte first: the operands of an expression (document 01, "The instruction table").
use Rattle.std.specs.Prelude.{List, [], ◌∷◌, ◌++◌, ℕ, zero, suc, ◌+◌, ◌*◌, ◌/◌, ◌%◌, get_or}

-- the number in the n bytes from offset i on
unfoldable pub big_endian : List ℕ → ℕ → ℕ → ℕ
big_endian e i zero = 0
big_endian e i (suc n) = big_endian e i n * 256 + get_or e (i + n) 0

-- the n bytes of v
unfoldable pub big_bytes : ℕ → ℕ → List ℕ
big_bytes zero v = []
big_bytes (suc n) v = big_bytes n (v / 256) ++ ((v % 256) ∷ [])
