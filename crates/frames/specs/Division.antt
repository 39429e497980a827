-- "Then the chosen frame must divide into records exactly, memory lengths 1 or more, variables below 64: else 23 at the
-- first bad record" (document 01, "Frames").
use Rattle.std.specs.Prelude.{List, [], ◌∷◌, ℕ, zero, suc, ◌+◌, length, drop}
use Rattle.frames.specs.Record.{Record, size, Decoded, found, broken, decode}

pub data Division : Type 0 where
  -- the bytes are exactly these records
  records : List Record → Division
  -- the offset of the first broken record
  broken_at : ℕ → Division

-- a record, and the division of what follows it
abbrev pub after : Record → Division → Division
after r (records rs) = records (r ∷ rs)
after r (broken_at i) = broken_at (size r + i)

-- records, and the division of what follows them
abbrev pub after_all : List Record → Division → Division
after_all [] d = d
after_all (r ∷ rs) d = after r (after_all rs d)

abbrev pub divide_on : (List ℕ → Division) → List ℕ → Decoded → Division
divide_on rest l (found r) = after r (rest (drop (size r) l))
divide_on rest l broken = broken_at 0

-- by at most n records
unfoldable pub divide_at_most : ℕ → List ℕ → Division
divide_at_most zero [] = records []
divide_at_most zero (b ∷ l) = broken_at 0
divide_at_most (suc n) [] = records []
divide_at_most (suc n) (b ∷ l) = divide_on (λ rest. divide_at_most n rest) (b ∷ l) (decode (b ∷ l))

-- a record has at least one byte, so that the number of bytes is enough
unfoldable pub divide : List ℕ → Division
divide l = divide_at_most (length l) l
