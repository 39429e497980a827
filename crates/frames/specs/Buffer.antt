-- The trace buffer that is lent (document 01, "Running", refusal 15).
use Rattle.std.specs.Prelude.{Bool, ◌||◌, List, ℕ, length, ltb}
use Rattle.sizes.specs.Sizes.{buffer_most}

-- "buffer over 65,536 or used beyond its length"
abbrev pub unfit : List ℕ → ℕ → Bool
unfit buffer used = ltb buffer_most (length buffer) || ltb (length buffer) used
