-- For each entry inputs that give each of its numbers in turn, from 0, where nothing is refused.
use Rattle.std.specs.Prelude.{List, [], ◌∷◌, map, ◌++◌, ℕ, zero, suc, ◌^◌, ◌-◌, replicate}
use Rattle.sizes.specs.Sizes.{variable_count}
use Rattle.memory.specs.Spans.{Target, target}
use Rattle.machine.specs.Given.{Given, given}
use Rattle.demands.specs.Refusals.{Entry, verify, fetch, run, run_default, read, count, locate, walk, next_record_of, Inputs}

-- the bytes l, n times
abbrev times : ℕ → List ℕ → List ℕ
times zero l = []
times (suc n) l = l ++ times n l

-- 0 to 11 of the verifier
abbrev pub expressions : List (List ℕ)
expressions =
    (0x27 ∷ [])
    ∷ []
    ∷ (0x31 ∷ [])
    ∷ (0x34 ∷ [])
    ∷ (0x23 ∷ 0x01 ∷ [])
    ∷ (0x16 ∷ 0x00 ∷ 0x27 ∷ [])
    ∷ (0x21 ∷ 0x00 ∷ 0x03 ∷ [])
    ∷ (0x21 ∷ 0x00 ∷ 0x00 ∷ [])
    ∷ (0x22 ∷ 0x01 ∷ 0x20 ∷ 0x00 ∷ 0x07 ∷ 0x22 ∷ 0x07 ∷ 0x27 ∷ [])
    ∷ (0x22 ∷ 0x09 ∷ 0x32 ∷ 0x01 ∷ 0x27 ∷ [])
    ∷ times 65 (0x22 ∷ 0x00 ∷ [])
    ∷ (0x22 ∷ 0x01 ∷ [])
    ∷ []

-- no memory; a span that ends past 2^64; two spans that share an address
abbrev nothing : Target
nothing = target 0 [] 0 []

abbrev past : Target
past = target (2 ^ 64 - 1) (0x41 ∷ 0x42 ∷ []) 0 []

abbrev shared : Target
shared = target 4096 (0x41 ∷ 0x42 ∷ []) 4097 (0x42 ∷ [])

-- 0, 12, 13 and 19 of a fetch of one byte at the address 4096
abbrev fetches : List (Inputs fetch)
fetches =
    (target 4096 (0x41 ∷ []) 0 [], 4096, 1)
    ∷ (past, 4096, 1)
    ∷ (shared, 4096, 1)
    ∷ (nothing, 4096, 1)
    ∷ []

-- a run with the allowance n, with no variable set and a buffer of 8 bytes of which u are used
abbrev on : ℕ → List ℕ → List ℕ → Target → ℕ → Given
on n e r t u = given e r (replicate variable_count 0) t 7 (replicate 8 0) u n

-- on no registers and no memory
abbrev plain : ℕ → List ℕ → Given
plain n e = on n e [] nothing 0

-- 0 to 11 by the same expressions, and 12 to 15
abbrev early : ℕ → List Given
early n =
    map (plain n) expressions ++ (
    on n (0x27 ∷ []) [] past 0
    ∷ on n (0x27 ∷ []) [] shared 0
    ∷ on n (0x27 ∷ []) (replicate 257 0) nothing 0
    ∷ on n (0x27 ∷ []) [] nothing 9
    ∷ []
    )

-- 17 to 21
abbrev late : ℕ → List Given
late n =
    plain n (0x22 ∷ 0x01 ∷ 0x22 ∷ 0x00 ∷ 0x05 ∷ 0x27 ∷ [])
    ∷ plain n (0x26 ∷ 0x00 ∷ 0x00 ∷ 0x27 ∷ [])
    ∷ plain n (0x22 ∷ 0x00 ∷ 0x17 ∷ 0x27 ∷ [])
    ∷ plain n (0x22 ∷ 0x00 ∷ 0x24 ∷ 0x00 ∷ 0x01 ∷ 0x00 ∷ 0x00 ∷ 0x0c ∷ 0x27 ∷ [])
    ∷ plain n (0x2e ∷ 0x00 ∷ 0x00 ∷ 0x27 ∷ [])
    ∷ []

-- a frame with no records, and one whose only record is broken
abbrev empty : List ℕ
empty = 0x46 ∷ 0x00 ∷ 0x07 ∷ 0x00 ∷ 0x00 ∷ 0x00 ∷ 0x00 ∷ 0x00 ∷ []

abbrev broken : List ℕ
broken = 0x00 ∷ 0x46 ∷ 0x00 ∷ 0x07 ∷ 0x00 ∷ 0x01 ∷ 0x00 ∷ 0x00 ∷ 0x00 ∷ []

-- one with a variable's record
abbrev recorded : List ℕ
recorded = 0x56 ∷ replicate 12 0 ++ (0x46 ∷ 0x00 ∷ 0x07 ∷ 0x00 ∷ 0x0d ∷ 0x00 ∷ 0x00 ∷ 0x00 ∷ [])

-- for each number of an entry, in the table's order, inputs that give it
unfoldable pub examples : (x : Entry) → List (Inputs x)
examples verify = expressions
examples fetch = fetches
examples run = early 9 ++ (plain 0 (0x27 ∷ []) ∷ late 9)
examples run_default = early 9 ++ late 9
examples read = (recorded, 21, 0, 0) ∷ ([], 1, 0, 0) ∷ (0x00 ∷ [], 1, 0, 0) ∷ (broken, 9, 0, 0) ∷ ([], 0, 0, 0) ∷ (empty, 8, 0, 0) ∷ []
examples count = (empty, 8, 0) ∷ ([], 1, 0) ∷ (0x00 ∷ [], 1, 0) ∷ (broken, 9, 0) ∷ ([], 0, 0) ∷ []
examples locate = (empty, 8, 0) ∷ ([], 1, 0) ∷ (0x00 ∷ [], 1, 0) ∷ ([], 0, 0) ∷ []
examples walk = (empty, 8) ∷ ([], 1) ∷ (0x00 ∷ [], 1) ∷ ([], 0) ∷ []
examples next_record_of = (recorded, 13, 0) ∷ ([], 1, 0) ∷ (broken, 1, 0) ∷ ([], 0, 0) ∷ []
