-- How every answer names a refusal, and its words.
use Rattle.std.specs.Prelude.{ℕ, List, [], ◌∷◌, ◌++◌, get_or}
use Prim.Native.String.{String}
use Rattle.text_buffer.specs.Decimal.{decimal}
use Rattle.text_buffer.specs.Text.{bytes_of}

-- `refused N at offset K`
unfoldable pub refused_at : ℕ → ℕ → List ℕ
refused_at r k = bytes_of "refused " ++ decimal r ++ bytes_of " at offset " ++ decimal k

-- the words at place n are those of refusal n; no refusal has the number 0
abbrev pub refusals : List String
refusals =
    "unknown refusal number" ∷
    "the expression has no bytes, or more than 1024" ∷
    "unknown instruction" ∷
    "this instruction is not supported" ∷
    "the expression ends inside this instruction" ∷
    "ext 0, or a variable number above 63" ∷
    "the jump is not to the start of an instruction" ∷
    "the jump is not forward" ∷
    "paths meet here with unequal stack heights" ∷
    "too few cells on the stack for this instruction" ∷
    "more than 64 cells on the stack" ∷
    "the bytes end before an end instruction" ∷
    "a memory span reaches past the last address" ∷
    "the two memory spans overlap" ∷
    "more than 256 registers" ∷
    "trace buffer too large, or used past its end" ∷
    "the allowed number of steps is used up" ∷
    "division by zero" ∷
    "no register with this number" ∷
    "the memory range cannot be read as a whole" ∷
    "more than 65535 bytes to record at once" ∷
    "too little room left in the trace buffer" ∷
    "the trailer before this offset is broken" ∷
    "a record of the frame is broken" ∷
    "there is no such frame" ∷
    "there is no such record in the frame" ∷
    []

-- a number above the last is unknown too
abbrev pub refusal_of : ℕ → String
refusal_of n = get_or refusals n "unknown refusal number"
