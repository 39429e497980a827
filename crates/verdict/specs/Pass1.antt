-- Pass 1: "From offset 0, instructions follow each other to exactly the end. Refusals 2 to 5, tried in that order at an
-- offset."
use Rattle.std.specs.Prelude.{Bool, ◌&&◌, ◌||◌, List, [], ◌∷◌, ℕ, length, leb, ltb, eqb}
use Rattle.sizes.specs.Sizes.{variable_count}
use Rattle.refusals.specs.Numbers.{opcode_unknown, opcode_unsupported, operands_cut, operand_bad}
use Rattle.refusals.specs.Tried.{tried}
use Rattle.isa.specs.Classes.{kind_unknown, kind_unsupported, kind_ext, kind_variable}
use Rattle.isa.specs.Decode.{kind_at, next, operand}
use Rattle.isa.specs.Starts.{starts}
use Rattle.verdict.specs.Fault.{Fault, first, Clear}

-- ext 0, or a variable above 63
abbrev pub operand_wrong : List ℕ → ℕ → Bool
operand_wrong e i = (eqb (kind_at e i) kind_ext && eqb (operand e i) 0) || (eqb (kind_at e i) kind_variable && leb variable_count (operand e i))

-- opcode unknown; unsupported; operands cut short; ext 0 or variable above 63
abbrev pub tests1 : List ℕ → ℕ → List (Bool × ℕ)
tests1 e i =
    (eqb (kind_at e i) kind_unknown, opcode_unknown) ∷ (eqb (kind_at e i) kind_unsupported, opcode_unsupported)
    ∷ (ltb (length e) (next e i), operands_cut) ∷ (operand_wrong e i, operand_bad) ∷ []

-- the refusal at offset i, or 0
unfoldable pub fault1 : List ℕ → ℕ → ℕ
fault1 e i = tried (tests1 e i)

abbrev pub pass1 : List ℕ → Fault
pass1 e = first (fault1 e) (starts e)

-- pass 1 holds
abbrev pub Decodes : List ℕ → Type 0
Decodes e = Clear (fault1 e) e
