-- Pass 2: "Every jump, reached or not, must aim at an instruction start greater than its own offset. Refusal 6 before
-- 7."
use Rattle.std.specs.Prelude.{Bool, not, ◌&&◌, List, [], ◌∷◌, ℕ, leb}
use Rattle.refusals.specs.Numbers.{jump_no_start, jump_not_forward}
use Rattle.refusals.specs.Tried.{tried}
use Rattle.isa.specs.Decode.{jumps, operand}
use Rattle.isa.specs.Starts.{starts, is_start}
use Rattle.verdict.specs.Fault.{Fault, first, Clear}

-- jump not to a start; jump not forward
abbrev pub tests2 : List ℕ → ℕ → List (Bool × ℕ)
tests2 e k = (jumps e k && not (is_start e (operand e k)), jump_no_start) ∷ (jumps e k && leb (operand e k) k, jump_not_forward) ∷ []

-- the refusal at the start k, or 0
unfoldable pub fault2 : List ℕ → ℕ → ℕ
fault2 e k = tried (tests2 e k)

abbrev pub pass2 : List ℕ → Fault
pass2 e = first (fault2 e) (starts e)

-- pass 2 holds
abbrev pub Aims : List ℕ → Type 0
Aims e = Clear (fault2 e) e
