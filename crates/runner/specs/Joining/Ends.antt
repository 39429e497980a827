-- How the functions behind the entries say that a run ended.
use Rattle.std.specs.Prelude.{List, ◌≡◌, ℕ, Result, Ok}
use Rattle.refusals.specs.declared.Refusal.{Refusal}
use Rattle.memory.specs.Spans.{target_of}
use Rattle.verdict.specs.Acceptance.{Accepted}
use Rattle.verdict.specs.Verdict.{SetsNothing}
use Rattle.machine.specs.Given.{Given, given}
use Rattle.machine.specs.Machine.{Ended}
use Rattle.machine.specs.Run.{stepped, variables_of, buffer_of}
use Rattle.machine.specs.declared.Fixed.{Fixed}
use Rattle.runner.specs.Returned.{returned, returned_by}
use Rattle.runner.specs.declared.Completed.{Completed}

-- what a run is given, where its inputs are allowed: by what no instruction changes, the variables, the buffer, the
-- tracepoint, the used length and the allowance
abbrev pub given_to : Fixed → List ℕ → List ℕ → ℕ → ℕ → ℕ → Given
given_to f v b t u a = given f.code.now f.registers.now v (target_of f.memory.target) t b u a

-- the run ended as o, an end of the machine
pub record EndsAs (g : Given) (o : Ended) (r : Result Completed Refusal) (v b : List ℕ) : Type 0 where
  pub answer : returned_by r ≡ returned g o
  pub variables : v ≡ variables_of g o
  pub buffer : b ≡ buffer_of g o

-- a run of an accepted expression on inputs that are not refused
abbrev pub RanAccepted : Given → Result Completed Refusal → List ℕ → List ℕ → Type 0
RanAccepted g r v b = EndsAs g (stepped g) r v b

-- the same on the variables themselves: where the run is refused they are as given only if no instruction of the
-- expression is a setv
pub record RanInPlace (g : Given) (r : Result Completed Refusal) (v b : List ℕ) : Type 0 where
  pub answer : returned_by r ≡ returned g (stepped g)
  pub set : (c : Completed) → r ≡ Ok c → v ≡ variables_of g (stepped g)
  pub unset : SetsNothing g.expression → v ≡ g.variables
  pub buffer : b ≡ buffer_of g (stepped g)

-- the expression is accepted, with some values
pub record IsAccepted (e : List ℕ) : Type 0 where
  pub count : ℕ
  pub greatest : ℕ
  pub longest : ℕ
  pub accepts : Accepted e count greatest longest
