-- What a run returns (document 01, "Running"): "A completed run returns the answer, the steps and the variables as set;
-- .. the used length grows by exactly what was written. A refusal returns its number, the offset (0 for 1 and 12–15)
-- and the steps done (0 where nothing ran). Variables and used length are as given."
use Rattle.std.specs.Prelude.{List, ◌≡◌, ℕ, Result, Ok, Err}
use Rattle.refusals.specs.Refusal.{Refusal, told}
use Rattle.refusals.specs.declared.Refusal as code
use Rattle.machine.specs.Given.{Given}
use Rattle.machine.specs.Machine.{Answer, no_value, top, top_and_beneath, Ended, completed, stopped}
use Rattle.machine.specs.Run.{ended, variables_of, used_of, buffer_of}
use Rattle.machine.specs.Recorded.{Typed}
use Rattle.runner.specs.declared.Value.{Value}
use Rattle.runner.specs.declared.Value.TheVariants.{Nothing, Top, TopAndBeneath}
use Rattle.runner.specs.declared.Completed.{Completed}

pub data Returned : Type 0 where
  -- the answer, the steps, the used length
  completed_with : Answer → ℕ → ℕ → Returned
  refused_with : Refusal → Returned

-- what document 01's machine returns of what it is given, where it ends so
unfoldable pub returned : Given → Ended → Returned
returned g (completed a n v rs) = completed_with a n (used_of g (completed a n v rs))
returned g (stopped r rs) = refused_with r

-- document 01's number and values for each case of the code's answer
abbrev pub answer_of : Value → Answer
answer_of Nothing = no_value
answer_of (Top x) = top x
answer_of (TopAndBeneath x y) = top_and_beneath x y

abbrev pub returned_by : Result Completed code.Refusal → Returned
returned_by (Ok c) = completed_with (answer_of c.value) c.steps c.used
returned_by (Err r) = refused_with (told r)

-- the steps that the code reports
abbrev pub steps_reported : Result Completed code.Refusal → ℕ
steps_reported (Ok c) = c.steps
steps_reported (Err r) = r.steps

-- the run ended as document 01's machine that is given the same; v and b are the variables and the buffer that it
-- leaves; and what it is given is what the types of the code say
pub record Ran (g : Given) (r : Result Completed code.Refusal) (v b : List ℕ) : Type 0 where
  pub answer : returned_by r ≡ returned g (ended g)
  pub variables : v ≡ variables_of g (ended g)
  pub buffer : b ≡ buffer_of g (ended g)
  pub typed : Typed g
