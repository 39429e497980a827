-- What a run returns and stores, in numbers (include/lilivrez_agent.h).
use Rattle.std.specs.Prelude.{List, [], ◌∷◌, ℕ, get_or, Result, Ok, Err}
use Rattle.refusals.specs.Numbers.{number_of}
use Rattle.refusals.specs.declared.Refusal.{Refusal}
use Rattle.runner.specs.Returned.{answer_of}
use Rattle.runner.specs.declared.Completed.{Completed}
use Rattle.lilivrez_agent.specs.RunValues.{cell_values}

-- the steps and the used length, among what `lilivrez_run` stores
abbrev pub steps_in : List ℕ → ℕ
steps_in values = get_or values 1 0

abbrev pub used_in : List ℕ → ℕ
used_in values = get_or values 2 0

-- what `run` answers, as the same numbers. A refusal holds no used length: its caller has the one that was given, u.
abbrev pub number_told : Result Completed Refusal → ℕ
number_told (Ok c) = 0
number_told (Err r) = number_of r.reason

abbrev pub values_told : ℕ → Result Completed Refusal → List ℕ
values_told u (Ok c) = 0 ∷ c.steps ∷ c.used ∷ cell_values (answer_of c.value)
values_told u (Err r) = r.offset ∷ r.steps ∷ u ∷ 0 ∷ 0 ∷ 0 ∷ []
