-- The numbers of a run are those of the end that the machine came to.
use mathlib.Core.List.{List}
use mathlib.Core.Path.{◌≡◌, refl}
use Prim.Native.Nat.{ℕ}
use native.Mathlib.Omega.{arith}
use Rattle.machine.specs.Given.{Given}
use Rattle.machine.specs.Machine.{Ended, completed, stopped}
use Rattle.machine.specs.Run.{ended, steps_of, number_of, used_of}
use Rattle.runner.specs.Returned.{returned, returned_by, Ran}
use Rattle.std.specs.Prelude.{Result, Ok, Err}
use Rattle.refusals.specs.declared.Refusal as code
use Rattle.runner.specs.declared.Completed.{Completed}
use Rattle.lilivrez_agent.specs.RunValues.{cell_values, run_values, RunNumbers}
use Rattle.demands.specs.Stored.{steps_in, used_in, number_told, values_told}

module _ (g : Given) where
  -- ---- the places of what is stored
  pub steps_in_lem : (o : Ended) → steps_in (run_values g o) ≡ steps_of o
  unfolding run_values steps_of
  steps_in_lem (completed a n v rs) = refl
  steps_in_lem (stopped r rs) = refl

  pub used_in_lem : (o : Ended) → used_in (run_values g o) ≡ used_of g o
  unfolding run_values
  used_in_lem (completed a n v rs) = refl
  used_in_lem (stopped r rs) = refl

  -- ---- what `run` answers
  told_by : (r : Result Completed code.Refusal) (o : Ended) → returned_by r ≡ returned g o → (number_told r ≡ number_of o) × (values_told g.used r ≡ run_values g o)
  unfolding returned number_of run_values used_of cell_values
  told_by (Ok c) (completed x k v rs) p = (refl, cc)
  told_by (Ok c) (stopped x rs) p = absurd (let z : ◌≡◌ {A = ℕ} 0 1 = cc in omega arith)
  told_by (Err y) (completed x k v rs) p = absurd (let z : ◌≡◌ {A = ℕ} 0 1 = cc in omega arith)
  told_by (Err y) (stopped x rs) p = (cc, cc)

pub run_told : {g : Given} {r : Result Completed code.Refusal} {v b : List ℕ} → Ran g r v b → RunNumbers g (number_told r) (values_told g.used r) v b
run_told {g} {r} ran =
    let p = told_by g r (ended g) ran.answer in
    record { number_of = p.0; values_of = p.1; variables_of = ran.variables; buffer_of = ran.buffer; typed = ran.typed }
