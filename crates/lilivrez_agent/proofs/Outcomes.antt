-- The numbers of an outcome are those of the end that the machine came to.
use mathlib.Core.List.{List, [], ◌∷◌}
use mathlib.Core.Path.{◌≡◌, refl, sym, ap, ◌∙◌}
use Prim.Native.Nat.{ℕ}
use native.Mathlib.Omega.{arith}
use Rattle.std.specs.Prelude.{Result, Ok, Err}
use Rattle.refusals.specs.Numbers.{number_of}
use Rattle.refusals.specs.declared.Refusal.{Refusal}
use Rattle.machine.specs.Given.{Given}
use Rattle.machine.specs.Machine.{Ended, completed, stopped}
use Rattle.machine.specs.Run as run
use Rattle.machine.specs.Run.{ended, used_of}
use Rattle.runner.specs.Returned.{returned, returned_by, answer_of, Ran}
use Rattle.runner.specs.declared.Value.{Value}
use Rattle.runner.specs.declared.Completed.{Completed}
use Rattle.lilivrez_agent.specs.RunValues.{cell_values, run_values, EndNumbers, RunNumbers}

module _ (g : Given) where
  refused_by : (x : Refusal) (o : Ended) → returned_by (Err x) ≡ returned g o → EndNumbers g o (number_of x.reason) (x.offset ∷ x.steps ∷ g.used ∷ 0 ∷ 0 ∷ 0 ∷ [])
  unfolding returned run.number_of run_values used_of cell_values
  refused_by x (stopped r rs) p = record { number_of = cc; values_of = cc }
  refused_by x (completed a s v rs) p = absurd (let z : ◌≡◌ {A = ℕ} 0 1 = cc in omega arith)

  completed_by : (c : Completed) (o : Ended) → returned_by (Ok c) ≡ returned g o → EndNumbers g o 0 (0 ∷ c.steps ∷ c.used ∷ cell_values (answer_of c.value))
  unfolding returned run.number_of run_values
  completed_by c (stopped r rs) p = absurd (let z : ◌≡◌ {A = ℕ} 0 1 = cc in omega arith)
  completed_by c (completed a s v rs) p = record { number_of = cc; values_of = cc }

  module _ {r : Result Completed Refusal} (o : Ended) (p : returned_by r ≡ returned g o) where
    pub refused_numbers : (x : Refusal) → r ≡ Err x → {u : ℕ} → g.used ≡ u → EndNumbers g o (number_of x.reason) (x.offset ∷ x.steps ∷ u ∷ 0 ∷ 0 ∷ 0 ∷ [])
    refused_numbers x q e = rw (← e) (refused_by _ o (ap returned_by (sym q) ∙ p))

    pub completed_numbers : (c : Completed) → r ≡ Ok c → (a : Value) → c.value ≡ a → EndNumbers g o 0 (0 ∷ c.steps ∷ c.used ∷ cell_values (answer_of a))
    completed_numbers c q a e = rw e at (completed_by _ o (ap returned_by (sym q) ∙ p))

-- numbers that tell what the runner returned, whatever the end, tell how the run ended
pub run_numbers : {g : Given} {r : Result Completed Refusal} {v b : List ℕ} {number : ℕ} {values : List ℕ} → Ran g r v b
    → ((h : Given) (o : Ended) → h.used ≡ g.used → returned_by r ≡ returned h o → EndNumbers h o number values) → RunNumbers g number values v b
run_numbers {g} ran tells =
    let x = tells g (ended g) refl ran.answer in
    record { number_of = x.number_of; values_of = x.values_of; variables_of = ran.variables; buffer_of = ran.buffer; typed = ran.typed }
