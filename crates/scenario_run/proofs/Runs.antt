-- A run with what is set is given what is lent. Assumes nothing.
use Prim.Native.Nat.{ℕ}
use mathlib.Core.List.{List}
use mathlib.Core.Path.{◌≡◌, ap, ◌∙◌}
use Rattle.std.proofs.Common.{subst}
use Rattle.std.specs.Prelude.{Option, None, Some, Result}
use Rattle.refusals.specs.declared.Refusal.{Refusal}
use Rattle.machine.specs.Given.{Given, given_by}
use Rattle.machine.specs.Run.{default_allowance}
use Rattle.machine.specs.declared.Inputs.{Inputs}
use Rattle.runner.specs.Returned.{Ran}
use Rattle.runner.specs.declared.Completed.{Completed}
use Rattle.scenario_run.specs.Runs.{allowance_of}
use Rattle.scenario_setting.specs.declared.Setting.{Setting}

module _ (s : Setting) where
  pub default_allowed : s.allowance ≡ None → default_allowance ≡ allowance_of s
  unfolding allowance_of
  default_allowed p = rw p

  pub steps_allowed : (steps : ℕ) → s.allowance ≡ Some steps → steps ≡ allowance_of s
  unfolding allowance_of
  steps_allowed steps p = rw p

-- a run with another allowance that is the same, on what is the same
pub ran_with :
    (i : Inputs) {v b v' b' : List ℕ} {a a' : ℕ} {g : Given} {o : Result Completed Refusal}
    → a ≡ a'
    → given_by i v b a' ≡ g
    → Ran (given_by i v b a) o v' b'
    → Ran g o v' b'
ran_with i {v} {b} {v'} {b'} {o = o} p q h = let P : Given → Type 0 = λ g. Ran g o v' b' in subst P (ap (given_by i v b) p ∙ q) h
