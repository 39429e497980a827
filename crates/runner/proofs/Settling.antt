-- A run on the variables themselves, and what it leaves once they are put back.
use mathlib.Core.List.{List}
use mathlib.Core.Bool.{true, false}
use mathlib.Core.Path.{◌≡◌, refl, sym, ◌∙◌}
use Rattle.std.specs.Result.{is_err}
use Prim.Native.Nat.{ℕ}
use Rattle.std.specs.Prelude.{Result, Ok, Err}
use Rattle.refusals.specs.declared.Refusal.{Refusal}
use Rattle.machine.specs.Given.{Given}
use Rattle.machine.specs.Run.{stepped}
use Rattle.runner.specs.Joining.Ends.{RanInPlace, RanAccepted}
use Rattle.runner.specs.declared.Completed.{Completed}
use Rattle.runner.proofs.Reporting.{refused_by}

-- w is left in the variables: as they were where the run completed, and as given where it is refused
pub settled : {g : Given} (r : Result Completed Refusal) {v b w : List ℕ} → RanInPlace g r v b → (is_err r ≡ false → w ≡ v) → (is_err r ≡ true → w ≡ g.variables) → RanAccepted g r w b
settled (Ok c) i left put = record { answer = i.answer; variables = left refl ∙ i.set c refl; buffer = i.buffer }
settled {g} (Err x) i left put = record { answer = i.answer; variables = put refl ∙ sym (refused_by g x (stepped g) i.answer).0; buffer = i.buffer }
