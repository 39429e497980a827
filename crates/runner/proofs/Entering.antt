-- How a run begins: a refused expression, refused inputs, or the loop.
use mathlib.Core.List.{List, []}
use mathlib.Core.Path.{◌≡◌, refl, ap, sym, ◌∙◌}
use Prim.Native.Nat.{ℕ}
use native.Mathlib.Omega.{arith}
use Rattle.std.specs.Prelude.{Result, Err}
use Rattle.refusals.specs.Numbers.{number_of}
use Rattle.refusals.specs.Refusal.{told, refusal}
use Rattle.refusals.specs.declared.Reason.{Reason}
use Rattle.refusals.specs.declared.Refusal.{Refusal}
use Rattle.refusals.proofs.Promises.{number_some}
use Rattle.encoding.proofs.Promises.{written_nothing}
use Rattle.frames.specs.Record.{encode_all}
use Rattle.verdict.specs.Verdict.{accepted, refused, verdict}
use Rattle.verdict.proofs.Promises.{accepted_means}
use Rattle.machine.specs.Given.{Given}
use Rattle.machine.specs.Machine.{Ended, stopped}
use Rattle.machine.specs.Run.{input_refusal, ended, left_bytes, variables_of, buffer_of}
use Rattle.machine.specs.Recorded.{Typed}
use Rattle.machine.proofs.Promises.{refused_early, inputs_refused, inputs_fine}
use Rattle.runner.specs.Returned.{returned, Ran}
use Rattle.runner.specs.Joining.Ends.{EndsAs, RanAccepted, IsAccepted}
use Rattle.runner.specs.declared.Completed.{Completed}

pub is_accepted : {e : List ℕ} {n g l : ℕ} → verdict e ≡ accepted n g l → IsAccepted e
is_accepted {e} {n} {g} {l} p = record { count = n; greatest = g; longest = l; accepts = accepted_means e p }

-- nothing is made before stepping
stopped_early : (g : Given) (x : Refusal) → EndsAs g (stopped (told x) []) (Err x) g.variables g.buffer
unfolding returned variables_of buffer_of left_bytes encode_all
stopped_early g x = record { answer = refl; variables = refl; buffer = sym (written_nothing g.buffer g.used) }

module _ (g : Given) (typed : Typed g) where
  ran : {o : Ended} {r : Result Completed Refusal} {v b : List ℕ} → ended g ≡ o → EndsAs g o r v b → Ran g r v b
  ran p e = record { answer = rw p e.answer; variables = rw p e.variables; buffer = rw p e.buffer; typed = typed }

  pub enter_refused : {x : Refusal} → verdict g.expression ≡ refused (told x) → Ran g (Err x) g.variables g.buffer
  enter_refused {x} p = ran (refused_early g p) (stopped_early g x)

  module _ {n h l : ℕ} (p : verdict g.expression ≡ accepted n h l) where
    pub enter_inputs : (y : Reason) → number_of y ≡ input_refusal g → {x : Refusal} → told x ≡ refusal (number_of y) 0 → Ran g (Err x) g.variables g.buffer
    enter_inputs y q {x} e =
        ran (inputs_refused g p (λ z. omega (arith, number_some y, q, z)) ∙ ap (λ t. stopped t []) (ap (λ k. refusal k 0) (sym q) ∙ sym e)) (stopped_early g x)

    pub enter_loop : 0 ≡ input_refusal g → {r : Result Completed Refusal} {v b : List ℕ} → RanAccepted g r v b → Ran g r v b
    enter_loop q e = ran (inputs_fine g p (sym q)) e
