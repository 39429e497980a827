use mathlib.Core.Path.{◌≡◌, refl, sym, subst, ◌∙◌}
use Prim.Native.Nat.{ℕ}
use native.Mathlib.Omega.{arith}
use Rattle.memory.specs.Spans.{target_of}
use Rattle.memory.specs.declared.Target.{Target}
use Rattle.machine.specs.Given.{given_by, given}
use Rattle.machine.specs.Run.{input_refusal}
use Rattle.machine.proofs.Promises.{lengths_fine}
use Rattle.runner.specs.Joining.Going.{Gone}
use Rattle.runner.proofs.Promises.{is_accepted}
use Rattle.standing.proofs.Telling.{enter_refused, accepts, enter_inputs, enter_steps, allowed, same_target, stands_on, stands_ended, stands_refused}
use Rattle.standing.proofs.stand.Goals as goal
use Rattle.standing.proofs.stand.Goals.{After-go}

pub returns-in_err-ok : goal.returns-in_err-ok
returns-in_err-ok c = λ _. rw c.from_residual.ensures (enter_refused _ c.verify.result c.verify.ensures (sym c.ok.ensures.value ∙ c.in_err-ok.was) refl)

pub returns-in_err-memory : goal.returns-in_err-memory
unfolding input_refusal
returns-in_err-memory c =
    λ _. rw c.from_residual-in_err-memory.ensures (enter_inputs _ c.verify.result c.verify.ensures (sym c.ok.ensures.value ∙ c.in_ok-ok.was)
    c.inputs_refusal.result c.inputs_refusal.ensures.number (sym c.ok-2.ensures.value ∙ c.in_err-memory.was) refl)

pub go-requires : goal.go-requires
unfolding input_refusal
go-requires c =
    let g = given_by c.args.inputs c.args.variables.now c.args.buffer.now c.args.steps in
    let f = lengths_fine g (allowed c.inputs_refusal.result c.inputs_refusal.ensures.number (sym c.ok-2.ensures.value ∙ c.in_ok-memory.was)) in
    (is_accepted (accepts _ c.verify.result c.verify.ensures (sym c.ok.ensures.value ∙ c.in_ok-ok.was)), f.1, refl)

-- what the loop came to in n steps, of the target that is lent
abbrev gone_at : (c : After-go) → ℕ → ℕ → Target → Type 0
gone_at c tracepoint n t =
    let i = c.args.inputs in
    Gone (given i.code.now i.registers.now c.args.variables.now (target_of t) tracepoint c.args.buffer.now i.used n) c.go.result c.go.new.cells c.go.new.variables c.go.new.buffer

-- those were the steps that were asked for, and the target is the one that was given
gone : (c : After-go) (tracepoint : ℕ) {n : ℕ} → gone_at c tracepoint n c.in_ok-memory.memory.target → n ≡ c.args.steps → gone_at c tracepoint c.args.steps c.args.inputs.target
gone c tracepoint k e =
    subst (gone_at c tracepoint c.args.steps) (same_target c.inputs_refusal.result c.inputs_refusal.ensures.same (sym c.ok-2.ensures.value ∙ c.in_ok-memory.was))
    (subst (λ (m : ℕ). gone_at c tracepoint m c.in_ok-memory.memory.target) e k)

pub returns-in-On : goal.returns-in-On
unfolding input_refusal
returns-in-On c =
    λ t. enter_steps _ c.verify.result c.verify.ensures (sym c.ok.ensures.value ∙ c.in_ok-ok.was)
    c.inputs_refusal.result c.inputs_refusal.ensures.number (sym c.ok-2.ensures.value ∙ c.in_ok-memory.was)
    (stands_on _ (rw c.in-On.is at (gone (goal.at.returns-in-On c).After-go t (c.go.ensures t) (omega arith))))

pub returns-in-Ended : goal.returns-in-Ended
unfolding input_refusal
returns-in-Ended c =
    λ t. enter_steps _ c.verify.result c.verify.ensures (sym c.ok.ensures.value ∙ c.in_ok-ok.was)
    c.inputs_refusal.result c.inputs_refusal.ensures.number (sym c.ok-2.ensures.value ∙ c.in_ok-memory.was)
    (stands_ended _ (rw c.in-Ended.is at (gone (goal.at.returns-in-Ended c).After-go t (c.go.ensures t) (omega arith))))

pub returns-in-Refused : goal.returns-in-Refused
unfolding input_refusal
returns-in-Refused c =
    λ t. enter_steps _ c.verify.result c.verify.ensures (sym c.ok.ensures.value ∙ c.in_ok-ok.was)
    c.inputs_refusal.result c.inputs_refusal.ensures.number (sym c.ok-2.ensures.value ∙ c.in_ok-memory.was)
    (stands_refused _ (rw c.in-Refused.is at (gone (goal.at.returns-in-Refused c).After-go t (c.go.ensures t) (omega arith))))
