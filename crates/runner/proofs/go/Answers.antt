use mathlib.Core.Path.{refl}
use native.Mathlib.Nat.{sub_self}
use native.Mathlib.Omega.{arith}
use Rattle.stepping.proofs.Promises.{loop_start, as_long, step_ready, still_left, one_less, turn, ends, halts}
use Rattle.runner.proofs.Leaving.{goes_on, has_ended, is_refused}
use Rattle.runner.proofs.go.Goals as goal

pub loop-left-init : goal.loop-left-init
loop-left-init c = (omega arith, λ _. loop_start c.requires.0.accepts c.requires.1 c.requires.2 (sub_self c.args.allowance))

pub step-requires : goal.step-requires
step-requires c =
    let l = c.loop-left.invariant.1 0 in
    record { ready = step_ready c.requires.0.accepts l; room = omega (arith, l.room, as_long l) }

pub loop-left-preserved : goal.loop-left-preserved
loop-left-preserved c =
    let some = c.loop-left-test.true in
    let i = c.loop-left.invariant in
    (omega (arith, i.0), λ t. rw (← (one_less some i.0)) (turn c.requires.0.accepts (i.1 t) (rw c.in-Ok-On.field-0-is at c.in-Ok-On.ensures)))

pub returns-in-Ok-End : goal.returns-in-Ok-End
returns-in-Ok-End c =
    let i = c.loop-left.invariant in
    λ t. has_ended c.requires.0.accepts (i.1 t) (still_left c.loop-left-test.true i.0) (ends c.requires.0.accepts (i.1 t) (rw c.in-Ok-End.field-0-is at c.in-Ok-End.ensures)) refl

pub returns-in-Err : goal.returns-in-Err
returns-in-Err c =
    let i = c.loop-left.invariant in
    λ t. is_refused c.requires.0.accepts (i.1 t) (still_left c.loop-left-test.true i.0) _ (halts c.requires.0.accepts (i.1 t) c.in-Err.ensures) c.after.ensures

pub returns : goal.returns
returns c = λ t. goes_on c.requires.0.accepts (c.loop-left.invariant.1 t) (omega (arith, c.loop-left.invariant.0))
